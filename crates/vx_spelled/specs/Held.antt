-- What the program's types hold of a record, so that every value of them has it: numbers of 32 bits, a time of 64, names and bytes.
use Rattle.std.specs.Prelude.{◌<◌, ◌^◌, IsTrue, List}
use Rattle.std.specs.List.{AllByRecursion}
use Rattle.vx_base.specs.Name.{is_name}
use Rattle.vx_base.specs.Services.{args_list}
use Rattle.vx_record.specs.Types.{Answer, Cell, Effect, Event, Rec, UnitDecl}
use Rattle.vx_base.specs.declared.effects.Cell.TheVariants.{Local, Common}
use Rattle.vx_base.specs.declared.effects.Effect.TheVariants as effect
use Rattle.vx_base.specs.declared.record.Answer.TheVariants as answer
use Rattle.vx_base.specs.declared.record.Event.TheVariants as event
use Rattle.vx_text.specs.Quote.{AreBytes}
use Rattle.vx_table.specs.Back.{AreHeld}
use Rattle.vx_lines.specs.Spelled.{IsWord, IsSpelledBody, IsSpelledCluster}

abbrev pub IsHeldCell : Cell → Type 0
IsHeldCell (Local p efn) = IsWord p.0 × IsWord efn
IsHeldCell (Common group name n) = IsWord group × IsTrue (is_name name)

abbrev pub IsHeldEffect : Effect → Type 0
IsHeldEffect (effect.Open id kind p mode n) = IsWord id.0 × IsWord p.0 × IsWord n
IsHeldEffect (effect.Fin id cond) = IsWord id.0
IsHeldEffect (effect.Mark id) = IsWord id.0
IsHeldEffect (effect.Que id) = IsWord id.0
IsHeldEffect (effect.Fire id) = IsWord id.0
IsHeldEffect (effect.Drop id) = IsWord id.0
IsHeldEffect (effect.Enter id) = IsWord id.0
IsHeldEffect (effect.Leave id) = IsWord id.0
IsHeldEffect (effect.Flag cell bit) = IsHeldCell cell
IsHeldEffect (effect.Iosb p i cond count info) = IsWord p.0 × IsWord i × IsWord count × IsWord info
IsHeldEffect (effect.Buf p b bytes) = IsWord p.0 × IsWord b × AreBytes bytes
IsHeldEffect (effect.Var p v n) = IsWord p.0 × IsWord n
IsHeldEffect (effect.MPut name id body) = IsTrue (is_name name) × IsWord id.0 × IsSpelledBody body
IsHeldEffect (effect.MGet name w r) = IsTrue (is_name name) × IsWord w.0 × IsWord r.0
IsHeldEffect (effect.MCut name w) = IsTrue (is_name name) × IsWord w.0
IsHeldEffect (effect.Mbx name bit) = IsTrue (is_name name)
IsHeldEffect (effect.Cef group name bit) = IsWord group × IsTrue (is_name name)
IsHeldEffect (effect.Clu p k cluster) = IsWord p.0 × IsSpelledCluster cluster
IsHeldEffect (effect.Enb p mode bit) = IsWord p.0
IsHeldEffect (effect.New p name) = IsWord p.0 × IsTrue (is_name name)
IsHeldEffect (effect.Gone p) = IsWord p.0

abbrev pub IsHeldEvent : Event → Type 0
IsHeldEvent (event.Run p) = IsWord p.0
IsHeldEvent (event.Ast p) = IsWord p.0
IsHeldEvent (event.Rdn p) = IsWord p.0
IsHeldEvent _ = Unit {0}

abbrev pub IsHeldAnswer : Answer → Type 0
IsHeldAnswer (answer.Service c cond) = AreHeld (args_list c.args)
IsHeldAnswer (answer.Wait c) = AreHeld (args_list c.args)
IsHeldAnswer (answer.Ast id) = IsWord id.0
IsHeldAnswer (answer.Unit id) = IsWord id.0
IsHeldAnswer (answer.Time t) = t < 2 ^ 64
IsHeldAnswer _ = Unit {0}

pub record IsHeldRec (r : Rec) : Type 0 where
  pub event : IsHeldEvent r.event
  pub answer : IsHeldAnswer r.answer
  pub effects : AllByRecursion IsHeldEffect r.effects

abbrev pub AreHeldRecs : List Rec → Type 0
AreHeldRecs recs = AllByRecursion IsHeldRec recs

-- each unit has a name
abbrev pub AreNamed : List UnitDecl → Type 0
AreNamed units = AllByRecursion (λ u. IsTrue (is_name u.name)) units
