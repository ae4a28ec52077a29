-- Which heads have a spelling: an answer is one of its event's, a call is one of the table with numbers for its values, and a
-- unit is the first of its name.
use Rattle.std.specs.Prelude.{◌≡◌, ℕ, ◌<◌, ◌^◌, IsTrue, List, [], ◌∷◌, ◌++◌, Some}
use Rattle.vx_base.specs.Name.{is_name}
use Rattle.vx_base.specs.Services.{args_list, is_call}
use Rattle.vx_base.specs.declared.call.Call.{Call}
use Rattle.vx_base.specs.declared.number.UnitNo.{UnitNo}
use Rattle.vx_base.specs.declared.record.Answer.{Answer}
use Rattle.vx_base.specs.declared.record.Answer.TheVariants as answer
use Rattle.vx_base.specs.declared.record.Event.{Event}
use Rattle.vx_base.specs.declared.record.Event.TheVariants as event
use Rattle.vx_image.specs.declared.unit.UnitDecl.{UnitDecl}
use Rattle.vx_table.specs.Back.{AreHeld}
use Rattle.vx_lines.specs.Fields.{unit_of}
use Rattle.vx_lines.specs.ReadHead.{as_head, is_plain_call, read_head}
use Rattle.vx_lines.specs.Records.{unit_name, head_line}
use Rattle.vx_lines.specs.Spelled.{IsWord}

abbrev pub IsSpelledCall : Call → Type 0
IsSpelledCall c = IsTrue (is_call c) × AreHeld (args_list c.args) × IsTrue (is_plain_call c)

abbrev pub IsSpelledUnit : List UnitDecl → UnitNo → Type 0
IsSpelledUnit units u = IsTrue (is_name (unit_name units u)) × (unit_of units (unit_name units u) ≡ Some u)

abbrev pub IsSpelledHead : List UnitDecl → Event → Answer → Type 0
IsSpelledHead units (event.Run p) (answer.Service c cond) = IsWord p.0 × IsSpelledCall c
IsSpelledHead units (event.Run p) (answer.Wait c) = IsWord p.0 × IsSpelledCall c
IsSpelledHead units (event.Run p) (answer.Resume cond) = IsWord p.0
IsSpelledHead units (event.Run p) answer.Return = IsWord p.0
IsSpelledHead units (event.Run p) answer.End = IsWord p.0
IsSpelledHead units (event.Run p) answer.Local = IsWord p.0
IsSpelledHead units (event.Ast p) (answer.Ast id) = IsWord p.0 × IsWord id.0
IsSpelledHead units (event.Rdn p) answer.Handler = IsWord p.0
IsSpelledHead units (event.Rdn p) answer.Busy = IsWord p.0
IsSpelledHead units (event.Rdn p) answer.Gone = IsWord p.0
IsSpelledHead units (event.Beg u) (answer.Unit id) = IsSpelledUnit units u × IsWord id.0
IsSpelledHead units (event.Don u) (answer.Unit id) = IsSpelledUnit units u × IsWord id.0
IsSpelledHead units event.Tick (answer.Time t) = t < 2 ^ 64
IsSpelledHead units _ _ = ⊥

-- each head that has a spelling is read back from it
abbrev pub HeadsReadBack : Type 0
HeadsReadBack = (units : List UnitDecl) (n : ℕ) (e : Event) (a : Answer) → n < 2 ^ 64 → IsSpelledHead units e a → read_head units n (head_line units n (as_head e a) ++ 10 ∷ []) ≡ Some (as_head e a)
