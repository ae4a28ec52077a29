-- The lines of records: heads, and effects behind them.
use Rattle.std.specs.Prelude.{ℕ, ◌+◌, List, [], ◌∷◌, ◌++◌, map, codes, decimal, Bool, Option, Some, None, slice_index_or}
use Rattle.vx_base.specs.Cond.{name_of}
use Rattle.vx_base.specs.Flags.{one}
use Rattle.vx_base.specs.declared.cond.Cond.{Cond}
use Rattle.vx_base.specs.declared.effects.Cell.{Cell}
use Rattle.vx_base.specs.declared.effects.Effect.{Effect}
use Rattle.vx_base.specs.declared.effects.Opened.{Opened}
use Rattle.vx_base.specs.declared.mode.Mode.{Mode}
use Rattle.vx_base.specs.declared.number.Id.{Id}
use Rattle.vx_base.specs.declared.number.Pid.{Pid}
use Rattle.vx_base.specs.declared.number.UnitNo.{UnitNo}
use Rattle.vx_base.specs.declared.record.Answer.{Answer}
use Rattle.vx_base.specs.declared.record.Event.{Event}
use Rattle.vx_base.specs.declared.record.Rec.{Rec}
use Rattle.vx_base.specs.declared.request.Body.{Body}
use Rattle.vx_base.specs.declared.effects.Cell.TheVariants.{Local, Common}
use Rattle.vx_base.specs.declared.effects.Effect.TheVariants as effect
use Rattle.vx_base.specs.declared.effects.Opened.TheVariants.{Bio, Dio, Attn, Timer, Wake, Ast, Force, Exh}
use Rattle.vx_base.specs.declared.record.Answer.TheVariants as answer
use Rattle.vx_base.specs.declared.record.Event.TheVariants as event
use Rattle.vx_base.specs.declared.request.Body.TheVariants as body
use Rattle.vx_image.specs.declared.unit.UnitDecl.{UnitDecl}
use Rattle.vx_table.specs.Spelling.{target_text, mode_name, call_text}
use Rattle.vx_text.specs.Quote.{quote_text}
pub use Rattle.vx_text.specs.Lines.{ended_lines, spaced}
use Rattle.vx_image.specs.Absent.{no_unit_decl}

-- What effects name.

abbrev pub id_text : Id → List ℕ
id_text id = 35 ∷ decimal id.0

abbrev pub pid_text : Pid → List ℕ
pid_text p = decimal p.0

abbrev pub bit_text : Bool → List ℕ
bit_text bit = decimal (one bit)

-- group:name
abbrev pub cluster_text : ℕ → List ℕ → List ℕ
cluster_text group name = decimal group ++ 58 ∷ name

-- process:flag, or group:name:flag
abbrev pub cell_text : Cell → List ℕ
cell_text (Local p efn) = decimal p.0 ++ 58 ∷ decimal efn
cell_text (Common group name n) = cluster_text group name ++ 58 ∷ decimal n

abbrev pub opened_name : Opened → List ℕ
opened_name Bio = codes "BIO"
opened_name Dio = codes "DIO"
opened_name Attn = codes "ATTN"
opened_name Timer = codes "TIMER"
opened_name Wake = codes "WAKE"
opened_name Ast = codes "AST"
opened_name Force = codes "FORCE"
opened_name Exh = codes "EXH"

-- a dash stands for none
abbrev pub mode_text : Option Mode → List ℕ
mode_text None = codes "-"
mode_text (Some m) = mode_name m

abbrev pub cond_text : Option Cond → List ℕ
cond_text None = codes "-"
cond_text (Some c) = name_of c

abbrev pub joined_text : Option (ℕ × List ℕ) → List ℕ
joined_text None = codes "-"
joined_text (Some (group, name)) = cluster_text group name

abbrev pub body_text : Body → List ℕ
body_text (body.Text bytes) = quote_text bytes
body_text body.Eof = codes "EOF"

abbrev pub effect_words : Effect → List (List ℕ)
effect_words (effect.Open id kind p mode n) = codes "OPEN" ∷ id_text id ∷ opened_name kind ∷ pid_text p ∷ mode_text mode ∷ decimal n ∷ []
effect_words (effect.Fin id cond) = codes "FIN" ∷ id_text id ∷ name_of cond ∷ []
effect_words (effect.Mark id) = codes "MARK" ∷ id_text id ∷ []
effect_words (effect.Que id) = codes "QUE" ∷ id_text id ∷ []
effect_words (effect.Fire id) = codes "FIRE" ∷ id_text id ∷ []
effect_words (effect.Drop id) = codes "DROP" ∷ id_text id ∷ []
effect_words (effect.Enter id) = codes "ENTER" ∷ id_text id ∷ []
effect_words (effect.Leave id) = codes "LEAVE" ∷ id_text id ∷ []
effect_words (effect.Flag cell bit) = codes "FLAG" ∷ cell_text cell ∷ bit_text bit ∷ []
effect_words (effect.Iosb p i cond count info) = codes "IOSB" ∷ pid_text p ∷ decimal i ∷ cond_text cond ∷ decimal count ∷ decimal info ∷ []
effect_words (effect.Buf p b bytes) = codes "BUF" ∷ pid_text p ∷ decimal b ∷ quote_text bytes ∷ []
effect_words (effect.Var p v n) = codes "VAR" ∷ pid_text p ∷ target_text v ∷ decimal n ∷ []
effect_words (effect.MPut name id body) = codes "MPUT" ∷ name ∷ id_text id ∷ body_text body ∷ []
effect_words (effect.MGet name w r) = codes "MGET" ∷ name ∷ id_text w ∷ id_text r ∷ []
effect_words (effect.MCut name w) = codes "MCUT" ∷ name ∷ id_text w ∷ []
effect_words (effect.Mbx name bit) = codes "MBX" ∷ name ∷ bit_text bit ∷ []
effect_words (effect.Cef group name bit) = codes "CEF" ∷ cluster_text group name ∷ bit_text bit ∷ []
effect_words (effect.Clu p k cluster) = codes "CLU" ∷ pid_text p ∷ decimal k ∷ joined_text cluster ∷ []
effect_words (effect.Enb p mode bit) = codes "ENB" ∷ pid_text p ∷ mode_name mode ∷ bit_text bit ∷ []
effect_words (effect.New p name) = codes "NEW" ∷ pid_text p ∷ name ∷ []
effect_words (effect.Gone p) = codes "GONE" ∷ pid_text p ∷ []

-- an effect, its words each behind a space
abbrev pub effect_line : Effect → List ℕ
effect_line e = spaced (effect_words e)

-- Heads.

abbrev pub unit_name : List UnitDecl → UnitNo → List ℕ
unit_name units u = (slice_index_or units u.0 no_unit_decl).name

abbrev pub event_text : List UnitDecl → Event → List ℕ
event_text units (event.Run p) = codes "RUN " ++ decimal p.0
event_text units (event.Ast p) = codes "AST " ++ decimal p.0
event_text units (event.Rdn p) = codes "RDN " ++ decimal p.0
event_text units (event.Beg u) = codes "BEG " ++ unit_name units u
event_text units (event.Don u) = codes "DON " ++ unit_name units u
event_text units event.Tick = codes "TICK"

abbrev pub answer_text : Answer → List ℕ
answer_text (answer.Service c cond) = call_text c ++ 32 ∷ name_of cond
answer_text (answer.Wait c) = call_text c ++ codes " WAIT"
answer_text (answer.Resume cond) = codes "RESUME " ++ name_of cond
answer_text answer.Return = codes "RETURN"
answer_text answer.End = codes "END"
answer_text answer.Local = codes "LOCAL"
answer_text (answer.Ast id) = id_text id
answer_text answer.Handler = codes "HANDLER"
answer_text answer.Busy = codes "BUSY"
answer_text answer.Gone = codes "GONE"
answer_text (answer.Unit id) = id_text id
answer_text (answer.Time t) = decimal t

-- the head of record n
abbrev pub head_line : List UnitDecl → ℕ → Rec → List ℕ
head_line units n rec = decimal n ++ 32 ∷ (event_text units rec.event ++ 32 ∷ answer_text rec.answer)

abbrev pub record_lines : List UnitDecl → ℕ → Rec → List (List ℕ)
record_lines units n rec = head_line units n rec ∷ map effect_line rec.effects

-- records, the first of them with the number n
abbrev pub records_lines : List UnitDecl → ℕ → List Rec → List (List ℕ)
records_lines units n [] = []
records_lines units n (r ∷ rs) = record_lines units n r ++ records_lines units (n + 1) rs
