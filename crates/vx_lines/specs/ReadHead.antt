-- How the head of a record is read: by its words, and only if the record is spelled as the line.
use Rattle.std.specs.Prelude.{ℕ, Bool, true, false, List, [], ◌∷◌, ◌++◌, drop, codes, bytes_eq, if◌then◌else◌, Option, Some, None, option_map, Result, Ok, Err}
use Rattle.std.specs.List.{list_all}
use Rattle.vx_base.specs.Services.{args_list, service_rows}
use Rattle.vx_base.specs.declared.call.Arg.{Arg}
use Rattle.vx_base.specs.declared.call.Arg.TheVariants as arg
use Rattle.vx_base.specs.declared.call.Call.{Call}
use Rattle.vx_base.specs.declared.call.Operand.{Operand}
use Rattle.vx_base.specs.declared.call.Operand.TheVariants as operand
use Rattle.vx_base.specs.declared.record.Answer.{Answer}
use Rattle.vx_base.specs.declared.record.Answer.TheVariants as answer
use Rattle.vx_base.specs.declared.record.Event.{Event}
use Rattle.vx_base.specs.declared.record.Event.TheVariants as event
use Rattle.vx_base.specs.declared.record.Rec.{Rec}
use Rattle.vx_image.specs.declared.unit.UnitDecl.{UnitDecl}
use Rattle.vx_text.specs.First.{cond_named}
use Rattle.vx_text.specs.Lex.{lex}
use Rattle.vx_text.specs.declared.token.LexFail.{LexFail}
use Rattle.vx_text.specs.declared.token.Tok.{Tok}
use Rattle.vx_text.specs.declared.token.Tok.TheVariants as tok
use Rattle.vx_table.specs.Back.{toks_of}
use Rattle.vx_table.specs.Reading.{read_call}
use Rattle.vx_table.specs.declared.fail.CallFail.{CallFail}
use Rattle.vx_lines.specs.Fields.{id_of, pid_of, unit_of}
use Rattle.vx_lines.specs.Numbers.{value_up_to}
use Rattle.vx_lines.specs.ReadEffect.{unfed}
use Rattle.vx_lines.specs.Records.{head_line}
use Rattle.vx_lines.specs.Words.{◌>>=◌, word_len, first_word, behind_word, second_word, third_word, fourth_word, last_word, before_last}

-- Calls, whose values are numbers.

abbrev pub is_number : Operand → Bool
is_number (operand.Num n) = true
is_number _ = false

-- a value is a number
abbrev pub is_plain : Arg → Bool
is_plain (arg.Value x) = is_number x
is_plain _ = true

abbrev pub is_plain_call : Call → Bool
is_plain_call c = list_all is_plain (args_list c.args)

abbrev pub if_plain : Result Call CallFail → Option Call
if_plain (Ok c) = if is_plain_call c then Some c else None
if_plain (Err e) = None

abbrev pub call_among : Result (List Tok) LexFail → Option Call
call_among (Ok (tok.Service name ∷ args)) = if_plain (read_call service_rows (tok.Service name ∷ args))
call_among _ = None

abbrev pub call_of : List ℕ → Option Call
call_of line = call_among (toks_of (lex line))

-- a call, by the word behind it: WAIT, or a condition
abbrev pub served_as : List ℕ → Call → Option Answer
served_as word c = if bytes_eq word (codes "WAIT") then Some (answer.Wait c) else cond_named word >>= λ cond. Some (answer.Service c cond)

abbrev pub served_by : Option Call → List ℕ → Option Answer
served_by call word = call >>= served_as word

abbrev pub served_in : List ℕ → List ℕ → Option Answer
served_in call word = served_by (call_of call) word

-- What events came to. A line begins with the words of its event here.

abbrev pub ran_in : List ℕ → List ℕ → Option Answer
ran_in word line =
    if bytes_eq word (codes "RESUME") then option_map answer.Resume (cond_named (fourth_word line)) else (
    if bytes_eq word (codes "RETURN") then Some answer.Return else (
    if bytes_eq word (codes "END") then Some answer.End else (
    if bytes_eq word (codes "LOCAL") then Some answer.Local else (
    served_in (before_last (behind_word (behind_word line))) (last_word line)))))

abbrev pub down_in : List ℕ → Option Answer
down_in word =
    if bytes_eq word (codes "HANDLER") then Some answer.Handler else (
    if bytes_eq word (codes "BUSY") then Some answer.Busy else (
    if bytes_eq word (codes "GONE") then Some answer.Gone else None))

abbrev pub as_head : Event → Answer → Rec
as_head e a = record { event = e; answer = a; effects = [] }

abbrev pub with_event : Event → Option Answer → Option Rec
with_event e a = option_map (as_head e) a

abbrev pub run_in : List ℕ → Option Rec
run_in line = pid_of (second_word line) >>= λ p. with_event (event.Run p) (ran_in (third_word line) line)

abbrev pub ast_in : List ℕ → Option Rec
ast_in line = pid_of (second_word line) >>= λ p. id_of (third_word line) >>= λ id. Some (as_head (event.Ast p) (answer.Ast id))

abbrev pub rdn_in : List ℕ → Option Rec
rdn_in line = pid_of (second_word line) >>= λ p. with_event (event.Rdn p) (down_in (third_word line))

abbrev pub beg_in : List UnitDecl → List ℕ → Option Rec
beg_in units line = unit_of units (second_word line) >>= λ u. id_of (third_word line) >>= λ id. Some (as_head (event.Beg u) (answer.Unit id))

abbrev pub don_in : List UnitDecl → List ℕ → Option Rec
don_in units line = unit_of units (second_word line) >>= λ u. id_of (third_word line) >>= λ id. Some (as_head (event.Don u) (answer.Unit id))

-- a time of 64 bits
abbrev pub tick_in : List ℕ → Option Rec
tick_in line = value_up_to 18446744073709551615 (second_word line) >>= λ t. Some (as_head event.Tick (answer.Time t))

abbrev pub other_head : List UnitDecl → List ℕ → List ℕ → Option Rec
other_head units word line =
    if bytes_eq word (codes "AST") then ast_in line else (
    if bytes_eq word (codes "RDN") then rdn_in line else (
    if bytes_eq word (codes "BEG") then beg_in units line else (
    if bytes_eq word (codes "DON") then don_in units line else (
    if bytes_eq word (codes "TICK") then tick_in line else None))))

-- the record, without effects, that a line is behind its number
abbrev pub head_of : List UnitDecl → List ℕ → Option Rec
head_of units line = if bytes_eq (first_word line) (codes "RUN") then run_in line else other_head units (first_word line) line

abbrev pub if_head : List UnitDecl → ℕ → List ℕ → Rec → Option Rec
if_head units n line rec = if bytes_eq (head_line units n rec ++ 10 ∷ []) line then Some rec else None

-- the line behind its number
abbrev pub from_space : List ℕ → List ℕ
from_space line = drop (word_len line) line

-- the record, without effects, whose head with number n a line spells
unfoldable pub read_head : List UnitDecl → ℕ → List ℕ → Option Rec
read_head units n line = head_of units (from_space (unfed line)) >>= if_head units n line
