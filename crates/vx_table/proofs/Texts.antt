-- The text of a call has the call's tokens.
use Rattle.std.proofs.Common.{◌≡◌, ℕ, ◌+◌, ◌<◌, ◌≤◌, Bool, true, false, cond, List, [], ◌∷◌, ◌++◌, length, codes, None, Some, Result, Ok, Err, refl, ap, ◌∙◌, arith, lit<, lit≤}
use Rattle.std.specs.Prelude.{OnOk}
use Rattle.vx_base.specs.declared.call.Arg.{Arg}
use Rattle.vx_base.specs.declared.call.Arg.TheVariants as arg
use Rattle.vx_base.specs.declared.call.Call.{Call}
use Rattle.vx_base.specs.declared.call.Operand.TheVariants as operand
use Rattle.vx_base.specs.declared.call.Target.TheVariants as target
use Rattle.vx_base.specs.declared.mode.Mode.{Mode}
use Rattle.vx_base.specs.declared.mode.Mode.TheVariants.{Kernel, Exec, Super, User}
use Rattle.vx_base.specs.declared.request.Func.{Func}
use Rattle.vx_base.specs.declared.request.Func.TheVariants.{Read, ReadNow, Write, WriteNow, Eof, EofNow, ReadAttn, WrtAttn}
use Rattle.vx_base.specs.declared.service.Kind.{Kind}
use Rattle.vx_base.specs.declared.service.Kind.TheVariants as kind
use Rattle.vx_base.specs.declared.service.Param.{Param}
use Rattle.vx_base.specs.declared.service.Service.{Service}
use Rattle.vx_base.specs.declared.service.Service.TheVariants.{SetEf}
use Rattle.vx_base.specs.Name.{is_name, is_capital}
use Rattle.vx_base.specs.Services.{service_name, service_rows, params_of, args_list, is_of_kind, is_unused, are_args, kind_of, is_call}
use Rattle.vx_text.specs.declared.token.LexFail.{LexFail}
use Rattle.vx_text.specs.declared.token.Tok.{Tok}
use Rattle.vx_text.specs.declared.token.Tok.TheVariants as tok
use Rattle.vx_text.specs.declared.token.Token.{Token}
use Rattle.vx_text.specs.declared.first.First.TheVariants.{Found}
use Rattle.vx_text.specs.Bytes.{is_word_byte, is_alphanumeric, is_service_byte}
use Rattle.vx_text.specs.First.{first}
use Rattle.vx_text.specs.Lex.{lex_from, with_front, token_at}
use Rattle.vx_text.proofs.Runs.{stops}
use Rattle.vx_text.proofs.Leading.{first-cons}
use Rattle.vx_text.proofs.Lexing.{first-name, first-cond, first-service, lex_found, lex_gap, name_some}
use Rattle.vx_text.proofs.Numbers.{first-number, decimal_some}
use Rattle.vx_table.specs.Spelling.{mode_name, func_name, arg_token, arg_text, comma, args_tokens, args_text, call_tokens, call_text}
use Rattle.vx_table.specs.Back.{IsHeld, AreHeld, held_unless, toks_of, ReadsBack}
use Rattle.vx_table.proofs.Back.{call_back}
use Rattle.std.proofs.lemmas.Bool.{and_parts}
use Rattle.vx_text.proofs.Turns.{lex_nothing}

-- an argument's text stands first as its token
record Stands (text : List ℕ) (t : Tok) (rest : List ℕ) : Type 0 where
  first_is : first (text ++ rest) ≡ Found t (length text)
  some : 0 < length text

word_stands : (word rest : List ℕ) → is_name word ≡ true → stops is_word_byte rest → Stands word (tok.Word word) rest
word_stands word rest h s = record { first_is = first-name word rest h s; some = name_some word h }

pub letter_name : (v : ℕ) → is_capital v ≡ true → is_name (v ∷ []) ≡ true
letter_name v h = rw h refl

-- a piece ends at the next comma, or at the end
record Ends (rest : List ℕ) : Type 0 where
  word : stops is_word_byte rest
  number : stops is_alphanumeric rest
  service : stops is_service_byte rest

ends_by : (before : ℕ) (a : Arg) (rest : List ℕ) (u : Bool) → is_word_byte before ≡ false → is_alphanumeric before ≡ false → is_service_byte before ≡ false → Ends (cond u [] (before ∷ rest))
ends_by before a rest true w n s = record { word = tt; number = tt; service = tt }
ends_by before a rest false w n s = record { word = w; number = n; service = s }

args_end : (before : ℕ) (args : List Arg) → is_word_byte before ≡ false → is_alphanumeric before ≡ false → is_service_byte before ≡ false → Ends (args_text before args)
args_end before [] w n s = record { word = tt; number = tt; service = tt }
args_end before (a ∷ args) w n s = ends_by before a (arg_text a ++ args_text 44 args) (is_unused a) w n s

pub mode_names : (m : Mode) → is_name (mode_name m) ≡ true
mode_names Kernel = refl
mode_names Exec = refl
mode_names Super = refl
mode_names User = refl

func_names : (f : Func) → is_name (func_name f) ≡ true
func_names Read = refl
func_names ReadNow = refl
func_names Write = refl
func_names WriteNow = refl
func_names Eof = refl
func_names EofNow = refl
func_names ReadAttn = refl
func_names WrtAttn = refl

arg_stands : (k : Kind) (a : Arg) (rest : List ℕ) → is_of_kind k a ≡ true → IsHeld a → Ends rest → Stands (arg_text a) (arg_token a) rest
arg_stands kind.Value (arg.Value (operand.Num n)) rest h held e = record { first_is = first-number n rest held e.number; some = decimal_some n held }
arg_stands kind.Value (arg.Value (operand.Cond c)) rest h held e = record { first_is = first-cond c rest e.word; some = omega arith }
arg_stands kind.Value (arg.Value (operand.Var v)) rest h held e = word_stands (v ∷ []) rest (letter_name v h) e.word
arg_stands kind.Value (arg.Value operand.R0) rest h held e = word_stands (codes "R0") rest refl e.word
arg_stands kind.Value (arg.Value operand.Pid) rest h held e = word_stands (codes "PID") rest refl e.word
arg_stands kind.Value (arg.Value operand.Prm) rest h held e = word_stands (codes "PRM") rest refl e.word
arg_stands kind.Target (arg.Target (target.Var v)) rest h held e = word_stands (v ∷ []) rest (letter_name v h) e.word
arg_stands kind.Target (arg.Target target.R0) rest h held e = word_stands (codes "R0") rest refl e.word
arg_stands kind.Mode (arg.Mode m) rest h held e = word_stands (mode_name m) rest (mode_names m) e.word
arg_stands kind.Name (arg.Name name) rest h held e = word_stands name rest held e.word
arg_stands kind.Label (arg.Label (Some label)) rest h held e = word_stands label rest held e.word
arg_stands kind.LabelOrNone (arg.Label (Some label)) rest h held e = word_stands label rest held e.word
arg_stands kind.LabelOrNone (arg.Label None) rest h held e = record { first_is = first-cons 45 rest; some = lit< tt }
arg_stands kind.Func (arg.Func f) rest h held e = word_stands (func_name f) rest (func_names f) e.word
arg_stands _ _ rest h held e = absurd (cc)

-- a token in front of others
abbrev pub and_tok : Tok → Result (List Tok) LexFail → Result (List Tok) LexFail
and_tok t (Ok toks) = Ok (t ∷ toks)
and_tok t (Err e) = Err e

pub toks_front : (token : Token) (r : Result (List Token) LexFail) → toks_of (with_front (token ∷ []) r) ≡ and_tok token.tok (toks_of r)
toks_front token (Ok tokens) = refl
toks_front token (Err e) = refl

-- what stands first is the first token
stood : (at : ℕ) (text : List ℕ) (t : Tok) (rest : List ℕ) → Stands text t rest → toks_of (lex_from 0 at (text ++ rest)) ≡ and_tok t (toks_of (lex_from 0 (at + length text) rest))
stood at text t rest s = ap toks_of (lex_found at (length text) t text rest s.first_is refl s.some) ∙ toks_front (token_at at t (length text)) (lex_from 0 (at + length text) rest)

comma_stands : (rest : List ℕ) → Stands (44 ∷ []) comma rest
comma_stands rest = record { first_is = first-cons 44 rest; some = lit< tt }

more_by : (at : ℕ) (params : List Param) (p : Param) (a : Arg) (args : List Arg) (u : Bool) → is_unused a ≡ u → is_of_kind (kind_of p) a ≡ true → held_unless u a (AreHeld args) → (AreHeld args → (at : ℕ) → toks_of (lex_from 0 at (args_text 44 args)) ≡ Ok (args_tokens (comma ∷ []) args)) → toks_of (lex_from 0 at (cond u [] (44 ∷ (arg_text a ++ args_text 44 args)))) ≡ Ok (cond u [] (comma ∷ arg_token a ∷ args_tokens (comma ∷ []) args))
more_by at params p a args true e kind held more = ap toks_of (lex_nothing at)
more_by at params p a args false e kind held more =
    let ends = args_end 44 args refl refl refl in
    let next = at + 1 in
    stood at (44 ∷ []) comma (arg_text a ++ args_text 44 args) (comma_stands _) ∙ ap (and_tok comma) (stood next (arg_text a) (arg_token a) (args_text 44 args) (arg_stands (kind_of p) a _ kind held.0 ends) ∙ ap (and_tok (arg_token a)) (more held.1 (next + length (arg_text a))))

none_by : (at : ℕ) (a : Arg) (rest : List ℕ) (toks : List Tok) (u : Bool) → is_unused a ≡ u → u ≡ true → toks_of (lex_from 0 at (cond u [] rest)) ≡ Ok (cond u [] toks)
none_by at a rest toks true e h = ap toks_of (lex_nothing at)
none_by at a rest toks false e h = absurd (cc)

more_toks : (params : List Param) (args : List Arg) → are_args params args ≡ true → AreHeld args → (at : ℕ) → toks_of (lex_from 0 at (args_text 44 args)) ≡ Ok (args_tokens (comma ∷ []) args)
more_toks [] [] h held at = ap toks_of (lex_nothing at)
more_toks [] (a ∷ args) h held at = none_by at a _ _ (is_unused a) refl (and_parts (is_unused a) _ h).0
more_toks (p ∷ params) [] h held at = absurd (cc)
more_toks (p ∷ params) (a ∷ args) h held at =
    let parts = and_parts (is_of_kind (kind_of p) a) (are_args params args) h in
    more_by at params p a args (is_unused a) refl parts.0 held (λ more. more_toks params args parts.1 more)

first_by : (at : ℕ) (params : List Param) (p : Param) (a : Arg) (args : List Arg) (u : Bool) → is_unused a ≡ u → is_of_kind (kind_of p) a ≡ true → are_args params args ≡ true → held_unless u a (AreHeld args) → toks_of (lex_from 0 at (cond u [] (32 ∷ (arg_text a ++ args_text 44 args)))) ≡ Ok (cond u [] (arg_token a ∷ args_tokens (comma ∷ []) args))
first_by at params p a args true e kind are held = ap toks_of (lex_nothing at)
first_by at params p a args false e kind are held =
    let ends = args_end 44 args refl refl refl in
    ap toks_of (lex_gap at (arg_text a ++ args_text 44 args)) ∙ stood (at + 1) (arg_text a) (arg_token a) (args_text 44 args) (arg_stands (kind_of p) a _ kind held.0 ends) ∙ ap (and_tok (arg_token a)) (more_toks params args are held.1 (at + 1 + length (arg_text a)))

args_toks : (at : ℕ) (params : List Param) (args : List Arg) → are_args params args ≡ true → AreHeld args → toks_of (lex_from 0 at (args_text 32 args)) ≡ Ok (args_tokens [] args)
args_toks at [] [] h held = ap toks_of (lex_nothing at)
args_toks at [] (a ∷ args) h held = none_by at a _ _ (is_unused a) refl (and_parts (is_unused a) _ h).0
args_toks at (p ∷ params) [] h held = absurd (cc)
args_toks at (p ∷ params) (a ∷ args) h held =
    let parts = and_parts (is_of_kind (kind_of p) a) (are_args params args) h in
    first_by at params p a args (is_unused a) refl parts.0 parts.1 held

service_is_name : (s : Service) → is_name (service_name s) ≡ true
service_is_name SetEf = refl
service_is_name _ = refl

service_is_short : (s : Service) → length (service_name s) ≤ 30
service_is_short SetEf = lit≤ tt
service_is_short _ = lit≤ tt

-- a call's text, at any place of a line, has the call's tokens
pub call_toks : (at : ℕ) (c : Call) → is_call c ≡ true → AreHeld (args_list c.args) → toks_of (lex_from 0 at (call_text c)) ≡ Ok (call_tokens c)
call_toks at c h held =
    let name = service_name c.service in
    let rest = args_text 32 (args_list c.args) in
    let ends = args_end 32 (args_list c.args) refl refl refl in
    let service : Stands (36 ∷ name) (tok.Service name) rest = record { first_is = first-service name rest (service_is_name c.service) (service_is_short c.service) ends.service ∙ ap (Found (tok.Service name)) (omega arith); some = omega arith } in
    stood at (36 ∷ name) (tok.Service name) rest service ∙ ap (and_tok (tok.Service name)) (args_toks (at + length (36 ∷ name)) (params_of c.service) (args_list c.args) h held)

pub reads_back : (c : Call) → is_call c ≡ true → AreHeld (args_list c.args) → ReadsBack service_rows c
reads_back c h held = record { text = call_toks 0 c h held; tokens = call_back c h }

pub on_ok : {A E : Type 0} (r : Result A E) (P : Type 0) → P → OnOk r P
on_ok (Ok x) P p = p
on_ok (Err e) P p = tt
