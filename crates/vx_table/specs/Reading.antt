-- How the tokens of a call are read.
use Rattle.std.specs.Prelude.{ℕ, ◌+◌, ◌==◌, Bool, true, false, List, [], ◌∷◌, ◌++◌, map, length, slice_index, codes, bytes_eq, if◌then◌else◌, Option, None, Some, option_map, Result, Ok, Err}
use Rattle.std.specs.List.{find, onto_first}
use Rattle.vx_base.specs.Name.{is_capital}
use Rattle.vx_base.specs.declared.call.Arg.{Arg}
use Rattle.vx_base.specs.declared.call.Args.{Args}
use Rattle.vx_base.specs.declared.call.Call.{Call}
use Rattle.vx_base.specs.declared.call.Operand.{Operand}
use Rattle.vx_base.specs.declared.call.Target.{Target}
use Rattle.vx_base.specs.declared.mode.Mode.{Mode}
use Rattle.vx_base.specs.declared.request.Func.{Func}
use Rattle.vx_base.specs.declared.service.Kind.{Kind}
use Rattle.vx_base.specs.declared.service.Param.{Param}
use Rattle.vx_base.specs.declared.service.Service.{Service}
use Rattle.vx_base.specs.declared.call.Arg.TheVariants as arg
use Rattle.vx_base.specs.declared.call.Operand.TheVariants as operand
use Rattle.vx_base.specs.declared.call.Target.TheVariants as target
use Rattle.vx_base.specs.declared.mode.Mode.TheVariants.{Kernel, Exec, Super, User}
use Rattle.vx_base.specs.declared.request.Func.TheVariants.{Read, ReadNow, Write, WriteNow, Eof, EofNow, ReadAttn, WrtAttn}
use Rattle.vx_base.specs.declared.service.Kind.TheVariants as kind
use Rattle.vx_base.specs.declared.service.Param.TheVariants.{Required, Optional}
use Rattle.vx_base.specs.Services.{ServiceRow, service_name, args_of, kind_of}
use Rattle.vx_text.specs.declared.token.Tok.{Tok}
use Rattle.vx_text.specs.declared.token.Tok.TheVariants as tok
use Rattle.vx_text.specs.declared.token.Token.{Token}
use Rattle.vx_table.specs.declared.fail.CallFail.{CallFail}
use Rattle.vx_table.specs.declared.fail.CallFail.TheVariants as fail
use Rattle.vx_table.specs.Spelling.{mode_name, func_name}
use Rattle.vx_base.specs.Lists.{rest}
use Rattle.vx_text.specs.Lex.{with_front}

-- what stands in tokens, without their places
abbrev pub toks : List Token → List Tok
toks tokens = map (λ t. t.tok) tokens

-- An argument of a kind.

abbrev pub letter : ℕ → Option ℕ
letter b = if is_capital b then Some b else None

abbrev pub long_operand : List ℕ → Option Operand
long_operand word = if bytes_eq word (codes "R0") then Some operand.R0 else (if bytes_eq word (codes "PID") then Some operand.Pid else (if bytes_eq word (codes "PRM") then Some operand.Prm else None))

-- a variable of one letter, R0, PID or PRM
abbrev pub operand_word : List ℕ → Option Operand
operand_word word = if length word == 1 then option_map operand.Var (letter (slice_index word 0)) else long_operand word

abbrev pub operand_of : Tok → Option Operand
operand_of (tok.Num n) = Some (operand.Num n)
operand_of (tok.Cond c) = Some (operand.Cond c)
operand_of (tok.Word word) = operand_word word
operand_of _ = None

-- a variable of one letter, or R0
abbrev pub target_word : List ℕ → Option Target
target_word word = if length word == 1 then option_map target.Var (letter (slice_index word 0)) else (if bytes_eq word (codes "R0") then Some target.R0 else None)

abbrev pub mode_word : List ℕ → Option Mode
mode_word word = find (λ m. bytes_eq word (mode_name m)) (Kernel ∷ Exec ∷ Super ∷ User ∷ [])

abbrev pub func_word : List ℕ → Option Func
func_word word = find (λ f. bytes_eq word (func_name f)) (Read ∷ ReadNow ∷ Write ∷ WriteNow ∷ Eof ∷ EofNow ∷ ReadAttn ∷ WrtAttn ∷ [])

-- the argument of a kind that a word is
abbrev pub word_arg : Kind → List ℕ → Option Arg
word_arg kind.Value word = option_map arg.Value (operand_word word)
word_arg kind.Target word = option_map arg.Target (target_word word)
word_arg kind.Mode word = option_map arg.Mode (mode_word word)
word_arg kind.Name word = Some (arg.Name word)
word_arg kind.Label word = Some (arg.Label (Some word))
word_arg kind.LabelOrNone word = Some (arg.Label (Some word))
word_arg kind.Func word = option_map arg.Func (func_word word)

abbrev pub is_value : Kind → Bool
is_value kind.Value = true
is_value _ = false

abbrev pub may_be_none : Kind → Bool
may_be_none kind.LabelOrNone = true
may_be_none _ = false

-- the argument of a kind that a token is
abbrev pub token_arg : Kind → Tok → Option Arg
token_arg k (tok.Word word) = word_arg k word
token_arg k (tok.Num n) = if is_value k then Some (arg.Value (operand.Num n)) else None
token_arg k (tok.Cond c) = if is_value k then Some (arg.Value (operand.Cond c)) else None
token_arg k (tok.Sign s) = if may_be_none k then (if s == 45 then Some (arg.Label None) else None) else None
token_arg k _ = None

-- argument k, or that its token is not of its kind
abbrev pub arg_or : ℕ → Option Arg → Result Arg CallFail
arg_or k (Some a) = Ok a
arg_or k None = Err (fail.Argument k)

-- what stands in the place of argument k, if it may be left out
abbrev pub default_of : ℕ → Param → Result Arg CallFail
default_of k (Required wanted) = Err (fail.Missing k)
default_of k (Optional wanted default) = Ok default

-- argument k from its tokens: none, one, or too many
abbrev pub read_arg : ℕ → Param → List Tok → Result Arg CallFail
read_arg k p [] = default_of k p
read_arg k p (t ∷ []) = arg_or k (token_arg (kind_of p) t)
read_arg k p _ = Err (fail.Argument k)

-- The arguments of a call.

abbrev pub is_comma : Tok → Bool
is_comma (tok.Sign s) = s == 44
is_comma _ = false

-- tokens cut at the commas
abbrev pub cut : List Tok → List (List Tok)
cut [] = [] ∷ []
cut (t ∷ more) = if is_comma t then [] ∷ cut more else onto_first t (cut more)

-- the tokens of each argument; if there are no tokens there are no arguments
abbrev pub pieces : List Tok → List (List Tok)
pieces [] = []
pieces (t ∷ more) = cut (t ∷ more)

abbrev pub first_piece : List (List Tok) → List Tok
first_piece [] = []
first_piece (piece ∷ more) = piece

-- an argument before those that the rest gives; its own fault comes first
abbrev pub and_args : Result Arg CallFail → Result (List Arg) CallFail → Result (List Arg) CallFail
and_args (Ok a) others = with_front (a ∷ []) others
and_args (Err e) others = Err e

-- the arguments from number k on: each from its piece, and then there is no piece left
abbrev pub read_args : ℕ → List Param → List (List Tok) → Result (List Arg) CallFail
read_args k [] [] = Ok []
read_args k [] (piece ∷ more) = Err fail.Extra
read_args k (p ∷ params) pieces = and_args (read_arg k p (first_piece pieces)) (read_args (k + 1) params (rest pieces))

abbrev pub as_args : Result (List Arg) CallFail → Result Args CallFail
as_args (Ok args) = Ok (args_of args)
as_args (Err e) = Err e

-- A call.

abbrev pub call_with : Service → Result Args CallFail → Result Call CallFail
call_with service (Ok args) = Ok (record { service = service; args = args })
call_with service (Err e) = Err e

-- a call of a row's service, whose arguments these tokens are
abbrev pub read_row : ServiceRow → List Tok → Result Call CallFail
read_row row args = call_with row.service (as_args (read_args 1 row.params (pieces args)))

-- a call of the service of this name
abbrev pub read_named : List ServiceRow → List ℕ → List Tok → Result Call CallFail
read_named [] name args = Err fail.UnknownService
read_named (row ∷ rows) name args = if bytes_eq (service_name row.service) name then read_row row args else read_named rows name args

abbrev pub read_call : List ServiceRow → List Tok → Result Call CallFail
read_call rows (tok.Service name ∷ args) = read_named rows name args
read_call rows _ = Err fail.UnknownService

-- a service stands first
abbrev pub BeginsCall : List Tok → Type 0
BeginsCall (tok.Service name ∷ args) = Unit {0}
BeginsCall _ = ⊥
