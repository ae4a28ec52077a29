-- What is read as a call is one.
use Rattle.std.proofs.Common.{◌≡◌, ℕ, zero, suc, ◌+◌, ◌≤◌, ◌==◌, true, List, [], ◌∷◌, length, map, slice_index, bytes_eq, codes, Option, None, Some, option_map, Result, Ok, Err, refl, sym, subst, ap, ◌∙◌, arith, lit≤, IsTrue}
use Rattle.std.specs.Prelude.{IfOk}
use Rattle.std.specs.List.{list_all}
use Rattle.vx_base.specs.declared.call.Arg.{Arg}
use Rattle.vx_base.specs.declared.call.Call.{Call}
use Rattle.vx_base.specs.declared.call.Operand.{Operand}
use Rattle.vx_base.specs.declared.call.Target.{Target}
use Rattle.vx_base.specs.declared.cond.Cond.{Cond}
use Rattle.vx_base.specs.declared.mode.Mode.{Mode}
use Rattle.vx_base.specs.declared.request.Func.{Func}
use Rattle.vx_base.specs.declared.service.Kind.{Kind}
use Rattle.vx_base.specs.declared.service.Param.{Param}
use Rattle.vx_base.specs.declared.service.Service.{Service}
use Rattle.vx_base.specs.declared.call.Arg.TheVariants as arg
use Rattle.vx_base.specs.declared.call.Operand.TheVariants as operand
use Rattle.vx_base.specs.declared.call.Target.TheVariants as target
use Rattle.vx_base.specs.declared.service.Kind.TheVariants as kind
use Rattle.vx_base.specs.declared.service.Param.TheVariants.{Required, Optional}
use Rattle.vx_base.specs.declared.service.Service.TheVariants.{SetEf}
use Rattle.vx_base.specs.Name.{is_capital}
use Rattle.vx_base.specs.Services.{ServiceRow, service_name, service_rows, service_row, all_services, params_of, is_operand, is_target, is_of_kind, are_args, kind_of, is_call, has_right_default}
use Rattle.vx_text.specs.declared.token.Tok.{Tok}
use Rattle.vx_text.specs.declared.token.Tok.TheVariants as tok
use Rattle.vx_table.specs.declared.fail.CallFail.{CallFail}
use Rattle.vx_table.specs.Reading.{letter, long_operand, operand_word, target_word, word_arg, token_arg, arg_or, read_arg, and_args, read_args, first_piece, pieces, as_args, call_with, read_named, read_call}
use Rattle.vx_table.proofs.Back.{firsts}
use Rattle.std.proofs.lemmas.Bool.{and_parts}
use Rattle.vx_base.proofs.Bools.{either_by}
use Rattle.vx_base.specs.Lists.{rest}

abbrev pub IsOperandOr : Option Operand → Type 0
IsOperandOr None = Unit {0}
IsOperandOr (Some x) = is_operand x ≡ true

abbrev pub IsTargetOr : Option Target → Type 0
IsTargetOr None = Unit {0}
IsTargetOr (Some t) = is_target t ≡ true

abbrev IsArgOr : Kind → Option Arg → Type 0
IsArgOr k None = Unit {0}
IsArgOr k (Some a) = is_of_kind k a ≡ true

variable : (b : ℕ) → IsOperandOr (option_map operand.Var (letter b))
variable b = either_by (λ (o : Option ℕ). IsOperandOr (option_map operand.Var o)) (is_capital b) (Some b) None (λ h. h) (λ _. tt)

long : (word : List ℕ) → IsOperandOr (long_operand word)
long word =
    either_by IsOperandOr (bytes_eq word (codes "R0")) _ _ (λ _. refl) (λ _.
    either_by IsOperandOr (bytes_eq word (codes "PID")) _ _ (λ _. refl) (λ _.
    either_by IsOperandOr (bytes_eq word (codes "PRM")) _ _ (λ _. refl) (λ _. tt)))

pub operand_is : (word : List ℕ) → IsOperandOr (operand_word word)
operand_is word = either_by IsOperandOr (length word == 1) _ _ (λ _. variable (slice_index word 0)) (λ _. long word)

target_variable : (b : ℕ) → IsTargetOr (option_map target.Var (letter b))
target_variable b = either_by (λ (o : Option ℕ). IsTargetOr (option_map target.Var o)) (is_capital b) (Some b) None (λ h. h) (λ _. tt)

pub target_is : (word : List ℕ) → IsTargetOr (target_word word)
target_is word = either_by IsTargetOr (length word == 1) _ _ (λ _. target_variable (slice_index word 0)) (λ _. either_by IsTargetOr (bytes_eq word (codes "R0")) _ _ (λ _. refl) (λ _. tt))

value_arg : (o : Option Operand) → IsOperandOr o → IsArgOr kind.Value (option_map arg.Value o)
value_arg None h = tt
value_arg (Some x) h = h

target_arg : (o : Option Target) → IsTargetOr o → IsArgOr kind.Target (option_map arg.Target o)
target_arg None h = tt
target_arg (Some x) h = h

mode_arg : (o : Option Mode) → IsArgOr kind.Mode (option_map arg.Mode o)
mode_arg None = tt
mode_arg (Some m) = refl

func_arg : (o : Option Func) → IsArgOr kind.Func (option_map arg.Func o)
func_arg None = tt
func_arg (Some f) = refl

word_kind : (k : Kind) (word : List ℕ) → IsArgOr k (word_arg k word)
word_kind kind.Value word = value_arg _ (operand_is word)
word_kind kind.Target word = target_arg _ (target_is word)
word_kind kind.Mode word = mode_arg _
word_kind kind.Name word = refl
word_kind kind.Label word = refl
word_kind kind.LabelOrNone word = refl
word_kind kind.Func word = func_arg _

number_kind : (k : Kind) (n : ℕ) → IsArgOr k (token_arg k (tok.Num n))
number_kind kind.Value n = refl
number_kind _ n = tt

cond_kind : (k : Kind) (c : Cond) → IsArgOr k (token_arg k (tok.Cond c))
cond_kind kind.Value c = refl
cond_kind _ c = tt

sign_kind : (k : Kind) (s : ℕ) → IsArgOr k (token_arg k (tok.Sign s))
sign_kind kind.LabelOrNone s = either_by (IsArgOr kind.LabelOrNone) (s == 45) _ _ (λ _. refl) (λ _. tt)
sign_kind _ s = tt

-- what a token is read as is of the kind
token_kind : (k : Kind) (t : Tok) → IsArgOr k (token_arg k t)
token_kind k (tok.Word word) = word_kind k word
token_kind k (tok.Num n) = number_kind k n
token_kind k (tok.Cond c) = cond_kind k c
token_kind k (tok.Sign s) = sign_kind k s
token_kind k (tok.Service name) = tt
token_kind k (tok.Quote bytes) = tt

abbrev IsArgOf : Kind → Result Arg CallFail → Type 0
IsArgOf k (Ok a) = is_of_kind k a ≡ true
IsArgOf k (Err e) = Unit {0}

or_kind : (number : ℕ) (k : Kind) (o : Option Arg) → IsArgOr k o → IsArgOf k (arg_or number o)
or_kind number k None h = tt
or_kind number k (Some a) h = h

arg_kind : (number : ℕ) (p : Param) (piece : List Tok) → has_right_default p ≡ true → IsArgOf (kind_of p) (read_arg number p piece)
arg_kind number (Required k) [] h = tt
arg_kind number (Optional k default) [] h = h
arg_kind number p (t ∷ []) h = or_kind number (kind_of p) (token_arg (kind_of p) t) (token_kind (kind_of p) t)
arg_kind number p (t ∷ u ∷ more) h = tt

-- arguments of the kinds that are taken, and none after them
abbrev AreArgsOf : List Param → Result (List Arg) CallFail → Type 0
AreArgsOf params (Ok args) = (n : ℕ) → length params ≤ n → are_args params (firsts n args) ≡ true
AreArgsOf params (Err e) = Unit {0}

none_after : (n : ℕ) → are_args [] (firsts n []) ≡ true
none_after zero = refl
none_after (suc n) = none_after n

one_more : (p : Param) (params : List Param) (a : Arg) (args : List Arg) → is_of_kind (kind_of p) a ≡ true → ((n : ℕ) → length params ≤ n → are_args params (firsts n args) ≡ true) → (n : ℕ) → length (p ∷ params) ≤ n → are_args (p ∷ params) (firsts n (a ∷ args)) ≡ true
one_more p params a args one more zero h = absurd (omega arith)
one_more p params a args one more (suc n) h = rw (one, more n (omega arith)) refl

and_kinds : (p : Param) (params : List Param) (r : Result Arg CallFail) (rest : Result (List Arg) CallFail) → IsArgOf (kind_of p) r → AreArgsOf params rest → AreArgsOf (p ∷ params) (and_args r rest)
and_kinds p params (Ok a) (Ok args) one more = one_more p params a args one more
and_kinds p params (Ok a) (Err e) one more = tt
and_kinds p params (Err e) rest one more = tt

args_kinds : (number : ℕ) (params : List Param) (pieces : List (List Tok)) → list_all has_right_default params ≡ true → AreArgsOf params (read_args number params pieces)
args_kinds number [] [] h = λ n _. none_after n
args_kinds number [] (piece ∷ more) h = tt
args_kinds number (p ∷ params) pieces h =
    let parts = and_parts (has_right_default p) (list_all has_right_default params) h in
    and_kinds p params _ _ (arg_kind number p (first_piece pieces) parts.0) (args_kinds (number + 1) params (rest pieces) parts.1)

-- the services take at most nine arguments, and their defaults are of the right kinds
lengths : (s : Service) → length (params_of s) ≤ 9
lengths SetEf = lit≤ tt
lengths _ = lit≤ tt

defaults : (s : Service) → list_all has_right_default (params_of s) ≡ true
defaults SetEf = refl
defaults _ = refl

abbrev pub IsCallOr : Result Call CallFail → Type 0
IsCallOr (Ok c) = is_call c ≡ true
IsCallOr (Err e) = Unit {0}

call_is : (s : Service) (args : Result (List Arg) CallFail) → AreArgsOf (params_of s) args → IsCallOr (call_with s (as_args args))
call_is s (Ok args) h = h 9 (lengths s)
call_is s (Err e) h = tt

named_is : (services : List Service) (name : List ℕ) (args : List Tok) → IsCallOr (read_named (map service_row services) name args)
named_is [] name args = tt
named_is (s ∷ services) name args = either_by IsCallOr (bytes_eq (service_name s) name) _ _ (λ _. call_is s _ (args_kinds 1 (params_of s) (pieces args) (defaults s))) (λ _. named_is services name args)

tokens_is : (tokens : List Tok) → IsCallOr (read_call service_rows tokens)
tokens_is [] = tt
tokens_is (tok.Service name ∷ args) = named_is all_services name args
tokens_is (_ ∷ args) = tt

if_call : (r : Result Call CallFail) → IsCallOr r → IfOk r (λ c. IsTrue (is_call c))
if_call (Ok c) h = h
if_call (Err e) h = tt

-- what is read from the services' table is a call
pub read_is : (rows : List ServiceRow) (tokens : List Tok) (r : Result Call CallFail) → r ≡ read_call rows tokens → rows ≡ service_rows → IfOk r (λ c. IsTrue (is_call c))
read_is rows tokens r e same = if_call r (subst IsCallOr (sym (e ∙ ap (λ (rows : List ServiceRow). read_call rows tokens) same)) (tokens_is tokens))
