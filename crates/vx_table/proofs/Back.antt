-- The tokens of a call are read as the call.
use Rattle.std.proofs.Common.{◌≡◌, ℕ, zero, suc, ◌+◌, Bool, true, false, cond, List, [], ◌∷◌, length, map, None, Some, Result, Ok, refl, sym, ap, ◌∙◌}
use Rattle.vx_base.specs.declared.call.Arg.{Arg}
use Rattle.vx_base.specs.declared.call.Args.{Args}
use Rattle.vx_base.specs.declared.call.Call.{Call}
use Rattle.vx_base.specs.declared.call.Operand.{Operand}
use Rattle.vx_base.specs.declared.mode.Mode.{Mode}
use Rattle.vx_base.specs.declared.request.Func.{Func}
use Rattle.vx_base.specs.declared.service.Kind.{Kind}
use Rattle.vx_base.specs.declared.service.Param.{Param}
use Rattle.vx_base.specs.declared.service.Service.{Service}
use Rattle.vx_base.specs.declared.call.Arg.TheVariants as arg
use Rattle.vx_base.specs.declared.call.Operand.TheVariants as operand
use Rattle.vx_base.specs.declared.call.Target.TheVariants as target
use Rattle.vx_base.specs.declared.mode.Mode.TheVariants.{Kernel, Exec, Super, User}
use Rattle.vx_base.specs.declared.request.Func.TheVariants.{Read, ReadNow, Write, WriteNow, Eof, EofNow, ReadAttn, WrtAttn}
use Rattle.vx_base.specs.declared.service.Kind.TheVariants as kind
use Rattle.vx_base.specs.declared.service.Service.TheVariants.{SetEf}
use Rattle.vx_base.specs.Services.{service_name, service_rows, service_row, params_of, args_list, args_of, arg_first, is_of_kind, is_unused, are_args, kind_of, is_call}
use Rattle.vx_text.specs.declared.token.Tok.{Tok}
use Rattle.vx_table.specs.declared.fail.CallFail.{CallFail}
use Rattle.vx_table.specs.Spelling.{mode_name, func_name, arg_token, operand_token, comma, args_tokens, call_tokens}
use Rattle.vx_table.specs.Reading.{is_comma, mode_word, func_word, token_arg, read_args, cut, pieces, as_args, call_with, read_row, read_named, read_call}
use Rattle.std.proofs.lemmas.Bool.{and_parts}
use Rattle.vx_base.specs.Lists.{rest}

-- the arguments up to the first that is not used
abbrev pub used : List Arg → List Arg
used [] = []
used (a ∷ args) = cond (is_unused a) [] (a ∷ used args)

operand_no_comma : (x : Operand) → is_comma (operand_token x) ≡ false
operand_no_comma (operand.Num n) = refl
operand_no_comma (operand.Cond c) = refl
operand_no_comma (operand.Var v) = refl
operand_no_comma operand.R0 = refl
operand_no_comma operand.Pid = refl
operand_no_comma operand.Prm = refl

pub no_comma : (a : Arg) → is_unused a ≡ false → is_comma (arg_token a) ≡ false
no_comma (arg.Value x) h = operand_no_comma x
no_comma (arg.Target (target.Var v)) h = refl
no_comma (arg.Target target.R0) h = refl
no_comma (arg.Mode m) h = refl
no_comma (arg.Name name) h = refl
no_comma (arg.Label (Some label)) h = refl
no_comma (arg.Label None) h = refl
no_comma (arg.Func f) h = refl
no_comma arg.Unused h = cc

unused_of_kind : (k : Kind) → is_of_kind k arg.Unused ≡ false
unused_of_kind kind.Value = refl
unused_of_kind _ = refl

pub kind_used : (k : Kind) (a : Arg) → is_of_kind k a ≡ true → is_unused a ≡ false
kind_used k (arg.Value x) h = refl
kind_used k (arg.Target t) h = refl
kind_used k (arg.Mode m) h = refl
kind_used k (arg.Name name) h = refl
kind_used k (arg.Label label) h = refl
kind_used k (arg.Func f) h = refl
kind_used k arg.Unused h = sym h ∙ unused_of_kind k

pub mode_back : (m : Mode) → mode_word (mode_name m) ≡ Some m
mode_back Kernel = refl
mode_back Exec = refl
mode_back Super = refl
mode_back User = refl

func_back : (f : Func) → func_word (func_name f) ≡ Some f
func_back Read = refl
func_back ReadNow = refl
func_back Write = refl
func_back WriteNow = refl
func_back Eof = refl
func_back EofNow = refl
func_back ReadAttn = refl
func_back WrtAttn = refl

-- an argument's token is read as the argument
pub token_back : (k : Kind) (a : Arg) → is_of_kind k a ≡ true → token_arg k (arg_token a) ≡ Some a
token_back kind.Value (arg.Value (operand.Num n)) h = refl
token_back kind.Value (arg.Value (operand.Cond c)) h = refl
token_back kind.Value (arg.Value (operand.Var v)) h = rw h refl
token_back kind.Value (arg.Value operand.R0) h = refl
token_back kind.Value (arg.Value operand.Pid) h = refl
token_back kind.Value (arg.Value operand.Prm) h = refl
token_back kind.Target (arg.Target (target.Var v)) h = rw h refl
token_back kind.Target (arg.Target target.R0) h = refl
token_back kind.Mode (arg.Mode m) h = rw (mode_back m) refl
token_back kind.Name (arg.Name name) h = refl
token_back kind.Label (arg.Label (Some label)) h = refl
token_back kind.LabelOrNone (arg.Label (Some label)) h = refl
token_back kind.LabelOrNone (arg.Label None) h = refl
token_back kind.Func (arg.Func f) h = rw (func_back f) refl
token_back _ _ h = cc

abbrev pub single : Arg → List Tok
single a = arg_token a ∷ []

cuts_by : (t : Tok) (a : Arg) (args : List Arg) (u : Bool) → is_unused a ≡ u → is_comma t ≡ false → (is_unused a ≡ false → cut (arg_token a ∷ args_tokens (comma ∷ []) args) ≡ (arg_token a ∷ []) ∷ map single (used args)) → cut (t ∷ cond u [] (comma ∷ arg_token a ∷ args_tokens (comma ∷ []) args)) ≡ (t ∷ []) ∷ map single (cond u [] (a ∷ used args))
cuts_by t a args true e h rest = rw h refl
cuts_by t a args false e h rest = rw (h, rest e) refl

-- arguments between commas are cut into one piece each
cuts : (t : Tok) (args : List Arg) → is_comma t ≡ false → cut (t ∷ args_tokens (comma ∷ []) args) ≡ (t ∷ []) ∷ map single (used args)
cuts t [] h = rw h refl
cuts t (a ∷ args) h = cuts_by t a args (is_unused a) refl h (λ u. cuts (arg_token a) args (no_comma a u))

pieces_by : (a : Arg) (args : List Arg) (u : Bool) → is_unused a ≡ u → pieces (cond u [] (arg_token a ∷ args_tokens (comma ∷ []) args)) ≡ map single (cond u [] (a ∷ used args))
pieces_by a args true e = refl
pieces_by a args false e = cuts (arg_token a) args (no_comma a e)

pieces_back : (args : List Arg) → pieces (args_tokens [] args) ≡ map single (used args)
pieces_back [] = refl
pieces_back (a ∷ args) = pieces_by a args (is_unused a) refl

-- the pieces are read as the arguments
args_back : (k : ℕ) (params : List Param) (args : List Arg) → are_args params args ≡ true → read_args k params (map single (used args)) ≡ Ok (used args)
args_back k [] [] h = refl
args_back k [] (a ∷ args) h = rw ((and_parts (is_unused a) _ h).0) refl
args_back k (p ∷ params) [] h = cc
args_back k (p ∷ params) (a ∷ args) h =
    let parts = and_parts (is_of_kind (kind_of p) a) (are_args params args) h in
    rw (kind_used (kind_of p) a parts.0, token_back (kind_of p) a parts.0, args_back (k + 1) params args parts.1) refl

-- the first n arguments, and none after them
abbrev pub firsts : ℕ → List Arg → List Arg
firsts zero args = []
firsts (suc n) args = arg_first args ∷ firsts n (rest args)

unused_is : (a : Arg) → is_unused a ≡ true → arg.Unused ≡ a
unused_is arg.Unused h = refl
unused_is (arg.Value x) h = cc
unused_is (arg.Target t) h = cc
unused_is (arg.Mode m) h = cc
unused_is (arg.Name name) h = cc
unused_is (arg.Label label) h = cc
unused_is (arg.Func f) h = cc

none_firsts : (args : List Arg) → are_args [] args ≡ true → firsts (length args) [] ≡ args
none_firsts [] h = refl
none_firsts (a ∷ args) h =
    let parts = and_parts (is_unused a) (are_args [] args) h in
    ap (λ (x : Arg). x ∷ firsts (length args) []) (unused_is a parts.0) ∙ ap (λ (more : List Arg). a ∷ more) (none_firsts args parts.1)

used_firsts : (params : List Param) (args : List Arg) → are_args params args ≡ true → firsts (length args) (used args) ≡ args
used_firsts [] [] h = refl
used_firsts [] (a ∷ args) h = rw ((and_parts (is_unused a) _ h).0) (none_firsts (a ∷ args) h)
used_firsts (p ∷ params) [] h = cc
used_firsts (p ∷ params) (a ∷ args) h =
    let parts = and_parts (is_of_kind (kind_of p) a) (are_args params args) h in
    rw (kind_used (kind_of p) a parts.0, used_firsts params args parts.1) refl

args_whole : (params : List Param) (args : Args) → are_args params (args_list args) ≡ true → args_of (used (args_list args)) ≡ args
args_whole params args h = ap args_of (used_firsts params (args_list args) h)

-- a service is found by its name
pub named_back : (s : Service) (args : List Tok) → read_named service_rows (service_name s) args ≡ read_row (service_row s) args
named_back SetEf args = refl
named_back _ args = refl

pub call_back : (c : Call) → is_call c ≡ true → read_call service_rows (call_tokens c) ≡ Ok c
call_back c h =
    let args = args_list c.args in
    named_back c.service (args_tokens [] args) ∙ ap (λ (p : List (List Tok)). call_with c.service (as_args (read_args 1 (params_of c.service) p))) (pieces_back args) ∙ ap (λ (r : Result (List Arg) CallFail). call_with c.service (as_args r)) (args_back 1 (params_of c.service) args h) ∙ ap (λ (a : Args). Ok (record { service = c.service; args = a })) (args_whole (params_of c.service) c.args h)
