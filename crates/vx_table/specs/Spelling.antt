-- How arguments and calls are spelled: the token of each argument, and the canonical text of a call.
use Rattle.std.specs.Prelude.{ℕ, List, [], ◌∷◌, ◌++◌, codes, decimal, if◌then◌else◌, Option, None, Some}
use Rattle.vx_base.specs.declared.call.Arg.{Arg}
use Rattle.vx_base.specs.declared.call.Arg.TheVariants as arg
use Rattle.vx_base.specs.declared.call.Call.{Call}
use Rattle.vx_base.specs.declared.call.Operand.{Operand}
use Rattle.vx_base.specs.declared.call.Operand.TheVariants as operand
use Rattle.vx_base.specs.declared.call.Target.{Target}
use Rattle.vx_base.specs.declared.call.Target.TheVariants as target
use Rattle.vx_base.specs.declared.cond.Cond.{Cond}
use Rattle.vx_base.specs.declared.mode.Mode.{Mode}
use Rattle.vx_base.specs.declared.mode.Mode.TheVariants.{Kernel, Exec, Super, User}
use Rattle.vx_base.specs.declared.request.Func.{Func}
use Rattle.vx_base.specs.declared.request.Func.TheVariants.{Read, ReadNow, Write, WriteNow, Eof, EofNow, ReadAttn, WrtAttn}
use Rattle.vx_base.specs.Cond.{name_of}
use Rattle.vx_base.specs.Services.{service_name, args_list, is_unused}
use Rattle.vx_text.specs.declared.token.Tok.{Tok}
use Rattle.vx_text.specs.declared.token.Tok.TheVariants as tok

abbrev pub mode_name : Mode → List ℕ
mode_name Kernel = codes "KERNEL"
mode_name Exec = codes "EXEC"
mode_name Super = codes "SUPER"
mode_name User = codes "USER"

abbrev pub func_name : Func → List ℕ
func_name Read = codes "READ"
func_name ReadNow = codes "READNOW"
func_name Write = codes "WRITE"
func_name WriteNow = codes "WRITENOW"
func_name Eof = codes "EOF"
func_name EofNow = codes "EOFNOW"
func_name ReadAttn = codes "READATTN"
func_name WrtAttn = codes "WRTATTN"

-- The token of each argument.

abbrev pub operand_token : Operand → Tok
operand_token (operand.Num n) = tok.Num n
operand_token (operand.Cond c) = tok.Cond c
operand_token (operand.Var v) = tok.Word (v ∷ [])
operand_token operand.R0 = tok.Word (codes "R0")
operand_token operand.Pid = tok.Word (codes "PID")
operand_token operand.Prm = tok.Word (codes "PRM")

abbrev pub target_token : Target → Tok
target_token (target.Var v) = tok.Word (v ∷ [])
target_token target.R0 = tok.Word (codes "R0")

-- none is '-'
abbrev pub label_token : Option (List ℕ) → Tok
label_token (Some label) = tok.Word label
label_token None = tok.Sign 45

abbrev pub comma : Tok
comma = tok.Sign 44

abbrev pub arg_token : Arg → Tok
arg_token (arg.Value x) = operand_token x
arg_token (arg.Target t) = target_token t
arg_token (arg.Mode m) = tok.Word (mode_name m)
arg_token (arg.Name name) = tok.Word name
arg_token (arg.Label label) = label_token label
arg_token (arg.Func f) = tok.Word (func_name f)
arg_token arg.Unused = comma

-- arguments up to the first that is not used, with these tokens before the first and a comma before each other
abbrev pub args_tokens : List Tok → List Arg → List Tok
args_tokens before [] = []
args_tokens before (a ∷ args) = if is_unused a then [] else before ++ arg_token a ∷ args_tokens (comma ∷ []) args

-- a call: its service, and its arguments between commas
abbrev pub call_tokens : Call → List Tok
call_tokens c = tok.Service (service_name c.service) ∷ args_tokens [] (args_list c.args)

-- The text of each argument.

abbrev pub cond_text : Cond → List ℕ
cond_text c = codes "SS$_" ++ name_of c

abbrev pub operand_text : Operand → List ℕ
operand_text (operand.Num n) = decimal n
operand_text (operand.Cond c) = cond_text c
operand_text (operand.Var v) = v ∷ []
operand_text operand.R0 = codes "R0"
operand_text operand.Pid = codes "PID"
operand_text operand.Prm = codes "PRM"

abbrev pub target_text : Target → List ℕ
target_text (target.Var v) = v ∷ []
target_text target.R0 = codes "R0"

abbrev pub label_text : Option (List ℕ) → List ℕ
label_text (Some label) = label
label_text None = codes "-"

abbrev pub arg_text : Arg → List ℕ
arg_text (arg.Value x) = operand_text x
arg_text (arg.Target t) = target_text t
arg_text (arg.Mode m) = mode_name m
arg_text (arg.Name name) = name
arg_text (arg.Label label) = label_text label
arg_text (arg.Func f) = func_name f
arg_text arg.Unused = []

-- arguments up to the first that is not used, with this byte before the first and a comma before each other
abbrev pub args_text : ℕ → List Arg → List ℕ
args_text before [] = []
args_text before (a ∷ args) = if is_unused a then [] else before ∷ (arg_text a ++ args_text 44 args)

-- a call: '$' and its service's name, and its arguments behind a space
abbrev pub call_text : Call → List ℕ
call_text c = 36 ∷ (service_name c.service ++ args_text 32 (args_list c.args))
