-- The services: their names, and the arguments that each takes, in order.
use Rattle.std.specs.Prelude.{ℕ, zero, suc, List, [], ◌∷◌, Bool, true, false, ◌&&◌, map, codes, None, Some}
use Rattle.vx_base.specs.declared.call.Arg.{Arg}
use Rattle.vx_base.specs.declared.call.Arg.TheVariants as arg
use Rattle.vx_base.specs.declared.call.Args.{Args}
use Rattle.vx_base.specs.declared.call.Call.{Call}
use Rattle.vx_base.specs.declared.call.Operand.{Operand}
use Rattle.vx_base.specs.declared.call.Operand.TheVariants as operand
use Rattle.vx_base.specs.declared.call.Target.{Target}
use Rattle.vx_base.specs.declared.call.Target.TheVariants as target
use Rattle.vx_base.specs.declared.mode.Mode.TheVariants.{Kernel}
use Rattle.vx_base.specs.declared.service.Kind.{Kind}
use Rattle.vx_base.specs.declared.service.Kind.TheVariants as kind
use Rattle.vx_base.specs.declared.service.Param.{Param}
use Rattle.vx_base.specs.declared.service.Param.TheVariants.{Required, Optional}
use Rattle.vx_base.specs.declared.service.Service.{Service}
use Rattle.vx_base.specs.declared.service.Service.TheVariants.{SetEf, ClrEf, ReadEf, WaitFr, WflOr, WflAnd, AscEfc, DacEfc, DlcEfc, DclAst, SetAst, CmExec, CmKrnl, SetImr, CanTim, SchdWk, CanWak, Hiber, Wake, Suspnd, Resume, ForceX, CrePrc, DelPrc, Exit, DclExh, CanExh, Assign, Dassgn, CreMbx, DelMbx, Qio, QioW, Synch, Cancel, GetTim}
use Rattle.vx_base.specs.Name.{is_capital}
use Rattle.vx_base.specs.Lists.{rest}

-- A service with the arguments that it takes.
pub record ServiceRow : Type 0 where
  pub service : Service
  pub params : List Param

-- the services in the order of their table
abbrev pub all_services : List Service
all_services = SetEf ∷ ClrEf ∷ ReadEf ∷ WaitFr ∷ WflOr ∷ WflAnd ∷ AscEfc ∷ DacEfc ∷ DlcEfc ∷ DclAst ∷ SetAst ∷ CmExec ∷ CmKrnl ∷ SetImr ∷ CanTim ∷ SchdWk ∷ CanWak ∷ Hiber ∷ Wake ∷ Suspnd ∷ Resume ∷ ForceX ∷ CrePrc ∷ DelPrc ∷ Exit ∷ DclExh ∷ CanExh ∷ Assign ∷ Dassgn ∷ CreMbx ∷ DelMbx ∷ Qio ∷ QioW ∷ Synch ∷ Cancel ∷ GetTim ∷ []

-- the name, without $
abbrev pub service_name : Service → List ℕ
service_name SetEf = codes "SETEF"
service_name ClrEf = codes "CLREF"
service_name ReadEf = codes "READEF"
service_name WaitFr = codes "WAITFR"
service_name WflOr = codes "WFLOR"
service_name WflAnd = codes "WFLAND"
service_name AscEfc = codes "ASCEFC"
service_name DacEfc = codes "DACEFC"
service_name DlcEfc = codes "DLCEFC"
service_name DclAst = codes "DCLAST"
service_name SetAst = codes "SETAST"
service_name CmExec = codes "CMEXEC"
service_name CmKrnl = codes "CMKRNL"
service_name SetImr = codes "SETIMR"
service_name CanTim = codes "CANTIM"
service_name SchdWk = codes "SCHDWK"
service_name CanWak = codes "CANWAK"
service_name Hiber = codes "HIBER"
service_name Wake = codes "WAKE"
service_name Suspnd = codes "SUSPND"
service_name Resume = codes "RESUME"
service_name ForceX = codes "FORCEX"
service_name CrePrc = codes "CREPRC"
service_name DelPrc = codes "DELPRC"
service_name Exit = codes "EXIT"
service_name DclExh = codes "DCLEXH"
service_name CanExh = codes "CANEXH"
service_name Assign = codes "ASSIGN"
service_name Dassgn = codes "DASSGN"
service_name CreMbx = codes "CREMBX"
service_name DelMbx = codes "DELMBX"
service_name Qio = codes "QIO"
service_name QioW = codes "QIOW"
service_name Synch = codes "SYNCH"
service_name Cancel = codes "CANCEL"
service_name GetTim = codes "GETTIM"

-- arguments by their kinds
abbrev pub value : Param
value = Required kind.Value

abbrev pub value_or : ℕ → Param
value_or n = Optional kind.Value (arg.Value (operand.Num n))

abbrev pub variable : Param
variable = Required kind.Target

abbrev pub name : Param
name = Required kind.Name

abbrev pub label : Param
label = Required kind.Label

abbrev pub label_or_none : Param
label_or_none = Optional kind.LabelOrNone (arg.Label None)

abbrev pub mode_or_kernel : Param
mode_or_kernel = Optional kind.Mode (arg.Mode Kernel)

abbrev pub function : Param
function = Required kind.Func

-- of a request: event flag, channel, function, I/O status block, AST, its parameter, buffer, length, block
abbrev pub request_params : List Param
request_params = value_or 0 ∷ value ∷ function ∷ value_or 0 ∷ label_or_none ∷ value_or 0 ∷ value_or 0 ∷ value_or 0 ∷ value_or 0 ∷ []

abbrev pub params_of : Service → List Param
-- event flag
params_of SetEf = value ∷ []
params_of ClrEf = value ∷ []
-- event flag, variable for the flags of its cluster
params_of ReadEf = value ∷ variable ∷ []
params_of WaitFr = value ∷ []
-- event flag of the cluster, mask
params_of WflOr = value ∷ value ∷ []
params_of WflAnd = value ∷ value ∷ []
-- event flag of the cluster, name, whether permanent
params_of AscEfc = value ∷ name ∷ value_or 0 ∷ []
params_of DacEfc = value ∷ []
params_of DlcEfc = name ∷ []
-- routine, parameter, mode
params_of DclAst = label ∷ value_or 0 ∷ mode_or_kernel ∷ []
-- whether enabled
params_of SetAst = value ∷ []
-- routine, parameter
params_of CmExec = label ∷ value_or 0 ∷ []
params_of CmKrnl = label ∷ value_or 0 ∷ []
-- event flag, ticks from now, AST, identification
params_of SetImr = value_or 0 ∷ value ∷ label_or_none ∷ value_or 0 ∷ []
-- identification, mode
params_of CanTim = value_or 0 ∷ mode_or_kernel ∷ []
-- process, ticks from now, ticks between repetitions
params_of SchdWk = value_or 0 ∷ value ∷ value_or 0 ∷ []
-- process
params_of CanWak = value_or 0 ∷ []
params_of Hiber = []
params_of Wake = value_or 0 ∷ []
params_of Suspnd = value_or 0 ∷ []
params_of Resume = value_or 0 ∷ []
-- process, exit code
params_of ForceX = value_or 0 ∷ value_or 1 ∷ []
-- variable for the process, name of its declaration
params_of CrePrc = variable ∷ name ∷ []
params_of DelPrc = value_or 0 ∷ []
-- exit code
params_of Exit = value_or 1 ∷ []
-- routine
params_of DclExh = label ∷ []
params_of CanExh = label_or_none ∷ []
-- variable for the channel, device, mode
params_of Assign = variable ∷ name ∷ mode_or_kernel ∷ []
-- channel
params_of Dassgn = value ∷ []
-- variable for the channel, name, whether permanent, bytes of the longest message, bytes stored at most, mode
params_of CreMbx = variable ∷ name ∷ value_or 0 ∷ value_or 256 ∷ value_or 1024 ∷ mode_or_kernel ∷ []
params_of DelMbx = value ∷ []
params_of Qio = request_params
params_of QioW = request_params
-- event flag, I/O status block
params_of Synch = value_or 0 ∷ value_or 0 ∷ []
params_of Cancel = value ∷ []
-- variable for the time
params_of GetTim = variable ∷ []

abbrev pub service_row : Service → ServiceRow
service_row s = record { service = s; params = params_of s }

-- the table: a row for each service
abbrev pub service_rows : List ServiceRow
service_rows = map service_row all_services

-- Arguments.

-- the number that one is, 0 if it is none
abbrev pub number : Arg → ℕ
number (arg.Value (operand.Num n)) = n
number _ = 0

-- the variable that one is, R0 if it is none
abbrev pub place : Arg → Target
place (arg.Target t) = t
place _ = target.R0

-- the arguments as a list of nine
abbrev pub args_list : Args → List Arg
args_list a = a.a0 ∷ a.a1 ∷ a.a2 ∷ a.a3 ∷ a.a4 ∷ a.a5 ∷ a.a6 ∷ a.a7 ∷ a.a8 ∷ []

-- the first of a list, and the rest
abbrev pub arg_first : List Arg → Arg
arg_first [] = arg.Unused
arg_first (a ∷ more) = a

abbrev pub arg_at : ℕ → List Arg → Arg
arg_at zero args = arg_first args
arg_at (suc n) args = arg_at n (rest args)

-- the arguments of a list of at most nine, and none after them
abbrev pub args_of : List Arg → Args
args_of args = record { a0 = arg_at 0 args; a1 = arg_at 1 args; a2 = arg_at 2 args; a3 = arg_at 3 args; a4 = arg_at 4 args; a5 = arg_at 5 args; a6 = arg_at 6 args; a7 = arg_at 7 args; a8 = arg_at 8 args }

-- a variable is a capital letter
abbrev pub is_operand : Operand → Bool
is_operand (operand.Var v) = is_capital v
is_operand _ = true

abbrev pub is_target : Target → Bool
is_target (target.Var v) = is_capital v
is_target target.R0 = true

-- an argument is of a kind
abbrev pub is_of_kind : Kind → Arg → Bool
is_of_kind kind.Value (arg.Value x) = is_operand x
is_of_kind kind.Target (arg.Target t) = is_target t
is_of_kind kind.Mode (arg.Mode m) = true
is_of_kind kind.Name (arg.Name text) = true
is_of_kind kind.Label (arg.Label (Some text)) = true
is_of_kind kind.LabelOrNone (arg.Label text) = true
is_of_kind kind.Func (arg.Func f) = true
is_of_kind _ _ = false

abbrev pub kind_of : Param → Kind
kind_of (Required k) = k
kind_of (Optional k default) = k

abbrev pub is_unused : Arg → Bool
is_unused arg.Unused = true
is_unused _ = false

-- each argument is of its kind, and those after them are unused
abbrev pub are_args : List Param → List Arg → Bool
are_args [] [] = true
are_args [] (a ∷ more) = is_unused a && are_args [] more
are_args (p ∷ params) [] = false
are_args (p ∷ params) (a ∷ more) = is_of_kind (kind_of p) a && are_args params more

-- a call's arguments are of the kinds that its service takes
abbrev pub is_call : Call → Bool
is_call c = are_args (params_of c.service) (args_list c.args)

-- The laws of the table.

-- what stands for an argument that is left out is of the argument's kind
abbrev pub has_right_default : Param → Bool
has_right_default (Required k) = true
has_right_default (Optional k default) = is_of_kind k default
