-- Calls: each service with its arguments, in the order of the table.
use Rattle.std.specs.Prelude.{ℕ, List, [], Option, Some, None, Result, Ok, Err, bytes_eq, position, unwrap_or, option_map}
pub use Rattle.vx_base.specs.Services.{number, place}
use Rattle.vx_record.specs.Types.{Arg, Args, Call, Cond, Entry, Func, Image, Mode, Pid, Service, Target}
use Rattle.vx_base.specs.declared.call.Arg.TheVariants as arg
use Rattle.vx_base.specs.declared.call.Operand.TheVariants as operand
use Rattle.vx_base.specs.declared.call.Target.TheVariants as target
use Rattle.vx_base.specs.declared.cond.Cond.TheVariants.{Normal}
use Rattle.vx_base.specs.declared.effects.Effect.TheVariants as effect
use Rattle.vx_base.specs.declared.mode.Mode.TheVariants.{Kernel}
use Rattle.vx_base.specs.declared.request.Func.TheVariants.{Read}
use Rattle.vx_base.specs.declared.routine.Entry.TheVariants as entry
use Rattle.vx_base.specs.declared.service.Service.TheVariants.{SetEf, ClrEf, ReadEf, WaitFr, WflOr, WflAnd, AscEfc, DacEfc, DlcEfc, DclAst, SetAst, CmExec, CmKrnl, SetImr, CanTim, SchdWk, CanWak, Hiber, Wake, Suspnd, Resume, ForceX, CrePrc, DelPrc, Exit, DclExh, CanExh, Assign, Dassgn, CreMbx, DelMbx, Qio, QioW, Synch, Cancel, GetTim}
use Rattle.vx_image.specs.Storage.{with_target}
use Rattle.vx_record.specs.State.{Process, State, change, image_of}
use Rattle.vx_record.specs.Parts.{Part, Outcome, nothing, tells, and_then, answered, part_of}
use Rattle.vx_record.specs.Flags.{setef, clref, readef, waitfr, wflor, wfland, ascefc, dacefc, dlcefc}
use Rattle.vx_record.specs.Asts.{dclast, setast, cmexec, cmkrnl}
use Rattle.vx_record.specs.Timers.{setimr, cantim, schdwk, canwak, gettim}
use Rattle.vx_record.specs.Control.{hiber, wake, suspnd, resume, forcex, creprc}
use Rattle.vx_record.specs.Rundown.{exit, delprc, dclexh, canexh}
use Rattle.vx_record.specs.Channels.{assign, crembx, delmbx}
use Rattle.vx_record.specs.Cancel.{cancel, dassgn}
use Rattle.vx_record.specs.Requests.{Asked, qio, qiow, synch}
use Rattle.vx_record.specs.declared.served.Served.{Served}
use Rattle.vx_record.specs.declared.served.Served.TheVariants.{Answered}

-- Arguments, with their values computed.

abbrev pub access_mode : Arg → Mode
access_mode (arg.Mode m) = m
access_mode _ = Kernel

abbrev pub text : Arg → List ℕ
text (arg.Name name) = name
text _ = []

abbrev pub function : Arg → Func
function (arg.Func f) = f
function _ = Read

abbrev pub label : Arg → Option (List ℕ)
label (arg.Label name) = name
label _ = None

-- the place of a label in its image's list
abbrev pub label_place : Image → List ℕ → ℕ
label_place image name = unwrap_or (position (λ l. bytes_eq l.name name) image.labels) 0

-- the routine at a label, with a parameter
abbrev pub routine_at : Image → ℕ → List ℕ → Entry
routine_at image prm name = entry.Label (label_place image name) prm

abbrev pub or_start : Option (List ℕ) → List ℕ
or_start None = []
or_start (Some name) = name

abbrev pub routine : State → Pid → Arg → ℕ → Entry
routine s p a prm = routine_at (image_of s p) prm (or_start (label a))

abbrev pub routine_or_none : State → Pid → Arg → ℕ → Option Entry
routine_or_none s p a prm = option_map (routine_at (image_of s p) prm) (label a)

-- the place of the process declaration of a name
abbrev pub decl_place : State → List ℕ → ℕ
decl_place s name = unwrap_or (position (λ d. bytes_eq d.name name) s.system.decls) 0

abbrev pub asked : State → Pid → Args → Asked
asked s p a = record {
  efn = number a.a0;
  chan = number a.a1;
  func = function a.a2;
  iosb = number a.a3;
  ast = routine_or_none s p a.a4 (number a.a5);
  buf = number a.a6;
  len = number a.a7;
  blk = number a.a8;
}

-- Answers.

-- a service that does not wait
abbrev pub at_once : Outcome Cond → Outcome Served
at_once o = answered (Answered o.answer) (part_of o)

abbrev pub with_variable : Target → ℕ → Process → Process
with_variable t n pr = record pr { store = with_target pr.store t n }

abbrev pub var_part : State → Pid → Target → ℕ → Part
var_part s p t n = tells (effect.Var p t n) (change s p (with_variable t n))

-- a variable takes an answer, as the last effect
abbrev pub valued : Pid → Target → Part → Cond → ℕ → Outcome Served
valued p t part c n = answered (Answered c) (and_then part (λ a. var_part a p t n))

abbrev pub valued_at : Pid → Target → Part → Result (Cond × ℕ) Cond → Outcome Served
valued_at p t part (Ok read) = valued p t part read.0 read.1
valued_at p t part (Err c) = answered (Answered c) part

abbrev pub numbered_at : Pid → Target → Part → Result ℕ Cond → Outcome Served
numbered_at p t part (Ok n) = valued p t part Normal n
numbered_at p t part (Err c) = answered (Answered c) part

-- an answer with a condition of its own, and one with NORMAL
abbrev pub with_value : Pid → Target → Outcome (Result (Cond × ℕ) Cond) → Outcome Served
with_value p t o = valued_at p t (part_of o) o.answer

abbrev pub with_number : Pid → Target → Outcome (Result ℕ Cond) → Outcome Served
with_number p t o = numbered_at p t (part_of o) o.answer

-- The table.
abbrev pub service_of : State → Pid → Args → Service → Outcome Served
service_of s p a SetEf = at_once (setef s p (number a.a0))
service_of s p a ClrEf = at_once (clref s p (number a.a0))
service_of s p a ReadEf = with_value p (place a.a1) (readef s p (number a.a0))
service_of s p a WaitFr = waitfr s p (number a.a0)
service_of s p a WflOr = wflor s p (number a.a0) (number a.a1)
service_of s p a WflAnd = wfland s p (number a.a0) (number a.a1)
service_of s p a AscEfc = at_once (ascefc s p (number a.a0) (text a.a1) (number a.a2))
service_of s p a DacEfc = at_once (dacefc s p (number a.a0))
service_of s p a DlcEfc = at_once (dlcefc s p (text a.a0))
service_of s p a DclAst = at_once (dclast s p (routine s p a.a0 (number a.a1)) (access_mode a.a2))
service_of s p a SetAst = at_once (setast s p (number a.a0))
service_of s p a CmExec = at_once (cmexec s p (routine s p a.a0 (number a.a1)))
service_of s p a CmKrnl = at_once (cmkrnl s p (routine s p a.a0 (number a.a1)))
service_of s p a SetImr = at_once (setimr s p (number a.a0) (number a.a1) (routine_or_none s p a.a2 (number a.a3)) (number a.a3))
service_of s p a CanTim = at_once (cantim s p (number a.a0) (access_mode a.a1))
service_of s p a SchdWk = at_once (schdwk s p (number a.a0) (number a.a1) (number a.a2))
service_of s p a CanWak = at_once (canwak s p (number a.a0))
service_of s p a Hiber = hiber s p
service_of s p a Wake = at_once (wake s p (number a.a0))
service_of s p a Suspnd = at_once (suspnd s p (number a.a0))
service_of s p a Resume = at_once (resume s p (number a.a0))
service_of s p a ForceX = at_once (forcex s p (number a.a0) (number a.a1))
service_of s p a CrePrc = with_number p (place a.a0) (creprc s p (decl_place s (text a.a1)))
service_of s p a DelPrc = at_once (delprc s p (number a.a0))
service_of s p a Exit = at_once (exit s p (number a.a0))
service_of s p a DclExh = at_once (dclexh s p (routine s p a.a0 0))
service_of s p a CanExh = at_once (canexh s p (routine_or_none s p a.a0 0))
service_of s p a Assign = with_number p (place a.a0) (assign s p (text a.a1) (access_mode a.a2))
service_of s p a Dassgn = at_once (dassgn s p (number a.a0))
service_of s p a CreMbx = with_number p (place a.a0) (crembx s p (text a.a1) (number a.a2) (number a.a3) (number a.a4) (access_mode a.a5))
service_of s p a DelMbx = at_once (delmbx s p (number a.a0))
service_of s p a Qio = at_once (qio s p (asked s p a))
service_of s p a QioW = qiow s p (asked s p a)
service_of s p a Synch = synch s p (number a.a0) (number a.a1)
service_of s p a Cancel = at_once (cancel s p (number a.a0))
service_of s p a GetTim = valued p (place a.a0) (nothing s) Normal (gettim s)

abbrev pub service : State → Pid → Call → Outcome Served
service s p c = service_of s p c.args c.service
