-- Words for scripts and for the records of their runs, so that examples read as transcripts do.
use Rattle.std.specs.Prelude.{ℕ, List, [], ◌∷◌, Bool, true, Option, Some, None, slice_index_or}
use Rattle.vx_record.specs.Types.{Answer, Arg, Body, BoxNo, Call, Cond, Effect, Event, Func, Id, Mode, Need, Opened, Operand, Pid, ProcDecl, Rec, Service, Stmt, UnitNo}
use Rattle.vx_base.specs.declared.call.Arg.TheVariants as arg
use Rattle.vx_base.specs.declared.call.Operand.TheVariants as operand
use Rattle.vx_base.specs.declared.call.Target.TheVariants as target
use Rattle.vx_base.specs.declared.effects.Cell.TheVariants as cell
use Rattle.vx_base.specs.declared.effects.Effect.TheVariants as effect
use Rattle.vx_base.specs.declared.mode.Mode.TheVariants.{User}
use Rattle.vx_base.specs.declared.record.Answer.TheVariants as answer
use Rattle.vx_base.specs.declared.record.Event.TheVariants as event
use Rattle.vx_image.specs.declared.stmt.Stmt.TheVariants as stmt
pub use Rattle.vx_base.specs.Quotas.{no_privs}

-- Numbers that name things.

abbrev pub process : ℕ → Pid
process n = record { 0 = n }

abbrev pub id : ℕ → Id
id n = record { 0 = n }

abbrev pub unit : ℕ → UnitNo
unit n = record { 0 = n }

abbrev pub box : ℕ → BoxNo
box n = record { 0 = n }

-- a variable, by the code of its letter
abbrev pub letter : List ℕ → ℕ
letter text = slice_index_or text 0 0

-- Calls.

abbrev pub value : ℕ → Arg
value n = arg.Value (operand.Num n)

abbrev pub valued : Operand → Arg
valued x = arg.Value x

-- what a variable holds
abbrev pub held_in : List ℕ → Arg
held_in text = valued (operand.Var (letter text))

abbrev pub variable : List ℕ → Arg
variable text = arg.Target (target.Var (letter text))

abbrev pub in_r0 : Arg
in_r0 = arg.Target target.R0

abbrev pub named : List ℕ → Arg
named name = arg.Name name

abbrev pub routine : List ℕ → Arg
routine name = arg.Label (Some name)

abbrev pub no_routine : Arg
no_routine = arg.Label None

abbrev pub in_mode : Mode → Arg
in_mode m = arg.Mode m

abbrev pub function : Func → Arg
function f = arg.Func f

abbrev pub nth : List Arg → ℕ → Arg
nth args n = slice_index_or args n arg.Unused

-- the arguments of $QIO and $QIOW, in their order
abbrev pub request : ℕ → Arg → Func → ℕ → Arg → ℕ → ℕ → ℕ → ℕ → List Arg
request efn chan func iosb ast prm buf len blk = value efn ∷ chan ∷ function func ∷ value iosb ∷ ast ∷ value prm ∷
    value buf ∷ value len ∷ value blk ∷ []

-- those of $CREMBX
abbrev pub mailbox : List ℕ → List ℕ → ℕ → ℕ → ℕ → Mode → List Arg
mailbox place name perm maxmsg bufquo mode = variable place ∷ named name ∷ value perm ∷ value maxmsg ∷ value
    bufquo ∷
    in_mode mode ∷ []

-- a call with its arguments, and none behind them
abbrev pub call : Service → List Arg → Call
call service args = record {
  service = service;
  args = record {
    a0 = nth args 0;
    a1 = nth args 1;
    a2 = nth args 2;
    a3 = nth args 3;
    a4 = nth args 4;
    a5 = nth args 5;
    a6 = nth args 6;
    a7 = nth args 7;
    a8 = nth args 8;
  };
}

-- a statement that calls a service
abbrev pub calls : Service → List Arg → Stmt
calls service args = stmt.Service (call service args)

-- Process declarations.

abbrev pub usual_limits : Need
usual_limits = record { ast = 24; bio = 18; dio = 18; byt = 8192; tqe = 10 }

-- a process of an image, with all keys as they are by default
abbrev pub declared : List ℕ → ℕ → ProcDecl
declared name image = record {
  name = name;
  image = image;
  group = 1;
  member = 1;
  mode = User;
  limits = usual_limits;
  privs = no_privs;
  start = true;
}

-- Records.

abbrev pub recorded : Event → Answer → List Effect → Rec
recorded e a effects = record { event = e; answer = a; effects = effects }

-- RUN p CALL COND
abbrev pub runs : ℕ → Call → Cond → List Effect → Rec
runs p c cond effects = recorded (event.Run (process p)) (answer.Service c cond) effects

-- RUN p CALL WAIT
abbrev pub waits : ℕ → Call → List Effect → Rec
waits p c effects = recorded (event.Run (process p)) (answer.Wait c) effects

-- RUN p RESUME COND
abbrev pub resumes : ℕ → Cond → List Effect → Rec
resumes p cond effects = recorded (event.Run (process p)) (answer.Resume cond) effects

-- RUN p RETURN
abbrev pub returns : ℕ → List Effect → Rec
returns p effects = recorded (event.Run (process p)) answer.Return effects

-- RUN p END
abbrev pub ends : ℕ → List Effect → Rec
ends p effects = recorded (event.Run (process p)) answer.End effects

-- RUN p LOCAL
abbrev pub goes_on : ℕ → List Effect → Rec
goes_on p effects = recorded (event.Run (process p)) answer.Local effects

-- AST p #id
abbrev pub starts : ℕ → ℕ → List Effect → Rec
starts p n effects = recorded (event.Ast (process p)) (answer.Ast (id n)) effects

-- RDN p HANDLER, BUSY, GONE
abbrev pub handles : ℕ → List Effect → Rec
handles p effects = recorded (event.Rdn (process p)) answer.Handler effects

abbrev pub is_busy : ℕ → List Effect → Rec
is_busy p effects = recorded (event.Rdn (process p)) answer.Busy effects

abbrev pub is_gone : ℕ → List Effect → Rec
is_gone p effects = recorded (event.Rdn (process p)) answer.Gone effects

-- BEG unit #id, DON unit #id
abbrev pub begins : ℕ → ℕ → List Effect → Rec
begins u n effects = recorded (event.Beg (unit u)) (answer.Unit (id n)) effects

abbrev pub is_done : ℕ → ℕ → List Effect → Rec
is_done u n effects = recorded (event.Don (unit u)) (answer.Unit (id n)) effects

-- TICK time
abbrev pub ticks : ℕ → List Effect → Rec
ticks time effects = recorded event.Tick (answer.Time time) effects

-- Effects.

abbrev pub opens : ℕ → Opened → ℕ → Option Mode → ℕ → Effect
opens n kind p mode m = effect.Open (id n) kind (process p) mode m

abbrev pub fin : ℕ → Cond → Effect
fin n cond = effect.Fin (id n) cond

abbrev pub mark : ℕ → Effect
mark n = effect.Mark (id n)

abbrev pub que : ℕ → Effect
que n = effect.Que (id n)

abbrev pub fires : ℕ → Effect
fires n = effect.Fire (id n)

abbrev pub drops : ℕ → Effect
drops n = effect.Drop (id n)

abbrev pub enters : ℕ → Effect
enters n = effect.Enter (id n)

abbrev pub leaves : ℕ → Effect
leaves n = effect.Leave (id n)

-- FLAG pid:efn bit, FLAG group:name:n bit
abbrev pub flag : ℕ → ℕ → Bool → Effect
flag p efn bit = effect.Flag (cell.Local (process p) efn) bit

abbrev pub common_flag : ℕ → List ℕ → ℕ → Bool → Effect
common_flag group name n bit = effect.Flag (cell.Common group name n) bit

-- IOSB pid i COND count info, and a cleared one
abbrev pub status : ℕ → ℕ → Cond → ℕ → ℕ → Effect
status p i cond count info = effect.Iosb (process p) i (Some cond) count info

abbrev pub cleared_status : ℕ → ℕ → Effect
cleared_status p i = effect.Iosb (process p) i None 0 0

abbrev pub bytes_put : ℕ → ℕ → List ℕ → Effect
bytes_put p b bytes = effect.Buf (process p) b bytes

-- VAR pid v n
abbrev pub puts : ℕ → List ℕ → ℕ → Effect
puts p text n = effect.Var (process p) (target.Var (letter text)) n

abbrev pub puts_r0 : ℕ → ℕ → Effect
puts_r0 p n = effect.Var (process p) target.R0 n

abbrev pub mput : List ℕ → ℕ → Body → Effect
mput name n body = effect.MPut name (id n) body

abbrev pub mget : List ℕ → ℕ → ℕ → Effect
mget name w r = effect.MGet name (id w) (id r)

abbrev pub mcut : List ℕ → ℕ → Effect
mcut name w = effect.MCut name (id w)

abbrev pub mbx : List ℕ → Bool → Effect
mbx name bit = effect.Mbx name bit

abbrev pub cef : ℕ → List ℕ → Bool → Effect
cef group name bit = effect.Cef group name bit

-- CLU pid k group:name, and CLU pid k -
abbrev pub clu : ℕ → ℕ → ℕ → List ℕ → Effect
clu p k group name = effect.Clu (process p) k (Some (group, name))

abbrev pub no_clu : ℕ → ℕ → Effect
no_clu p k = effect.Clu (process p) k None

abbrev pub enb : ℕ → Mode → Bool → Effect
enb p mode bit = effect.Enb (process p) mode bit

abbrev pub new : ℕ → List ℕ → Effect
new p name = effect.New (process p) name

abbrev pub gone : ℕ → Effect
gone p = effect.Gone (process p)
