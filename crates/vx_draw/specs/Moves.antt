-- What a record does to the frames of processes, and what it tells of ids.
use Rattle.std.specs.Prelude.{ℕ, ◌==◌, Bool, true, false, List, [], ◌∷◌, bytes_eq, if◌then◌else◌, Option, Some, None}
use Rattle.vx_base.specs.Cond.{severity_of}
use Rattle.vx_base.specs.declared.call.Arg.{Arg}
use Rattle.vx_base.specs.declared.call.Arg.TheVariants as arg
use Rattle.vx_base.specs.declared.call.Operand.TheVariants as operand
use Rattle.vx_base.specs.declared.cond.Severity.{Severity}
use Rattle.vx_base.specs.declared.cond.Severity.TheVariants as severity
use Rattle.vx_base.specs.declared.effects.Effect.{Effect}
use Rattle.vx_base.specs.declared.effects.Effect.TheVariants as effect
use Rattle.vx_base.specs.declared.effects.Opened.{Opened}
use Rattle.vx_base.specs.declared.effects.Opened.TheVariants as kind
use Rattle.vx_base.specs.declared.mode.Mode.{Mode}
use Rattle.vx_base.specs.declared.mode.Mode.TheVariants.{Kernel, Exec, User}
use Rattle.vx_base.specs.declared.number.Pid.{Pid}
use Rattle.vx_base.specs.declared.record.Answer.{Answer}
use Rattle.vx_base.specs.declared.record.Answer.TheVariants as answer
use Rattle.vx_base.specs.declared.record.Event.{Event}
use Rattle.vx_base.specs.declared.record.Event.TheVariants as event
use Rattle.vx_base.specs.declared.service.Service.{Service}
use Rattle.vx_base.specs.declared.service.Service.TheVariants as service
use Rattle.vx_image.specs.declared.decl.ProcDecl.{ProcDecl}
use Rattle.vx_draw.specs.Shapes.{top, bottom}
use Rattle.vx_draw.specs.Trails.{trail_at}
use Rattle.vx_draw.specs.declared.frames.Bar.{Bar}
use Rattle.vx_draw.specs.declared.frames.Move.{Move}
use Rattle.vx_draw.specs.declared.frames.Move.TheVariants as move
use Rattle.vx_draw.specs.declared.trails.Tale.{Tale}
use Rattle.vx_draw.specs.declared.trails.Tale.TheVariants as tale
use Rattle.vx_draw.specs.declared.trails.Trail.{Trail}

-- a frame of a mode, from a height on
abbrev pub runs_from : Mode → ℕ → Bar
runs_from mode since = record { mode = mode; since = since; waits = false }

-- Who.

abbrev pub actor : Event → Pid
actor (event.Run p) = p
actor (event.Ast p) = p
actor (event.Rdn p) = p
actor (event.Beg u) = record { 0 = 0 }
actor (event.Don u) = record { 0 = 0 }
actor event.Tick = record { 0 = 0 }

-- the process that an argument names, for the caller p
abbrev pub named_by : Arg → Pid → Pid
named_by (arg.Value (operand.Num n)) p = if n == 0 then p else record { 0 = n }
named_by _ p = p

-- whose frames a call changes
abbrev pub subject : Service → Arg → Pid → Pid
subject service.DelPrc a p = named_by a p
subject _ a p = p

abbrev pub mover : Event → Answer → Pid
mover e (answer.Service call cond) = subject call.service call.args.a0 (actor e)
mover e _ = actor e

-- What becomes of the frames.

abbrev pub is_success : Severity → Bool
is_success severity.Success = true
is_success _ = false

-- a call that was refused
abbrev pub is_refused : Answer → Bool
is_refused (answer.Service call cond) = if is_success (severity_of cond) then false else true
is_refused _ = false

-- by a service that was done, in row n
abbrev pub service_move : ℕ → Service → Move
service_move n service.Exit = move.LeaveAll (bottom n)
service_move n service.DelPrc = move.LeaveAll (bottom n)
service_move n service.CmExec = move.Inward Exec (bottom n)
service_move n service.CmKrnl = move.Inward Kernel (bottom n)
service_move n _ = move.Stay

-- an AST enters its routine, but a forced exit none
abbrev pub ast_move : ℕ → Trail → Move
ast_move n trail = if trail.forces then move.LeaveAll (bottom n) else move.Enter (runs_from trail.mode (top n))

abbrev pub answer_move : ℕ → List Trail → Answer → Move
answer_move n trails (answer.Service call cond) = if is_success (severity_of cond) then service_move n call.service else move.Stay
answer_move n trails (answer.Wait call) = move.Turn (bottom n) true
answer_move n trails (answer.Resume cond) = move.Turn (top n) false
answer_move n trails answer.Return = move.Leave (bottom n)
answer_move n trails answer.End = move.LeaveAll (bottom n)
answer_move n trails (answer.Ast id) = ast_move n (trail_at trails id)
answer_move n trails _ = move.Stay

-- the mode of the first declaration of a name
abbrev pub mode_named : List ProcDecl → List ℕ → Mode
mode_named [] name = User
mode_named (decl ∷ decls) name = if bytes_eq decl.name name then decl.mode else mode_named decls name

abbrev pub effect_mover : Event → Effect → Pid
effect_mover e (effect.New p name) = p
effect_mover e _ = actor e

-- an exit handler is entered, and a new process begins
abbrev pub effect_move : ℕ → List ProcDecl → List Trail → Effect → Move
effect_move n decls trails (effect.Enter id) = move.Enter (runs_from (trail_at trails id).mode (top n))
effect_move n decls trails (effect.New p name) = move.Enter (runs_from (mode_named decls name) (bottom n))
effect_move n decls trails _ = move.Stay

-- What is told of ids.

abbrev pub answer_tale : Answer → Tale
answer_tale (answer.Ast id) = tale.Again id
answer_tale (answer.Unit id) = tale.Again id
answer_tale _ = tale.Nothing

abbrev pub is_force : Opened → Bool
is_force kind.Force = true
is_force _ = false

abbrev pub mode_or_user : Option Mode → Mode
mode_or_user (Some mode) = mode
mode_or_user None = User

abbrev pub effect_tale : Effect → Tale
effect_tale (effect.Open id kind p mode n) = tale.Opened id (mode_or_user mode) (is_force kind)
effect_tale (effect.Fin id cond) = tale.Again id
effect_tale (effect.Fire id) = tale.Again id
effect_tale (effect.Drop id) = tale.Again id
effect_tale (effect.Enter id) = tale.Again id
effect_tale _ = tale.Nothing
