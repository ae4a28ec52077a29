-- Events: what is enabled, and what a step does.
use Rattle.std.specs.Prelude.{ℕ, ◌+◌, List, [], ◌∷◌, ◌++◌, Bool, true, false, not, if◌then◌else◌, Option, Some, None, is_some}
use Rattle.vx_base.specs.Cond.{number_of}
use Rattle.vx_record.specs.Types.{Answer, Call, Cond, DeviceUnit, Entry, Event, Frame, FrameKind, Phase, Pid, Queued, Request, Stop, Timer, UnitNo, Wait}
use Rattle.vx_base.specs.Queues.{front, in_service}
use Rattle.vx_base.specs.declared.call.Target.TheVariants as target
use Rattle.vx_base.specs.declared.cond.Cond.TheVariants.{Normal}
use Rattle.vx_base.specs.declared.effects.Effect.TheVariants as effect
use Rattle.vx_base.specs.declared.frame.FrameKind.TheVariants as kind
use Rattle.vx_base.specs.declared.frame.Phase.TheVariants as phase
use Rattle.vx_base.specs.declared.frame.Wait.TheVariants as wait
use Rattle.vx_base.specs.declared.record.Answer.TheVariants as answer
use Rattle.vx_base.specs.declared.record.Event.TheVariants as event
use Rattle.vx_base.specs.declared.routine.Entry.TheVariants as entry
use Rattle.vx_image.specs.Local.{Reader, Advanced, advanced}
use Rattle.vx_image.specs.Storage.{Storage}
use Rattle.vx_image.specs.declared.stop.Stop.TheVariants as stop
use Rattle.vx_record.specs.State.{Process, State, process_at, change, image_of, pid, with_top}
use Rattle.vx_record.specs.Parts.{Part, Outcome, nothing, tells, and_then, answered}
use Rattle.vx_record.specs.Flags.{wait_condition, with_wait}
use Rattle.vx_record.specs.Asts.{deliverable_ast, with_frame, new_frame}
use Rattle.vx_record.specs.Timers.{tick, next_time}
use Rattle.vx_record.specs.Control.{with_wake}
use Rattle.vx_record.specs.Requests.{begun, done}
use Rattle.vx_record.specs.Rundown.{exited, is_busy, rundown, without_ast}
use Rattle.vx_record.specs.Services.{service, with_variable}
use Rattle.vx_record.specs.declared.served.Served.{Served}
use Rattle.vx_record.specs.declared.served.Served.TheVariants.{Answered, Waits}
use Rattle.vx_base.specs.Lists.{rest}

-- What is enabled: the processes in number order, each with at most one event; the units in script order; time.

abbrev pub is_satisfied : State → Pid → Option Wait → Bool
is_satisfied s p None = true
is_satisfied s p (Some w) = is_some (wait_condition s p w)

-- it has a frame, which waits for nothing or for what has come
abbrev pub can_run : State → Pid → List Frame → Bool
can_run s p [] = false
can_run s p (f ∷ fs) = is_satisfied s p f.wait

-- a mode that is drained waits for its requests
abbrev pub can_step_down : State → Pid → Phase → Bool
can_step_down s p (phase.Draining m) = not (is_busy s p m)
can_step_down s p phase.Deleted = false
can_step_down s p other = true

abbrev pub can_run_down : State → Pid → List Frame → Bool
can_run_down s p [] = can_step_down s p (process_at s p).phase
can_run_down s p (f ∷ fs) = false

abbrev pub run_events : State → Pid → List Event
run_events s p =
    if can_run s p (process_at s p).frames then event.Run p ∷ [] else (
    if can_run_down s p (process_at s p).frames then event.Rdn p ∷ [] else [])

abbrev pub ast_or_run : State → Pid → Option Queued → List Event
ast_or_run s p None = run_events s p
ast_or_run s p (Some q) = event.Ast p ∷ []

abbrev pub process_events : State → Pid → List Event
process_events s p = if (process_at s p).suspended then [] else ast_or_run s p (deliverable_ast s p)

abbrev pub processes_from : State → ℕ → List Process → List Event
processes_from s n [] = []
processes_from s n (pr ∷ prs) = process_events s (pid n) ++ processes_from s (n + 1) prs

abbrev pub beg_event : UnitNo → Option Request → List Event
beg_event u None = []
beg_event u (Some r) = event.Beg u ∷ []

-- a unit that serves a request finishes it; one that serves none begins the first that waits
abbrev pub don_or_beg : State → UnitNo → Option Request → List Event
don_or_beg s u None = beg_event u (front u s.requests)
don_or_beg s u (Some r) = event.Don u ∷ []

abbrev pub unit_events : State → UnitNo → List Event
unit_events s u = don_or_beg s u (in_service u s.requests)

abbrev pub units_from : State → ℕ → List DeviceUnit → List Event
units_from s n [] = []
units_from s n (u ∷ us) = unit_events s (record { 0 = n }) ++ units_from s (n + 1) us

abbrev pub tick_events : List Timer → List Event
tick_events [] = []
tick_events (t ∷ ts) = event.Tick ∷ []

abbrev pub enabled : State → List Event
enabled s = processes_from s 1 s.procs ++ (units_from s 0 s.units ++ tick_events s.timers)

-- whether an event ends the service of a unit
abbrev pub is_don : Event → Bool
is_don (event.Don u) = true
is_don other = false

-- RUN.

-- a wait ends: R0 takes the condition, and a wake is used up

abbrev pub or_normal : Option Cond → Cond
or_normal None = Normal
or_normal (Some c) = c

abbrev pub uses_wake : Wait → Process → Process
uses_wake wait.Hiber pr = with_wake false pr
uses_wake _ pr = pr

abbrev pub with_r0 : ℕ → Process → Process
with_r0 n pr = with_variable target.R0 n pr

abbrev pub resumed_with : Wait → Cond → Process → Process
resumed_with w c pr = with_r0 (number_of c) (uses_wake w (with_wait None pr))

abbrev pub resumed : State → Pid → Wait → Cond → Outcome Answer
resumed s p w c = answered (answer.Resume c) (nothing (change s p (resumed_with w c)))

-- the process after local statements: its store, and the place of its top frame
abbrev pub moved_to : Storage → ℕ → Process → Process
moved_to store place pr = record pr { store = store; frames = with_top (λ f. record f { pc = place }) pr.frames }

-- a call is served with the place behind it; R0 takes the condition last, and keeps its value if the service waits
abbrev pub served_call : Pid → Call → Outcome Served → Served → Outcome Answer
served_call p c o (Answered cond) = record { answer = answer.Service c cond; effects = o.effects; after = change o.after p (with_r0 (number_of cond)) }
served_call p c o Waits = record { answer = answer.Wait c; effects = o.effects; after = o.after }

abbrev pub called : Pid → Call → Outcome Served → Outcome Answer
called p c o = served_call p c o o.answer

-- the top frame ends: the main frame exits with R0 as code; any other is left, and an AST's R0 is put back

abbrev pub below_top : Process → Process
below_top pr = record pr { frames = rest pr.frames }

abbrev pub put_back : ℕ → Process → Process
put_back r0 pr = with_r0 r0 (below_top pr)

abbrev pub r0_of : State → Pid → ℕ
r0_of s p = (process_at s p).store.r0

abbrev pub returned_from : State → Pid → Frame → FrameKind → Outcome Answer
returned_from s p f kind.Main = answered answer.End (exited s p (r0_of s p))
returned_from s p f (kind.Ast id) = answered answer.Return (tells (effect.Leave id) (change s p (put_back f.saved_r0)))
returned_from s p f other = answered answer.Return (nothing (change s p below_top))

abbrev pub returned : State → Pid → List Frame → Outcome Answer
returned s p [] = answered answer.Return (nothing s)
returned s p (f ∷ fs) = returned_from s p f f.kind

-- the place behind a statement
abbrev pub moved_behind : ℕ → Process → Process
moved_behind place pr = moved_to pr.store (place + 1) pr

abbrev pub run_on : State → Pid → ℕ → Stop → Outcome Answer
run_on s p place (stop.Call c) = called p c (service (change s p (moved_behind place)) p c)
run_on s p place stop.Return = returned s p (process_at s p).frames
run_on s p place stop.End = returned s p (process_at s p).frames
run_on s p place stop.Local = answered answer.Local (nothing s)

abbrev pub run_advanced : State → Pid → Advanced → Outcome Answer
run_advanced s p a = run_on (change s p (moved_to a.store a.place)) p a.place a.stop

abbrev pub reader : Pid → Frame → Reader
reader p f = record { prm = f.prm; p = p }

abbrev pub run_frame : State → Pid → Frame → Option Wait → Outcome Answer
run_frame s p f None = run_advanced s p (advanced (image_of s p) (reader p f) (process_at s p).store f.pc)
run_frame s p f (Some w) = resumed s p w (or_normal (wait_condition s p w))

abbrev pub run : State → Pid → List Frame → Outcome Answer
run s p [] = answered answer.Local (nothing s)
run s p (f ∷ fs) = run_frame s p f f.wait

-- AST: the routine is entered in a new frame, and R0 is saved; a forced exit exits

abbrev pub started : State → Pid → Queued → Entry → Part
started s p q (entry.Exit code) = and_then (tells (effect.Leave q.id) s) (λ a. exited a p code)
started s p q tag = nothing (change s p (with_frame (new_frame s p (kind.Ast q.id) q.mode tag (r0_of s p))))

abbrev pub delivered : State → Pid → Option Queued → Outcome Answer
delivered s p None = answered answer.Local (nothing s)
delivered s p (Some q) = answered (answer.Ast q.id) (started (change s p (without_ast q.id)) p q q.tag)

-- BEG and DON

abbrev pub beg : State → Option Request → Outcome Answer
beg s None = answered answer.Local (nothing s)
beg s (Some r) = answered (answer.Unit r.req.id) (nothing (begun s r))

abbrev pub don : State → UnitNo → Option Request → Outcome Answer
don s u None = answered answer.Local (nothing s)
don s u (Some r) = answered (answer.Unit r.req.id) (done s u r)

-- What an event does. (Of events that are not enabled nothing is asked.)
abbrev pub step : State → Event → Outcome Answer
step s (event.Run p) = run s p (process_at s p).frames
step s (event.Ast p) = delivered s p (deliverable_ast s p)
step s (event.Rdn p) = rundown s p
step s (event.Beg u) = beg s (front u s.requests)
step s (event.Don u) = don s u (in_service u s.requests)
step s event.Tick = answered (answer.Time (next_time s)) (tick s)
