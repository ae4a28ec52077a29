-- Exit, deletion and rundown.
use Rattle.std.specs.Prelude.{ℕ, List, [], ◌∷◌, Bool, true, false, ◌&&◌, ◌==◌, if◌then◌else◌, Option, Some, None}
use Rattle.std.specs.List.{find, filter, list_any}
use Rattle.vx_base.specs.Channels.{channels_of}
use Rattle.vx_base.specs.Clusters.{dissociated}
pub use Rattle.vx_base.specs.Handlers.{is_handler_of, any_handler}
use Rattle.vx_base.specs.Lists.{less}
use Rattle.vx_base.specs.Modes.{reaches, is_kernel}
use Rattle.vx_record.specs.Types.{Alarm, Answer, Cond, Entry, Frame, FrameKind, Handler, Id, Mode, Phase, Pid, Queued, Request, Timer}
use Rattle.vx_base.specs.Pieces.{OfTimer, OfWake}
pub use Rattle.vx_base.specs.Queues.{is_ast_reached}
use Rattle.vx_base.specs.declared.cond.Cond.TheVariants.{Normal, IvSsRq, NoHandler}
use Rattle.vx_base.specs.declared.effects.Effect.TheVariants as effect
use Rattle.vx_base.specs.declared.effects.Opened.TheVariants as opened
use Rattle.vx_base.specs.declared.frame.FrameKind.TheVariants as kind
use Rattle.vx_base.specs.declared.frame.Phase.TheVariants as phase
use Rattle.vx_base.specs.declared.mode.Mode.TheVariants.{Kernel, Exec, Super, User}
use Rattle.vx_base.specs.declared.record.Answer.TheVariants as answer
use Rattle.vx_record.specs.State.{Process, State, process_at, change, current, next_id, past_id, top_mode}
use Rattle.vx_record.specs.Parts.{Part, Outcome, nothing, tells, and_then, each, answered, refused, followed_by, commonly}
use Rattle.vx_record.specs.Charges.{is_same}
use Rattle.vx_record.specs.Asts.{open_part, new_frame}
use Rattle.vx_record.specs.Timers.{drop_timers, is_wake_for}
use Rattle.vx_record.specs.Control.{at_process}
use Rattle.vx_record.specs.Channels.{free_channel}
use Rattle.vx_record.specs.Cancel.{cancel_channel}
use Rattle.vx_base.specs.Handlers.{is_handler_with}

-- Exit.

abbrev pub leaving : Phase → Mode → Phase
leaving phase.Alive m = phase.Handlers m
leaving other m = other

-- all frames go; an alive process goes on to the exit handlers of its mode, and any other keeps its phase
abbrev pub without_frames : ℕ → Process → Process
without_frames code pr = record pr { frames = []; exit_code = code; phase = leaving pr.phase (top_mode pr.frames) }

abbrev pub leave_kind : State → FrameKind → Part
leave_kind s (kind.Ast id) = tells (effect.Leave id) s
leave_kind s _ = nothing s

abbrev pub leave_frame : State → Frame → Part
leave_frame s f = leave_kind s f.kind

-- the ASTs of these frames are no longer active, the top one first
abbrev pub leave_all : List Frame → State → Part
leave_all frames s = each leave_frame frames s

abbrev pub exited : State → Pid → ℕ → Part
exited s p code = leave_all (process_at s p).frames (change s p (without_frames code))

-- $EXIT
abbrev pub exit : State → Pid → ℕ → Outcome Cond
exit s p code = answered Normal (exited s p code)

-- Exit handlers.

abbrev pub this_handler : Id → Handler → Bool
this_handler id h = h.id.0 == id.0

abbrev pub with_handler : Handler → Process → Process
with_handler h pr = record pr { handlers = h ∷ pr.handlers }

abbrev pub without_handler : Id → Process → Process
without_handler id pr = record pr { handlers = less (this_handler id) pr.handlers }

abbrev pub new_handler : State → Pid → Entry → Handler
new_handler s p tag = record { id = next_id s; mode = current s p; tag = tag }

abbrev pub handler_declared : State → Pid → Entry → Part
handler_declared s p tag = open_part s opened.Exh p (Some (current s p)) 0 (change (past_id s) p (with_handler (new_handler s p tag)))

-- $DCLEXH
abbrev pub dclexh : State → Pid → Entry → Outcome Cond
dclexh s p tag = if is_kernel (current s p) then refused s IvSsRq else answered Normal (handler_declared s p tag)

abbrev pub drop_handler : Pid → State → Handler → Part
drop_handler p s h = tells (effect.Drop h.id) (change s p (without_handler h.id))

-- those that pass, the newest first
abbrev pub drop_handlers : State → Pid → (Handler → Bool) → Part
drop_handlers s p passes = each (drop_handler p) (filter passes (process_at s p).handlers) s

abbrev pub cancel_found : State → Pid → Option Handler → Outcome Cond
cancel_found s p None = refused s NoHandler
cancel_found s p (Some h) = answered Normal (drop_handler p s h)

abbrev pub cancel_handlers : State → Pid → Option Entry → Outcome Cond
cancel_handlers s p None = answered Normal (drop_handlers s p (is_handler_of (current s p)))
cancel_handlers s p (Some tag) = cancel_found s p (find (is_handler_with (current s p) tag) (process_at s p).handlers)

-- $CANEXH: the newest with that routine, or all of the caller's mode
abbrev pub canexh : State → Pid → Option Entry → Outcome Cond
canexh s p tag = if is_kernel (current s p) then refused s IvSsRq else cancel_handlers s p tag

-- $DELPRC: all frames go, no handler is called, and the process is resumed to be run down

abbrev pub named_for_deletion : Process → Process
named_for_deletion pr = record pr { frames = []; suspended = false; delete_pending = true; phase = leaving pr.phase User }

abbrev pub deleted_by : State → Pid → Outcome Cond
deleted_by s q =
    answered Normal (and_then (leave_all (process_at s q).frames (change s q named_for_deletion)) (λ a. drop_handlers a q any_handler))

abbrev pub delprc : State → Pid → ℕ → Outcome Cond
delprc s p n = at_process s p n (deleted_by s)

-- Rundown.

abbrev pub in_phase : Phase → Process → Process
in_phase ph pr = record pr { phase = ph }

-- a request of that mode or an outer one is outstanding
abbrev pub keeps_busy : Pid → Mode → Request → Bool
keeps_busy p m r = is_same r.req.p p && reaches r.req.chan_mode m

abbrev pub is_busy : State → Pid → Mode → Bool
is_busy s p m = list_any (keeps_busy p m) s.requests

-- the channels of a mode and outer ones, one after another

abbrev pub cancel_one : Pid → State → ℕ → Part
cancel_one p s n = cancel_channel s p n

abbrev pub free_one : Pid → State → ℕ → Part
free_one p s n = free_channel s p n

abbrev pub is_timer_reached : Mode → Alarm → Bool
is_timer_reached m (OfTimer efn reqid mode tag) = reaches mode m
is_timer_reached m (OfWake target repeat) = false

abbrev pub is_timer_in : Pid → Mode → Timer → Bool
is_timer_in p m t = is_same t.p p && is_timer_reached m t.what

abbrev pub is_wake_alarm : Alarm → Bool
is_wake_alarm (OfTimer efn reqid mode tag) = false
is_wake_alarm (OfWake target repeat) = true

abbrev pub is_wake_by : Pid → Timer → Bool
is_wake_by p t = is_same t.p p && is_wake_alarm t.what

-- what the process opened in a mode and outer ones is cancelled: its channels, its timers, the wakes that it scheduled
abbrev pub cancel_modes : State → Pid → Mode → Part
cancel_modes s p m =
    and_then (and_then (each (cancel_one p) (channels_of m (process_at s p).channels) s) (drop_timers (is_timer_in p m))) (drop_timers (is_wake_by p))

abbrev pub without_ast : Id → Process → Process
without_ast id pr = record pr { asts = less (λ q. q.id.0 == id.0) pr.asts }

abbrev pub drop_ast : Pid → State → Queued → Part
drop_ast p s q = tells (effect.Drop q.id) (change s p (without_ast q.id))

abbrev pub drop_asts : Pid → Mode → State → Part
drop_asts p m s = each (drop_ast p) (filter (is_ast_reached m) (process_at s p).asts) s

abbrev pub part_with : Pid → ℕ → State → Part
part_with p k s = commonly s (dissociated s.common p k)

-- the channels of a mode and outer ones are freed, queued ASTs of these modes end, and the common clusters are dissociated
abbrev pub release : State → Pid → Mode → Part
release s p m =
    and_then (and_then (and_then (each (free_one p) (channels_of m (process_at s p).channels) s) (drop_asts p m)) (part_with p 2)) (part_with p 3)

-- a handler is entered, with the exit code as its parameter

abbrev pub entering : Frame → Id → Process → Process
entering f id pr = record pr { handlers = less (this_handler id) pr.handlers; frames = f ∷ pr.frames }

abbrev pub handler_frame : State → Pid → Handler → Frame
handler_frame s p h = record (new_frame s p kind.Handler h.mode h.tag 0) { prm = (process_at s p).exit_code }

abbrev pub entered : State → Pid → Handler → Outcome Answer
entered s p h = answered answer.Handler (tells (effect.Enter h.id) (change s p (entering (handler_frame s p h) h.id)))

-- the last of a process

abbrev pub gone_part : Pid → State → Part
gone_part p s = tells (effect.Gone p) (change s p (in_phase phase.Deleted))

abbrev pub drop_all_handlers : Pid → State → Part
drop_all_handlers p s = drop_handlers s p any_handler

abbrev pub gone : State → Pid → Outcome Answer
gone s p = answered answer.Gone (and_then (and_then (drop_all_handlers p s) (drop_timers (is_wake_for p))) (gone_part p))

-- a mode is drained: if a request is outstanding, that is waited for; else its things are released, and what is next follows
abbrev pub drain : Pid → Mode → (State → Outcome Answer) → State → Outcome Answer
drain p m next s = if is_busy s p m then answered answer.Busy (nothing s) else followed_by (release s p m) next

abbrev pub draining : Pid → Mode → State → State
draining p m s = change s p (in_phase (phase.Draining m))

abbrev pub cancelled_in : State → Pid → Mode → Part
cancelled_in s p m = and_then (cancel_modes s p m) (λ a. nothing (draining p m a))

-- the newest handler of the mode is entered; if there is none, the mode is cancelled and drained
abbrev pub run_handlers : State → Pid → Mode → (State → Outcome Answer) → Option Handler → Outcome Answer
run_handlers s p m next None = followed_by (cancelled_in s p m) (drain p m next)
run_handlers s p m next (Some h) = entered s p h

abbrev pub handling : Pid → Mode → State → State
handling p m s = change s p (in_phase (phase.Handlers m))

-- mode after mode, each with its handlers
abbrev pub run_down : Pid → List Mode → State → Outcome Answer
run_down p [] s = gone s p
run_down p (m ∷ ms) s = run_handlers (handling p m s) p m (run_down p ms) (find (is_handler_of m) (process_at s p).handlers)

-- the modes further in than a mode, the outermost first
abbrev pub inner_modes : Mode → List Mode
inner_modes Kernel = []
inner_modes Exec = Kernel ∷ []
inner_modes Super = Exec ∷ Kernel ∷ []
inner_modes User = Super ∷ Exec ∷ Kernel ∷ []

-- one step: from where the process stands to the next answer
abbrev pub rundown_from : Pid → Phase → State → Outcome Answer
rundown_from p (phase.Handlers m) s = run_down p (m ∷ inner_modes m) s
rundown_from p (phase.Draining m) s = drain p m (run_down p (inner_modes m)) s
rundown_from p other s = answered answer.Gone (nothing s)

abbrev pub rundown : State → Pid → Outcome Answer
rundown s p = rundown_from p (process_at s p).phase s
