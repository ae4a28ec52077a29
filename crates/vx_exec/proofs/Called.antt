-- What the services of the table and the events of a process do to the state: how many processes there are then, how many ids they
-- open, and how much they tell.
use Rattle.std.proofs.Common.{ℕ, ◌-◌, ◌≤◌, List, ◌∷◌, Bool, length, length-set, length-append, Option, Some, None, Result, Ok, arith, [], ◌==◌, not, subst}
use Rattle.std.proofs.lemmas.Bool.Decides.{nat_tests}
use Rattle.vx_base.specs.Clusters.{Change}
use Rattle.vx_record.specs.Types.{Args, Call, Cond, Effect, Entry, Frame, FrameKind, Mailbox, Mode, Pid, Queued, Service, Stop, Target, Timer, Wait}
use Rattle.vx_base.specs.declared.cond.Cond.TheVariants.{Normal}
use Rattle.vx_base.specs.declared.frame.FrameKind.TheVariants as kind
use Rattle.vx_base.specs.Modes.{is_kernel, outer}
use Rattle.vx_base.specs.declared.routine.Entry.TheVariants as entry
use Rattle.vx_base.specs.declared.service.Service.TheVariants.{Cancel, SetImr, CrePrc, Exit, AscEfc, DacEfc, DlcEfc, CanTim, CanWak, CanExh, Dassgn, CreMbx, Qio, QioW, DelPrc}
use Rattle.vx_image.specs.Local.{advanced}
use Rattle.vx_image.specs.declared.stop.Stop.TheVariants as stop
use Rattle.vx_record.specs.State.{Process, State, IsProcess, process_at, change, current, image_of}
use Rattle.vx_record.specs.Parts.{Outcome, answered, at_tested, commonly}
use Rattle.vx_record.specs.Control.{creprc, process_test}
use Rattle.vx_record.specs.Rundown.{cancel_handlers, exited, is_handler_of, without_frames, any_handler, deleted_by, leave_all, named_for_deletion, without_ast}
use Rattle.vx_record.specs.Services.{place, with_number, asked, decl_place, number, routine_or_none, access_mode, service, service_of, text}
use Rattle.vx_record.specs.Timers.{drop_timers, is_cancelled_timer, is_wake_for, unscheduled, setimr}
use Rattle.vx_record.specs.Events.{delivered, moved_behind, moved_to, r0_of, reader, returned, returned_from, run, run_frame, run_on, served_call, started}
use Rattle.vx_record.specs.Channels.{box_named, find_or_create, is_bad_box, new_box}
use Rattle.vx_record.specs.declared.served.Served.{Served}
use Rattle.vx_record.proofs.Lists.{either}
use Rattle.vx_clusters.proofs.Few.{associate_few, dissociate_few}
use Rattle.vx_ctl.proofs.Common.{associates, dissociates}
use Rattle.vx_io.proofs.Changed.{process_there}
use Rattle.vx_exec.proofs.Deepest.{at_most, deepest_set}
use Rattle.vx_exec.proofs.Goes.{Goes, GoesBy, goes_stays, run_most, stays_changed, stays_goes}
use Rattle.vx_exec.proofs.Ends.{Ends, ends_goes, falls_then, frames_fall, handlers_fall, timers_fall}
use Rattle.vx_exec.proofs.Asks.{cancel_goes, dassgn_goes, qio_goes, qiow_goes}
use Rattle.vx_procs.proofs.Quiet.{top_few}

-- a process leaves its frames, and exits
exited_ends : (p : Pid) (s : State) (code : ℕ) → Ends (length (process_at s p).frames) s (exited s p code)
exited_ends p s code = (frames_fall p s (without_frames code) (grind arith)).ends

exited_goes : (p : Pid) (s : State) (code : ℕ) → Goes (run_most s p) s (exited s p code).after (exited s p code).effects
exited_goes p s code = ends_goes _ (run_most s p) (omega arith) (exited_ends p s code)

-- or is named for deletion, and its exit handlers end
deleted_goes : (p : Pid) (s : State) (q : Pid) → GoesBy p s (deleted_by s q)
deleted_goes p s q =
    let n = length (process_at s q).frames in
    let t = (leave_all (process_at s q).frames (change s q named_for_deletion)).after in
    let first = frames_fall q s named_for_deletion (grind arith) in
    ends_goes _ (run_most s p) (omega (arith, first.alike.handlers, at_most s.procs (q.0 - 1))) (falls_then 0 0 n (length (process_at t q).handlers) first (handlers_fall q any_handler t)).ends

-- a process is made, if there are fewer than 1,000
created_goes : (p : Pid) (s : State) (t : Target) (place : ℕ) → GoesBy p s (with_number p t (creprc s p place))
created_goes p s t place = grind (arith, nat_tests, length-set {A = Process}, length-append {A = Process})

-- timers and wakes end, and exit handlers
dropped_goes : (p : Pid) (s : State) (test : Timer → Bool) → GoesBy p s (answered Normal (drop_timers test s))
dropped_goes p s test = ends_goes _ (run_most s p) (omega arith) (timers_fall p test s).ends

cancelled_goes : (p : Pid) (s : State) (tag : Option Entry) → GoesBy p s (cancel_handlers s p tag)
cancelled_goes p s None = ends_goes _ (run_most s p) (omega arith) (handlers_fall p (is_handler_of (current s p)) s).ends
cancelled_goes p s tag = grind (arith, length-set {A = Process})

-- common clusters are changed
common_goes : (p : Pid) (s : State) (c : Change) → length c.effects ≤ 4 → Goes (run_most s p) s (commonly s c).after c.effects
common_goes p s c few = goes_stays (run_most s p) s (commonly s c).after c.effects (grind arith) (omega (arith, few))

-- what is done to a process that a test found
tested_goes : (p : Pid) (s : State) (go : Pid → Outcome Cond) (r : Result Pid Cond) → ((q : Pid) → GoesBy p s (go q)) → GoesBy p s (at_tested s go r)
tested_goes p s go (Ok q) g = g q
tested_goes p s go r g = grind arith

-- a timer is set
timer_goes : (p : Pid) (s : State) (efn delta : ℕ) (tag : Option Entry) (reqid : ℕ) → GoesBy p s (setimr s p efn delta tag reqid)
timer_goes p s efn delta tag reqid = grind (arith, either, length-set)

-- a mailbox is made, or assigned
box_goes : (p : Pid) (s : State) (t : Target) (mode : Mode) (box : Mailbox) (o : Option ℕ) → GoesBy p s (with_number p t (find_or_create s p mode box o))
box_goes p s t mode box o = grind (arith, length-set {A = Process})

service_goes : (p : Pid) (s : State) (a : Args) (v : Service) → GoesBy p s (service_of s p a v)
service_goes p s a AscEfc =
    let pr = process_at s p in
    subst (GoesBy p s) (associates s p (number a.a0) (text a.a1) (number a.a2)) (common_goes p s _ (associate_few s.common p pr.group (number a.a0) (text a.a1) (not (number a.a2 == 0)) pr.privs.prmceb))
service_goes p s a DacEfc = subst (GoesBy p s) (dissociates s p (number a.a0)) (common_goes p s _ (omega (arith, dissociate_few s.common p (number a.a0))))
service_goes p s a DlcEfc = grind arith
service_goes p s a CanTim = dropped_goes p s (is_cancelled_timer p (number a.a0) (outer (access_mode a.a1) (current s p)))
service_goes p s a CanWak = tested_goes p s (unscheduled s) (process_test s p (number a.a0)) (λ q. dropped_goes p s (is_wake_for q))
service_goes p s a SetImr = timer_goes p s (number a.a0) (number a.a1) (routine_or_none s p a.a2 (number a.a3)) (number a.a3)
service_goes p s a CreMbx =
    let mode = outer (access_mode a.a5) (current s p) in
    let box = new_box (text a.a1) (number a.a2) (number a.a3) (number a.a4) in
    either (λ (o : Outcome (Result ℕ Cond)). GoesBy p s (with_number p (place a.a0) o)) (is_bad_box s (text a.a1) (number a.a3) (number a.a4)) _ _ (grind (arith, length-set {A = Process})) (box_goes p s (place a.a0) mode box (box_named s (text a.a1)))
service_goes p s a CrePrc = created_goes p s (place a.a0) (decl_place s (text a.a1))
service_goes p s a Exit = exited_goes p s (number a.a0)
service_goes p s a CanExh = either (GoesBy p s) (is_kernel (current s p)) _ _ (grind arith) (cancelled_goes p s (routine_or_none s p a.a0 0))
service_goes p s a Dassgn = dassgn_goes s p (number a.a0)
service_goes p s a Qio = qio_goes s p (asked s p a)
service_goes p s a QioW = qiow_goes s p (asked s p a)
service_goes p s a Cancel = cancel_goes s p (number a.a0)
service_goes p s a DelPrc = tested_goes p s (deleted_by s) (process_test s p (number a.a0)) (deleted_goes p s)
service_goes p s a v = grind (arith, length-set {A = Process})

pub call_goes : (p : Pid) (s : State) (c : Call) → GoesBy p s (service s p c)
call_goes p s c = service_goes p s c.args c.service

-- RUN.

served_goes : (p : Pid) (s : State) (c : Call) (o : Outcome Served) (answer : Served) → GoesBy p s o → GoesBy p s (served_call p c o answer)
served_goes p s c o answer h = grind (arith, length-set {A = Process})

returned_goes : (p : Pid) (s : State) (fs : List Frame) → GoesBy p s (returned s p fs)
returned_goes p s [] = grind arith
returned_goes p s (f ∷ fs) = by f.kind
  where
    by : (k : FrameKind) → GoesBy p s (returned_from s p f k)
    by kind.Main = exited_goes p s (r0_of s p)
    by k = grind (arith, length-set {A = Process})

-- behind a change of the process that leaves no more to tell
goes_after : (p : Pid) (s u : State) (f : Process → Process) (told : List Effect) → IsProcess s p → length (f (process_at s p)).frames ≤ length (process_at s p).frames → length (f (process_at s p)).handlers ≤ length (process_at s p).handlers → Goes (run_most (change s p f) p) (change s p f) u told → Goes (run_most s p) s u told
goes_after p s u f told made few handlers h = grind (arith, process_there, deepest_set, run_most, stays_goes, stays_changed)

run_on_goes : (p : Pid) (t : State) (n : ℕ) (x : Stop) → IsProcess t p → GoesBy p t (run_on t p n x)
run_on_goes p t n (stop.Call c) made =
    let u = change t p (moved_behind n) in
    goes_after p t _ (moved_behind n) _ made (top_few _ (process_at t p).frames) (omega arith) (served_goes p u c (service u p c) (service u p c).answer (call_goes p u c))
run_on_goes p t n stop.Local made = grind arith
run_on_goes p t n x made = returned_goes p t (process_at t p).frames

run_frame_goes : (p : Pid) (s : State) (f : Frame) (o : Option Wait) → IsProcess s p → GoesBy p s (run_frame s p f o)
run_frame_goes p s f None made =
    let a = advanced (image_of s p) (reader p f) (process_at s p).store f.pc in
    let t = change s p (moved_to a.store a.place) in
    let there : IsProcess t p = record { above = made.above; within = omega (arith, made.within, (stays_changed s p (moved_to a.store a.place)).procs) } in
    goes_after p s _ (moved_to a.store a.place) _ made (top_few _ (process_at s p).frames) (omega arith) (run_on_goes p t a.place a.stop there)
run_frame_goes p s f o made = grind (arith, length-set {A = Process})

pub run_goes : (p : Pid) (s : State) (fs : List Frame) → IsProcess s p → GoesBy p s (run s p fs)
run_goes p s [] made = grind arith
run_goes p s (f ∷ fs) made = run_frame_goes p s f f.wait made

-- AST.

started_goes : (p : Pid) (s : State) (q : Queued) (tag : Entry) → Goes (run_most s p) s (started s p q tag).after (started s p q tag).effects
started_goes p s q (entry.Exit code) = let h = exited_ends p s code in goes_stays (run_most s p) s (exited s p code).after _ h.stays (omega (arith, h.few))
started_goes p s q tag = grind (arith, length-set {A = Process})

pub delivered_goes : (p : Pid) (s : State) (o : Option Queued) → IsProcess s p → GoesBy p s (delivered s p o)
delivered_goes p s None made = grind arith
delivered_goes p s (Some q) made = goes_after p s _ (without_ast q.id) _ made (omega arith) (omega arith) (started_goes p (change s p (without_ast q.id)) q q.tag)
