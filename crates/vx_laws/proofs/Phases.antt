-- The phases of processes and their channels: what leaves them as they were, and how phases go on.
use Rattle.std.proofs.Common.{◌∙◌, ◌≡◌, ℕ, List, [], ◌∷◌, true, false, nat_lt, Option, Some, None, Result, Ok, Err, refl, ◌-◌, ◌+◌, ap, ◌%◌, ◌^◌, ◌||◌, sym, subst}
use Rattle.vx_record.proofs.Steps.{left_after}
use Rattle.vx_base.specs.Modes.{inner}
use Rattle.vx_record.specs.Types.{Args, Call, Cell, Channel, Cond, Entry, Frame, FrameKind, Mode, Phase, Pid, Queued, Request, Service, Stop, UnitNo, Wait}
use Rattle.vx_base.specs.declared.cond.Cond.TheVariants.{BadParam}
use Rattle.vx_base.specs.declared.frame.FrameKind.TheVariants as kind
use Rattle.vx_base.specs.declared.frame.Phase.TheVariants as phase
use Rattle.vx_base.specs.declared.service.Service.TheVariants.{WaitFr, WflOr, WflAnd, CmExec, CmKrnl, Hiber, DelPrc, Exit, Assign, Dassgn, CreMbx, QioW, Synch}
use Rattle.vx_record.specs.State.{State, process_at, change, current, Process, image_of, unit_at, top_mode}
use Rattle.vx_record.specs.Parts.{Outcome, at_tested}
use Rattle.vx_record.specs.Flags.{at_flag, awaited_at, waits_on, refused_wait, wait_condition, with_wait}
use Rattle.vx_record.specs.Finish.{finish}
use Rattle.vx_record.specs.Channels.{channel_test}
use Rattle.vx_record.specs.Requests.{Asked, request_test, accepted, qiow_tested, begun, unit_ending, with_unit}
use Rattle.vx_record.specs.Control.{process_test, with_wake}
use Rattle.vx_record.specs.Timers.{tick}
use Rattle.vx_record.specs.Rundown.{any_handler, without_ast, leave_all, exited, without_frames, leaving, deleted_by, named_for_deletion}
use Rattle.vx_record.specs.Services.{number, place, asked, service_of, routine}
use Rattle.vx_record.specs.Events.{moved_to, with_r0, put_back, below_top, resumed_with, uses_wake, returned, returned_from, r0_of, served_call, moved_behind, run_on, reader, run_frame, run, or_normal, started, delivered, beg, don}
use Rattle.vx_record.specs.declared.served.Served.{Served}
use Rattle.vx_record.specs.declared.served.Served.TheVariants.{Answered, Waits}
use Rattle.vx_record.proofs.Lists.{either}
use Rattle.vx_record.specs.Asts.{is_inside, with_frame, new_frame}
use Rattle.vx_base.specs.Cond.{number_of}
use Rattle.vx_base.specs.declared.frame.Wait.TheVariants as wait
use Rattle.vx_base.specs.declared.mode.Mode.TheVariants.{Exec, Kernel, User}
use Rattle.vx_base.specs.declared.routine.Entry.TheVariants as entry
use Rattle.vx_base.specs.Serving.{serve, settled}
use Rattle.vx_image.specs.Local.{advanced}
use Rattle.vx_image.specs.declared.stop.Stop.TheVariants as stop
use Rattle.vx_laws.proofs.Untouched.{seat_of, seat_in, phase_in, Keeps, keep_seats, keep_phases, keep_none, keep_then, keep_procs, keep_same, keep_moved, at_flag_by, finish_keeps, accepted_keeps, tick_keeps, drop_handlers_keeps, assign_shifts, crembx_service_shifts, dassgn_shifts, is_leaving, service_plainly, one_changed, set_views}

-- all processes are in the phases that they were in, with the channels that they had
pub record SeatsKept (s t : State) : Type 0 where
  pub seats : (i : ℕ) → seat_in t.procs i ≡ seat_in s.procs i

seats_of_kept : {s t : State} → Keeps s t → SeatsKept s t
seats_of_kept k = record { seats = keep_seats k }

seats_then : {s t u : State} → SeatsKept s t → SeatsKept t u → SeatsKept s u
seats_then h k = record { seats = λ i. k.seats i ∙ h.seats i }

seats_none : (s : State) → SeatsKept s s
seats_none s = seats_of_kept (keep_none s)

-- a process is changed, and neither its phase nor its channels
change_seats : (s : State) (p : Pid) (f : Process → Process) → seat_of (f (process_at s p)) ≡ seat_of (process_at s p) → SeatsKept s (change s p f)
change_seats s p f e = record { seats = λ i. set_views seat_of s.procs (p.0 - 1) i (f (process_at s p)) e }

-- Services that turn frames, or wait.

awaited_seats : (s : State) (p : Pid) (w : Wait) (o : Option Cond) → SeatsKept s (awaited_at s p w o).after
awaited_seats s p w None = change_seats s p (with_wait (Some w)) refl
awaited_seats s p w (Some c) = seats_none s

waits_seats : (s : State) (p : Pid) (efn : ℕ) (w : Wait) → SeatsKept s (at_flag s p efn (refused_wait s) (waits_on s p w)).after
waits_seats s p efn w = at_flag_by (λ (o : Outcome Served). SeatsKept s o.after) s p efn (refused_wait s) (waits_on s p w) (λ c. seats_none s) (λ c. awaited_seats s p w (wait_condition s p w))

qiow_seats : (s : State) (p : Pid) (q : Asked) (r : Result (Cell × Channel) Cond) → SeatsKept s (qiow_tested s p q r).after
qiow_seats s p q (Err c) = seats_none s
qiow_seats s p q (Ok to) =
    let u = (accepted s p q to.0 to.1).after in
    let w = wait.Synch q.efn q.iosb in
    seats_then (seats_of_kept (accepted_keeps s p q to.0 to.1)) (awaited_seats u p w (wait_condition u p w))

pub service_seats : (s : State) (p : Pid) (a : Args) (v : Service) → is_leaving v ≡ false → SeatsKept s (service_of s p a v).after
service_seats s p a CmExec n =
    either (λ (o : Outcome Cond). SeatsKept s o.after) (is_inside (current s p) || ((process_at s p).privs.cmexec || (process_at s p).privs.cmkrnl)) _ _ (change_seats s p (with_frame (new_frame s p kind.Change (inner (current s p) Exec) (routine s p a.a0 (number a.a1)) 0)) refl) (seats_none s)
service_seats s p a CmKrnl n =
    either (λ (o : Outcome Cond). SeatsKept s o.after) (is_inside (current s p) || (process_at s p).privs.cmkrnl) _ _ (change_seats s p (with_frame (new_frame s p kind.Change Kernel (routine s p a.a0 (number a.a1)) 0)) refl) (seats_none s)
service_seats s p a WaitFr n = waits_seats s p (number a.a0) (wait.Flags (number a.a0) (2 ^ (number a.a0 % 32)) false)
service_seats s p a WflOr n = waits_seats s p (number a.a0) (wait.Flags (number a.a0) (number a.a1) false)
service_seats s p a WflAnd n = waits_seats s p (number a.a0) (wait.Flags (number a.a0) (number a.a1) true)
service_seats s p a Synch n =
    let w = wait.Synch (number a.a0) (number a.a1) in
    either (λ (o : Outcome Served). SeatsKept s o.after) (nat_lt 32 (number a.a1)) (refused_wait s BadParam) (at_flag s p (number a.a0) (refused_wait s) (waits_on s p w)) (seats_none s) (waits_seats s p (number a.a0) w)
service_seats s p a QioW n = qiow_seats s p (asked s p a) (request_test s p (asked s p a))
service_seats s p a Hiber n = either (λ (o : Outcome Served). SeatsKept s o.after) (process_at s p).wake_pending _ _ (change_seats s p (with_wake false) refl) (change_seats s p (with_wait (Some wait.Hiber)) refl)
service_seats s p a v n = seats_of_kept (service_plainly s p a v n).keeps

-- How phases go on.

-- alive, or on the way out by its handlers
abbrev pub IsEarly : Phase → Type 0
IsEarly phase.Alive = Unit {0}
IsEarly (phase.Handlers m) = Unit {0}
IsEarly (phase.Draining m) = ⊥
IsEarly phase.Deleted = ⊥

-- but for its rundown a process stays in its phase, once it is not alive
abbrev pub Passes : Phase → Phase → Type 0
Passes phase.Alive y = IsEarly y
Passes (phase.Handlers m) y = y ≡ phase.Handlers m
Passes (phase.Draining m) y = y ≡ phase.Draining m
Passes phase.Deleted y = y ≡ phase.Deleted

passes_same : (x : Phase) → Passes x x
passes_same phase.Alive = tt
passes_same (phase.Handlers m) = refl
passes_same (phase.Draining m) = refl
passes_same phase.Deleted = refl

passes_then : (x y z : Phase) → Passes x y → Passes y z → Passes x z
passes_then phase.Alive phase.Alive z h k = k
passes_then phase.Alive (phase.Handlers m) z h k = rw k tt
passes_then phase.Alive (phase.Draining m) z h k = absurd h
passes_then phase.Alive phase.Deleted z h k = absurd h
passes_then (phase.Handlers m) y z h k = subst (λ (x : Phase). Passes x z) h k
passes_then (phase.Draining m) y z h k = subst (λ (x : Phase). Passes x z) h k
passes_then phase.Deleted y z h k = subst (λ (x : Phase). Passes x z) h k

pub record Ages (s t : State) : Type 0 where
  pub phases : (i : ℕ) → Passes (phase_in s.procs i) (phase_in t.procs i)

ages_same : (s t : State) → ((i : ℕ) → phase_in t.procs i ≡ phase_in s.procs i) → Ages s t
ages_same s t k = record { phases = λ i. subst (λ (x : Phase). Passes (phase_in s.procs i) x) (sym (k i)) (passes_same (phase_in s.procs i)) }

ages_of : (s t : State) → Keeps s t → Ages s t
ages_of s t k = ages_same s t (keep_phases k)

ages_then : (s t u : State) → Ages s t → Ages t u → Ages s u
ages_then s t u h k = record { phases = λ i. passes_then (phase_in s.procs i) (phase_in t.procs i) (phase_in u.procs i) (h.phases i) (k.phases i) }

change_ages : (s : State) (p : Pid) (f : Process → Process) → Passes (process_at s p).phase (f (process_at s p)).phase → Ages s (change s p f)
change_ages s p f h = record { phases = λ i. one_changed (λ x y. Passes x.phase y.phase) (λ x. passes_same x.phase) s.procs (p.0 - 1) i (f (process_at s p)) h }

leaving_passes : (x : Phase) (m : Mode) → Passes x (leaving x m)
leaving_passes phase.Alive m = tt
leaving_passes (phase.Handlers n) m = refl
leaving_passes (phase.Draining n) m = refl
leaving_passes phase.Deleted m = refl

leave_all_keeps : (frames : List Frame) (s : State) → Keeps s (leave_all frames s).after
leave_all_keeps frames s = keep_procs s (leave_all frames s).after (ap (λ (t : State). t.procs) (left_after frames s))

exited_ages : (s : State) (p : Pid) (code : ℕ) → Ages s (exited s p code).after
exited_ages s p code =
    let a = change s p (without_frames code) in
    ages_then s a (exited s p code).after (change_ages s p (without_frames code) (leaving_passes (process_at s p).phase (top_mode (process_at s p).frames))) (ages_of a (exited s p code).after (leave_all_keeps (process_at s p).frames a))

deleted_ages : (s : State) (q : Pid) → Ages s (deleted_by s q).after
deleted_ages s q =
    let a = change s q named_for_deletion in
    let b = leave_all (process_at s q).frames a in
    ages_then s a (deleted_by s q).after (change_ages s q named_for_deletion (leaving_passes (process_at s q).phase User))
    (ages_of a (deleted_by s q).after (keep_then (leave_all_keeps (process_at s q).frames a) (drop_handlers_keeps b.after q any_handler)))

-- Services and events.

tested_ages : (s : State) (r : Result Pid Cond) → Ages s (at_tested s (deleted_by s) r).after
tested_ages s (Err c) = ages_of s s (keep_none s)
tested_ages s (Ok q) = deleted_ages s q

service_ages : (s : State) (p : Pid) (a : Args) (v : Service) → Ages s (service_of s p a v).after
service_ages s p a Exit = exited_ages s p (number a.a0)
service_ages s p a DelPrc = tested_ages s (process_test s p (number a.a0))
service_ages s p a Assign = ages_same s (service_of s p a Assign).after (assign_shifts s p a).phases
service_ages s p a CreMbx = ages_same s (service_of s p a CreMbx).after (crembx_service_shifts s p a).phases
service_ages s p a Dassgn = ages_same s (service_of s p a Dassgn).after (dassgn_shifts s p (number a.a0) (channel_test s p (number a.a0))).phases
service_ages s p a v = ages_same s (service_of s p a v).after (λ i. ap (λ (x : Phase × List (Option Channel)). x.0) ((service_seats s p a v refl).seats i))

served_ages : (s : State) (p : Pid) (c : Call) (o : Outcome Served) (x : Served) → Ages s o.after → Ages s (served_call p c o x).after
served_ages s p c o (Answered y) h = ages_then s o.after (change o.after p (with_r0 (number_of y))) h (ages_of o.after (change o.after p (with_r0 (number_of y))) (keep_same o.after p (with_r0 (number_of y)) refl))
served_ages s p c o Waits h = h

returned_ages : (s : State) (p : Pid) (frames : List Frame) → Ages s (returned s p frames).after
returned_ages s p [] = ages_of s s (keep_none s)
returned_ages s p (f ∷ fs) = by_kind f.kind
  where
    by_kind : (k : FrameKind) → Ages s (returned_from s p f k).after
    by_kind kind.Main = exited_ages s p (r0_of s p)
    by_kind (kind.Ast id) = change_ages s p (put_back f.saved_r0) (passes_same (process_at s p).phase)
    by_kind kind.Change = change_ages s p below_top (passes_same (process_at s p).phase)
    by_kind kind.Handler = change_ages s p below_top (passes_same (process_at s p).phase)

on_ages : (s : State) (p : Pid) (place : ℕ) (x : Stop) → Ages s (run_on s p place x).after
on_ages s p place (stop.Call c) =
    let t = change s p (moved_behind place) in
    let o = service_of t p c.args c.service in
    ages_then s t (served_call p c o o.answer).after (ages_of s t (keep_moved s p (process_at s p).store (place + 1))) (served_ages t p c o o.answer (service_ages t p c.args c.service))
on_ages s p place stop.Return = returned_ages s p (process_at s p).frames
on_ages s p place stop.End = returned_ages s p (process_at s p).frames
on_ages s p place stop.Local = ages_of s s (keep_none s)

uses_passes : (w : Wait) (x : Process) → Passes x.phase (uses_wake w x).phase
uses_passes (wait.Flags a b c) x = passes_same x.phase
uses_passes (wait.Synch a b) x = passes_same x.phase
uses_passes wait.Hiber x = passes_same x.phase

frame_ages : (s : State) (p : Pid) (f : Frame) (o : Option Wait) → Ages s (run_frame s p f o).after
frame_ages s p f None =
    let a = advanced (image_of s p) (reader p f) (process_at s p).store f.pc in
    let t = change s p (moved_to a.store a.place) in
    ages_then s t (run_on t p a.place a.stop).after (ages_of s t (keep_moved s p a.store a.place)) (on_ages t p a.place a.stop)
frame_ages s p f (Some w) = change_ages s p (resumed_with w (or_normal (wait_condition s p w))) (uses_passes w (with_wait None (process_at s p)))

pub run_ages : (s : State) (p : Pid) (frames : List Frame) → Ages s (run s p frames).after
run_ages s p [] = ages_of s s (keep_none s)
run_ages s p (f ∷ fs) = frame_ages s p f f.wait

started_ages : (s : State) (p : Pid) (q : Queued) (e : Entry) → Ages s (started s p q e).after
started_ages s p q (entry.Exit code) = exited_ages s p code
started_ages s p q (entry.Label k prm) = change_ages s p (with_frame (new_frame s p (kind.Ast q.id) q.mode (entry.Label k prm) (r0_of s p))) (passes_same (process_at s p).phase)
started_ages s p q (entry.Host prm) = change_ages s p (with_frame (new_frame s p (kind.Ast q.id) q.mode (entry.Host prm) (r0_of s p))) (passes_same (process_at s p).phase)

pub delivered_ages : (s : State) (p : Pid) (o : Option Queued) → Ages s (delivered s p o).after
delivered_ages s p None = ages_of s s (keep_none s)
delivered_ages s p (Some q) =
    let t = change s p (without_ast q.id) in
    ages_then s t (started t p q q.tag).after (ages_of s t (keep_same s p (without_ast q.id) refl)) (started_ages t p q q.tag)

pub beg_ages : (s : State) (o : Option Request) → Ages s (beg s o).after
beg_ages s None = ages_of s s (keep_none s)
beg_ages s (Some r) = ages_of s (begun s r) (keep_procs s (begun s r) refl)

pub don_ages : (s : State) (u : UnitNo) (o : Option Request) → Ages s (don s u o).after
don_ages s u None = ages_of s s (keep_none s)
don_ages s u (Some r) =
    let t = with_unit s u (settled (unit_at s u) r.req) in
    let e = unit_ending r (serve (unit_at s u) r.req).reply in
    ages_of s (finish t r e).after (keep_then (keep_procs s t refl) (finish_keeps t r e))

pub tick_ages : (s : State) → Ages s (tick s).after
tick_ages s = ages_of s (tick s).after (tick_keeps s)
