-- Changes of one process that keep references.
use Rattle.std.proofs.Common.{IfSome, ◌≡◌, ℕ, ◌-◌, ◌≤◌, List, [], ◌∷◌, Bool, false, ◌==◌, length, Option, None, refl, arith}
use Rattle.vx_record.specs.Types.{Frame, Handler, Id, Mode, Phase, Pid, Queued, Status, Target, Wait}
use Rattle.vx_image.specs.Storage.{Storage}
use Rattle.vx_record.specs.State.{Process, State, IsProcess, process_at, change, with_top}
use Rattle.vx_record.specs.Flags.{with_local_flag, with_wait}
use Rattle.vx_record.specs.Asts.{with_queued, with_delivery}
use Rattle.vx_record.specs.Finish.{with_stored_bytes, with_stored_status}
use Rattle.vx_record.specs.Control.{with_wake, with_suspension}
use Rattle.vx_record.specs.Rundown.{this_handler, leaving, with_handler, without_handler, in_phase, without_ast, entering}
use Rattle.vx_record.specs.Services.{with_variable}
use Rattle.vx_record.specs.Events.{uses_wake, with_r0, moved_to, below_top, put_back}
use Rattle.vx_record.specs.Sound.{ground, IsRoutine, IsRoutineOf, is_drained, IsIdle, ProcessStands, IsSound, WaitStands, WaitsStand}
use Rattle.vx_record.proofs.Firm.{IsFirm}
use Rattle.vx_record.proofs.Lists.{all_append, all_less, all_at}
use Rattle.vx_record.proofs.Ground.{Still, change_sound, change_still}
use Rattle.vx_base.specs.Lists.{rest}

-- Idle processes.

pub idle_none : (ph : Phase) → IsIdle ph []
idle_none ph = grind arith

-- a process with a frame drains nothing
pub going_of : (ph : Phase) (frames : List Frame) → 1 ≤ length frames → IsIdle ph frames → (m : Mode) → is_drained ph m ≡ false
going_of ph frames h i m = grind arith

-- and may get any frames
pub idle_of : (ph : Phase) (frames others : List Frame) → 1 ≤ length frames → IsIdle ph frames → IsIdle ph others
idle_of ph frames others h i = grind arith

pub idle_top : (ph : Phase) (f : Frame → Frame) (frames : List Frame) → IsIdle ph frames → IsIdle ph (with_top f frames)
idle_top ph f [] i = idle_none ph
idle_top ph f (x ∷ xs) i = idle_of ph (x ∷ xs) (f x ∷ xs) (omega arith) i

pub idle_below : (ph : Phase) (frames : List Frame) → IsIdle ph frames → IsIdle ph (rest frames)
idle_below ph frames i = grind (arith, idle_none, idle_of)

-- of a state whose references stand
pub stands_at : (s : State) (p : Pid) → IsSound s → IsProcess s p → ProcessStands (ground s) (process_at s p)
stands_at s p h m = all_at (ProcessStands (ground s)) s.procs (p.0 - 1) _ h.procs (omega (arith, m.above, m.within))

pub firm_at : (s : State) (p : Pid) → IsFirm s → IsProcess s p → ProcessStands (ground s) (process_at s p)
firm_at s p h m = all_at (ProcessStands (ground s)) s.procs (p.0 - 1) _ h.procs (omega (arith, m.above, m.within))

-- the waits of frames of which the top is changed, and left
waits_top : (f : Frame → Frame) (frames : List Frame) → ((x : Frame) → IfSome x.wait WaitStands → IfSome (f x).wait WaitStands) → WaitsStand frames → WaitsStand (with_top f frames)
waits_top f [] k h = tt
waits_top f (x ∷ xs) k h = (k x h.0, h.1)

waits_below : (frames : List Frame) → WaitsStand frames → WaitsStand (rest frames)
waits_below frames h = grind arith

-- A change of nothing that references are on.
pub record Quiet (x y : Process) : Type 0 where
  pub decl : y.decl ≡ x.decl
  pub channels : y.channels ≡ x.channels
  pub asts : y.asts ≡ x.asts
  pub handlers : y.handlers ≡ x.handlers
  pub phase : y.phase ≡ x.phase
  pub idle : IsIdle x.phase x.frames → IsIdle x.phase y.frames
  pub waits : WaitsStand x.frames → WaitsStand y.frames

pub quiet_still : (s : State) (p : Pid) (f : Process → Process) → Quiet (process_at s p) (f (process_at s p)) → IsFirm s → Still s (change s p f)
quiet_still s p f q h = change_still s p f (search (q.decl, q.channels, q.phase)) (λ k. search (q.decl, q.channels, q.asts, q.handlers, q.phase, q.idle, q.waits)) h

pub with_local_flag_quiet : (n : ℕ) (on : Bool) (pr : Process) → Quiet pr (with_local_flag n on pr)
with_local_flag_quiet n on pr = grind arith

pub with_wait_quiet : (w : Option Wait) (pr : Process) → IfSome w WaitStands → Quiet pr (with_wait w pr)
with_wait_quiet w pr k = record { decl = refl; channels = refl; asts = refl; handlers = refl; phase = refl; idle = idle_top pr.phase (λ f. record f { wait = w }) pr.frames; waits = λ h. waits_top (λ f. record f { wait = w }) pr.frames (λ f r. k) h }

pub with_delivery_quiet : (m : Mode) (on : Bool) (pr : Process) → Quiet pr (with_delivery m on pr)
with_delivery_quiet m on pr = search

pub with_stored_bytes_quiet : (b : ℕ) (bytes : List ℕ) (pr : Process) → Quiet pr (with_stored_bytes b bytes pr)
with_stored_bytes_quiet b bytes pr = search

pub with_stored_status_quiet : (i : ℕ) (status : Status) (pr : Process) → Quiet pr (with_stored_status i status pr)
with_stored_status_quiet i status pr = search

pub with_wake_quiet : (on : Bool) (pr : Process) → Quiet pr (with_wake on pr)
with_wake_quiet on pr = search

pub with_suspension_quiet : (on : Bool) (pr : Process) → Quiet pr (with_suspension on pr)
with_suspension_quiet on pr = search

pub with_variable_quiet : (t : Target) (n : ℕ) (pr : Process) → Quiet pr (with_variable t n pr)
with_variable_quiet t n pr = search

pub moved_to_quiet : (store : Storage) (place : ℕ) (pr : Process) → Quiet pr (moved_to store place pr)
moved_to_quiet store place pr = record { decl = refl; channels = refl; asts = refl; handlers = refl; phase = refl; idle = idle_top pr.phase (λ f. record f { pc = place }) pr.frames; waits = λ h. waits_top (λ f. record f { pc = place }) pr.frames (λ f r. r) h }

pub below_top_quiet : (pr : Process) → Quiet pr (below_top pr)
below_top_quiet pr = record { decl = refl; channels = refl; asts = refl; handlers = refl; phase = refl; idle = idle_below pr.phase pr.frames; waits = λ h. waits_below pr.frames h }

pub put_back_quiet : (r0 : ℕ) (pr : Process) → Quiet pr (put_back r0 pr)
put_back_quiet r0 pr = record { decl = refl; channels = refl; asts = refl; handlers = refl; phase = refl; idle = idle_below pr.phase pr.frames; waits = λ h. waits_below pr.frames h }

pub woken_quiet : (w : Wait) (n : ℕ) (pr : Process) → Quiet pr (with_r0 n (uses_wake w (with_wait None pr)))
woken_quiet w n pr = grind (arith, with_wait_quiet None pr tt)

-- Queued ASTs and handlers.

pub with_queued_still : (s : State) (p : Pid) (q : Queued) → IsRoutineOf (ground s) p q.tag → IsFirm s → Still s (change s p (with_queued q))
with_queued_still s p q r h =
    let pr = process_at s p in
    change_still s p (with_queued q) (search) (λ k. search (all_append (λ (x : Queued). IsRoutine s.system pr.decl x.tag) pr.asts (q ∷ []) k.asts (r, tt))) h

pub without_ast_still : (s : State) (p : Pid) (id : Id) → IsFirm s → Still s (change s p (without_ast id))
without_ast_still s p id h =
    let pr = process_at s p in
    change_still s p (without_ast id) (search) (λ k. search (all_less (λ (x : Queued). IsRoutine s.system pr.decl x.tag) (λ x. x.id.0 == id.0) pr.asts k.asts)) h

pub with_handler_still : (s : State) (p : Pid) (d : Handler) → IsRoutineOf (ground s) p d.tag → IsFirm s → Still s (change s p (with_handler d))
with_handler_still s p d r h = change_still s p (with_handler d) (search) (λ k. search) h

pub without_handler_still : (s : State) (p : Pid) (id : Id) → IsFirm s → Still s (change s p (without_handler id))
without_handler_still s p id h =
    let pr = process_at s p in
    change_still s p (without_handler id) (search) (λ k. search (all_less (λ (x : Handler). IsRoutine s.system pr.decl x.tag) (this_handler id) pr.handlers k.handlers)) h

-- Frames.

pub entering_sound : (s : State) (p : Pid) (f : Frame) (id : Id) → IsIdle (process_at s p).phase (f ∷ (process_at s p).frames) → IfSome f.wait WaitStands → IsFirm s → IsFirm (change s p (entering f id))
entering_sound s p f id i w h =
    let pr = process_at s p in
    change_sound s p (entering f id) (search) (λ k. search (all_less (λ (x : Handler). IsRoutine s.system pr.decl x.tag) (this_handler id) pr.handlers k.handlers)) h

pub leaving_going : (ph : Phase) (m n : Mode) → is_drained ph n ≡ false → is_drained (leaving ph m) n ≡ false
leaving_going ph m n h = grind arith

-- a phase that drains nothing
pub in_phase_still : (s : State) (p : Pid) (ph : Phase) → ((m : Mode) → is_drained ph m ≡ false) → IsIdle ph (process_at s p).frames → IsFirm s → Still s (change s p (in_phase ph))
in_phase_still s p ph g i h = change_still s p (in_phase ph) (search) (λ k. search) h
