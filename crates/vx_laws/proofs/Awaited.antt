-- What the frames of each process wait for: which parts of the machine leave it as it was.
use Rattle.std.proofs.Common.{◌∙◌, ◌≡◌, ℕ, List, [], false, Option, refl, ◌-◌}
use Rattle.vx_record.specs.Types.{Args, Mode, Phase, Pid, Service, Wait}
use Rattle.vx_base.specs.declared.frame.Phase.TheVariants as phase
use Rattle.vx_base.specs.declared.service.Service.TheVariants.{Assign, Dassgn, CreMbx}
use Rattle.vx_record.specs.State.{State, process_at, change}
use Rattle.vx_record.specs.Parts.{part_of}
use Rattle.vx_record.specs.Channels.{channel_test, assign, crembx}
use Rattle.vx_record.specs.Timers.{drop_timers, is_wake_for}
use Rattle.vx_record.specs.Rundown.{any_handler, cancel_modes, release, drop_all_handlers, cancelled_in, run_down, in_phase}
use Rattle.vx_record.specs.Services.{number, place, access_mode, text, service_of}
use Rattle.vx_laws.proofs.Untouched.{waits_of, waits_in, Keeps, keep_waits, keep_none, keep_then, Shifts, drop_timers_keeps, drop_handlers_keeps, release_shifts, cancel_modes_keeps, Plainly, once_plainly, numbered_plainly, assign_shifts, crembx_service_shifts, dassgn_shifts, holds_up, service_plainly, set_views}

abbrev pub frame_waits : State → Pid → List (Option Wait)
frame_waits s p = waits_in s.procs (p.0 - 1)

-- all frames wait for what they did
pub record WaitsKept (s t : State) : Type 0 where
  pub waits : (i : ℕ) → waits_in t.procs i ≡ waits_in s.procs i

pub waits_of_kept : {s t : State} → Keeps s t → WaitsKept s t
waits_of_kept k = record { waits = keep_waits k }

-- channels may change
waits_of_shift : {p : Pid} {s t : State} → Shifts p s t → WaitsKept s t
waits_of_shift k = record { waits = k.waits }

pub waits_none : (s : State) → WaitsKept s s
waits_none s = waits_of_kept (keep_none s)

pub waits_then : {s t u : State} → WaitsKept s t → WaitsKept t u → WaitsKept s u
waits_then h k = record { waits = λ i. k.waits i ∙ h.waits i }

-- Rundown.

pub release_waits : (s : State) (p : Pid) (m : Mode) → WaitsKept s (release s p m).after
release_waits s p m = waits_of_shift (release_shifts s p m)

pub phase_waits : (s : State) (p : Pid) (ph : Phase) → WaitsKept s (change s p (in_phase ph))
phase_waits s p ph = record { waits = λ i. set_views (λ pr. waits_of pr.frames) s.procs (p.0 - 1) i (in_phase ph (process_at s p)) refl }

pub cancelled_in_waits : (s : State) (p : Pid) (m : Mode) → WaitsKept s (cancelled_in s p m).after
cancelled_in_waits s p m = waits_then (waits_of_kept (cancel_modes_keeps s p m)) (phase_waits (cancel_modes s p m).after p (phase.Draining m))

pub gone_waits : (s : State) (p : Pid) → WaitsKept s (run_down p [] s).after
gone_waits s p =
    let one = (drop_all_handlers p s).after in
    let two = (drop_timers (is_wake_for p) one).after in
    waits_then (waits_of_kept (keep_then (drop_handlers_keeps s p any_handler) (drop_timers_keeps one (is_wake_for p)))) (phase_waits two p phase.Deleted)

-- Services that neither turn frames nor wait.

pub waits_plainly : (s : State) (p : Pid) (a : Args) (v : Service) → holds_up v ≡ false → Plainly WaitsKept s (service_of s p a v)
waits_plainly s p a Assign n =
    let o = assign s p (text a.a1) (access_mode a.a2) in
    numbered_plainly s p (place a.a0) (part_of o) o.answer (waits_of_shift (assign_shifts s p a))
waits_plainly s p a Dassgn n = once_plainly s _ (waits_of_shift (dassgn_shifts s p (number a.a0) (channel_test s p (number a.a0))))
waits_plainly s p a CreMbx n =
    let o = crembx s p (text a.a1) (number a.a2) (number a.a3) (number a.a4) (access_mode a.a5) in
    numbered_plainly s p (place a.a0) (part_of o) o.answer (waits_of_shift (crembx_service_shifts s p a))
waits_plainly s p a v n = let k = service_plainly s p a v n in record { cond = k.cond; is = k.is; keeps = waits_of_kept k.keeps }
