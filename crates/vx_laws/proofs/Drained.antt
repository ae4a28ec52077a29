-- In every state a process that drains a mode has no frame, and nothing of that mode but requests; RDN, and runs.
use Rattle.std.proofs.Common.{◌≡◌, ◌∙◌, ℕ, zero, suc, ◌-◌, ◌<◌, List, [], ◌∷◌, false, Option, None, refl, sym, ap, subst, arith, length, ⊎_elim}
use Rattle.std.specs.Prelude.{Contains}
use Rattle.vx_record.specs.Types.{Channel, Effect, Event, Mode, Phase, Pid}
use Rattle.vx_base.specs.declared.frame.Phase.TheVariants as phase
use Rattle.vx_record.specs.Events.{step, enabled}
use Rattle.vx_record.specs.State.{Process, State, IsProcess, process_at}
use Rattle.vx_record.proofs.Base.{Base}
use Rattle.vx_laws.specs.Items.{Item}
use Rattle.vx_laws.proofs.Attended.{step_seated}
use Rattle.vx_laws.proofs.Calm.{cancelled_in_calm}
use Rattle.vx_laws.proofs.Courses.{step_spares, ended_on, of_others, spares_moves}
use Rattle.vx_laws.proofs.Emptied.{AllSeated, seat_rows}
use Rattle.vx_laws.proofs.Idle.{step_idle}
use Rattle.vx_laws.proofs.Leftover.{Ended, Emptied, Cleared, emptying}
use Rattle.vx_laws.proofs.Lowers.{IsLowering, Others, Settled, closed}
use Rattle.vx_laws.proofs.Allowed.{Allowed}
use Rattle.vx_laws.proofs.Rests.{closed_all, enabled_awake, is_rundown, phase_made, step_ages}
use Rattle.vx_record.proofs.Moves.{Moves}
use Rattle.vx_record.proofs.Allowed.{enabled_there}
use Rattle.std.proofs.lemmas.Bool.{cases_eq}
use Rattle.vx_laws.proofs.Phases.{Passes}
use Rattle.vx_laws.proofs.Untouched.{phase_in}

-- what drains a mode has no frame, and what cancelling leaves
pub record Drains (q : Pid) (m : Mode) (s : State) : Type 0 where
  pub none : (process_at s q).frames ≡ []
  pub ended : Ended q m s

pub record Course (s : State) : Type 0 where
  pub seated : AllSeated s
  pub drains : (q : Pid) → IsProcess s q → (m : Mode) → (process_at s q).phase ≡ phase.Draining m → Drains q m s

pub draining : (p : Pid) → IsLowering p AllSeated (λ m s. Drains p m s) (Emptied p) (Cleared p)
draining p = let i = emptying p in record {
  handles = i.handles;
  cancels = i.cancels;
  enters = i.enters;
  cancelled = λ s m h j. record { none = (cancelled_in_calm s p m h.tags).empties refl p h.none; ended = i.cancelled s m h j };
  releases = λ s m h j r. i.releases s m h j r.ended;
  released = λ s h j r f. i.released s h j r.ended f;
  clears = i.clears;
}

made_if : (l : List Process) (i : ℕ) (m : Mode) → phase_in l i ≡ phase.Draining m → i < length l
made_if [] i m e = absurd (let never : phase.Alive ≡ phase.Draining m = e in cc)
made_if (x ∷ xs) zero m e = omega arith
made_if (x ∷ xs) (suc i) m e = let k = made_if xs i m e in omega (arith, k)

passes_back : (x : Phase) (m : Mode) → Passes x (phase.Draining m) → x ≡ phase.Draining m
passes_back phase.Alive m h = absurd h
passes_back (phase.Handlers n) m h = absurd (let never : phase.Draining m ≡ phase.Handlers n = h in cc)
passes_back (phase.Draining n) m h = sym h
passes_back phase.Deleted m h = absurd (let never : phase.Draining m ≡ phase.Deleted = h in cc)

-- of all events but rundown
pub step_course : (s : State) (past : List Item) (e : Event) → is_rundown e ≡ false → Contains (enabled s) e → Base s → Course s → Course (step s e).after
step_course s past e other c b h = record {
  seated = step_seated s e other (enabled_there s e c) b h.seated;
  drains = λ q there m at.
      let t = (step s e).after in
      let then : phase_in t.procs (q.0 - 1) ≡ phase.Draining m = phase_made t q there ∙ at in
      let before : phase_in s.procs (q.0 - 1) ≡ phase.Draining m = passes_back (phase_in s.procs (q.0 - 1)) m (subst (λ (x : Phase). Passes (phase_in s.procs (q.0 - 1)) x) then ((step_ages s e other).phases (q.0 - 1))) in
      let within = made_if s.procs (q.0 - 1) m before in
      let above = there.above in
      let here : IsProcess s q = record { above = above; within = omega (arith, within, above) } in
      let was = h.drains q here m (sym (phase_made s q here) ∙ before) in
      let awake = enabled_awake s e c in
      record {
        none = step_idle s past e q other (enabled_there s e c) awake b here there was.none;
        ended = ended_on q m s t (step_spares s e q other (enabled_there s e c) awake b here.above was.none) was.ended;
      };
}

-- RDN of a process, for another one.

pub seat_phase : (s t : State) (p q : Pid) → Others p s t → (p.0 - 1 ≡ q.0 - 1 → ⊥) → phase_in t.procs (q.0 - 1) ≡ phase_in s.procs (q.0 - 1)
seat_phase s t p q o off = ap (λ (x : Phase × List (Option Channel)). x.0) (o.seats (q.0 - 1) off)

pub other_drains : (s t : State) (es : List Effect) (p q : Pid) (m : Mode) → Moves s None es t None → Allowed closed es → Others p s t → (p.0 - 1 ≡ q.0 - 1 → ⊥) → ((process_at s q).frames ≡ [] → (process_at t q).frames ≡ []) → Course s → IsProcess t q → (process_at t q).phase ≡ phase.Draining m → Drains q m t
other_drains s t es p q m j f o off idle h there at =
    let before : phase_in s.procs (q.0 - 1) ≡ phase.Draining m = sym (seat_phase s t p q o off) ∙ (phase_made t q there ∙ at) in
    let within = made_if s.procs (q.0 - 1) m before in
    let above = there.above in
    let here : IsProcess s q = record { above = above; within = omega (arith, within, above) } in
    let was = h.drains q here m (sym (phase_made s q here) ∙ before) in
    let spared = spares_moves q s es t j (record { all = closed_all (of_others q) es f.all }) (λ k. seat_rows s t q k (o.seats (q.0 - 1) off)) in
    record { none = idle was.none; ended = ended_on q m s t spared was.ended }

-- a step of rundown that stops
pub stops_course : (s t : State) (es : List Effect) (p : Pid) → IsProcess s p → Moves s None es t None → Allowed closed es → Others p s t → AllSeated t → Settled (λ m x. Drains p m x) t p → ((q : Pid) → (p.0 - 1 ≡ q.0 - 1 → ⊥) → (process_at s q).frames ≡ [] → (process_at t q).frames ≡ []) → Course s → Course t
stops_course s t es p made j f o seated settled idle h = record {
  seated = seated;
  drains = λ q there m at.
      ⊎_elim
      (λ (e : p.0 ≡ q.0). let is : p ≡ q = ap (λ (n : ℕ). let x : Pid = record { 0 = n } in x) e in subst (λ (r : Pid). Drains r m t) is (settled m (subst (λ (r : Pid). (process_at t r).phase ≡ phase.Draining m) (sym is) at)))
      (λ (n : p.0 ≡ q.0 → ⊥). let off : p.0 - 1 ≡ q.0 - 1 → ⊥ = λ e. let a = made.above in let b = there.above in n (omega (arith, e, a, b)) in other_drains s t es p q m j f o off (idle q off) h there at)
      (cases_eq p.0 q.0);
}
