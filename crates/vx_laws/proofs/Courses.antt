-- What drains keeps its course: a process that drains a mode has no frame, and events of others spare what it has.
use Rattle.std.proofs.Common.{◌≡◌, ◌≢◌, ◌∙◌, ℕ, ◌-◌, ◌≤◌, List, [], ◌∷◌, Bool, true, false, not, ◌||◌, Option, Some, None, refl, sym, ap, subst, arith}
use Rattle.std.specs.List.{AllByRecursion}
use Rattle.std.proofs.lemmas.Bool.{eqb-true, eq-eqb, or_right, not-true}
use Rattle.vx_base.specs.Channels.{is_reached}
use Rattle.vx_record.specs.Types.{Answer, Args, Attention, Call, Effect, Event, Frame, Mode, Pid, Queued, Request, Service, Stop, Timer, Wait}
use Rattle.vx_base.specs.Queues.{front, in_service}
use Rattle.vx_base.specs.Serving.{serve, settled}
use Rattle.vx_base.specs.Cond.{number_of}
use Rattle.vx_base.specs.declared.frame.Wait.TheVariants as wait
use Rattle.vx_base.specs.declared.record.Event.TheVariants as event
use Rattle.vx_base.specs.declared.service.Service.TheVariants.{Assign, Dassgn, CreMbx, DelMbx, Qio, QioW, Cancel}
use Rattle.vx_image.specs.Local.{advanced}
use Rattle.vx_image.specs.declared.stop.Stop.TheVariants as stop
use Rattle.vx_record.specs.Asts.{deliverable_ast}
use Rattle.vx_record.specs.Charges.{is_same}
use Rattle.vx_record.specs.Channels.{channel_test}
use Rattle.vx_record.specs.Events.{moved_to, moved_behind, returned, served_call, run_on, reader, run_frame, run, resumed_with, uses_wake, with_r0, or_normal, started, delivered, beg, don, step}
use Rattle.vx_record.specs.Finish.{finish}
use Rattle.vx_record.specs.Flags.{with_wait, wait_condition}
use Rattle.vx_record.specs.Parts.{Outcome}
use Rattle.vx_record.specs.Requests.{unit_ending, with_unit}
use Rattle.vx_record.specs.Rundown.{without_ast}
use Rattle.vx_record.specs.Services.{number, service_of}
use Rattle.vx_record.specs.State.{Process, State, process_at, change, image_of, unit_at}
use Rattle.vx_record.specs.declared.served.Served.{Served}
use Rattle.vx_record.specs.declared.served.Served.TheVariants.{Answered, Waits}
use Rattle.vx_record.proofs.Base.{Base}
use Rattle.vx_record.proofs.Lists.{all_weaker}
use Rattle.vx_record.proofs.Moves.{Moves}
use Rattle.vx_record.proofs.Steps.{IsThere}
use Rattle.vx_record.proofs.Told.{started_moves, step_moves}
use Rattle.vx_laws.proofs.Allowed.{Test, Allowed, MayOpen, nil, service_allowed, tick_allowed, returned_allowed, started_allowed, don_allowed}
use Rattle.vx_laws.proofs.Aside.{row, changed, service_aside, returned_aside, started_aside, tick_aside}
use Rattle.vx_laws.proofs.Emptied.{IsOfLists, AreHeld, Unreached, moves_held, kept_rows, seat_rows}
use Rattle.vx_laws.proofs.Leftover.{Ended}
use Rattle.vx_laws.proofs.Phases.{service_seats}
use Rattle.vx_laws.proofs.Untouched.{finish_keeps, service_plainly, assign_shifts, crembx_service_shifts, dassgn_shifts}
use Rattle.vx_laws.proofs.Rests.{IsAwake, is_rundown}
use Rattle.vx_laws.specs.Lives.{is_force}

abbrev pub of_others : Pid → Test
of_others q = record { opens = λ k p. is_force k || not (is_same p q); gone = false }

-- nothing comes to q, and its channels are as they were
pub record Spares (q : Pid) (s t : State) : Type 1 where
  pub held : (P : Timer → Type 0) (Q : Attention → Type 0) → IsOfLists P Q (of_others q) → AreHeld P Q s → AreHeld P Q t
  pub rows : (k : ℕ) → row t q k ≡ row s q k

pub spares_moves : (q : Pid) (s : State) (es : List Effect) (t : State) → Moves s None es t None → Allowed (of_others q) es → ((k : ℕ) → row t q k ≡ row s q k) → Spares q s t
spares_moves q s es t j f r = record {
  held = λ P Q i h. moves_held P Q (of_others q) i s None es t None j f.all h;
  rows = r;
}

spares_then : (q : Pid) (s t u : State) → Spares q s t → Spares q t u → Spares q s u
spares_then q s t u h k = record { held = λ P Q i x. k.held P Q i (h.held P Q i x); rows = λ n. k.rows n ∙ h.rows n }

spares_change : (q : Pid) (s : State) (p : Pid) (f : Process → Process) → (f (process_at s p)).channels ≡ (process_at s p).channels → Spares q s (change s p f)
spares_change q s p f e = record { held = λ P Q i h. h; rows = λ n. (changed s p f [] e tt).rows q n }

abbrev pub Untimed : Timer → Type 0
Untimed t = Unit {0}

abbrev pub Unasked : Attention → Type 0
Unasked a = Unit {0}

pub all_untimed : (ts : List Timer) → AllByRecursion Untimed ts
all_untimed [] = tt
all_untimed (t ∷ ts) = (tt, all_untimed ts)

pub all_unasked : (xs : List Attention) → AllByRecursion Unasked xs
all_unasked [] = tt
all_unasked (x ∷ xs) = (tt, all_unasked xs)

pub ended_on : (q : Pid) (m : Mode) (s t : State) → Spares q s t → Ended q m s → Ended q m t
ended_on q m s t h e = record {
  attention =
      all_weaker (Unreached q m s) (Unreached q m t)
      (λ a k y. let is : a.p ≡ q = ap (λ (n : ℕ). let x : Pid = record { 0 = n } in x) (eqb-true a.p.0 q.0 y) in ap (is_reached m) (subst (λ (r : Pid). row t r a.chan ≡ row s r a.chan) (sym is) (h.rows a.chan)) ∙ k y) t.attention
      (h.held Untimed (Unreached q m s) (record { due = λ n x k. tt; timer = λ x is k. tt; wake = λ x k. tt; attention = λ a k y. let never : true ≡ false = sym y ∙ not-true (is_same a.p q) k in cc }) (all_untimed s.timers, e.attention)).1;
  timers = λ is. (h.held (λ x. is_same x.p q ≡ false) Unasked (record { due = λ n x k. k; timer = λ x is k. not-true (is_same x.p q) k; wake = λ x k. not-true (is_same x.p q) k; attention = λ a k. tt }) (e.timers is, all_unasked s.attention)).0;
}

-- Services of another process.

may_others : (q : Pid) (s : State) (p : Pid) (a : Args) (v : Service) → is_same p q ≡ false → MayOpen (of_others q) s p a v
may_others q s p a v apart = record {
  own = λ k e i. or_right (is_force k) (not (is_same p q)) (rw apart refl);
  force = λ e r k. refl;
  wake = λ e r k. rw apart refl;
}

pub place_apart : (p q : Pid) → 1 ≤ p.0 → 1 ≤ q.0 → is_same p q ≡ false → p.0 - 1 ≡ q.0 - 1 → ⊥
place_apart p q a b apart e = let yes : is_same p q ≡ true = eq-eqb p.0 q.0 (omega (arith, a, b, e)) in let never : true ≡ false = sym yes ∙ apart in cc

service_rows : (s : State) (p q : Pid) (a : Args) (v : Service) → (p.0 - 1 ≡ q.0 - 1 → ⊥) → (k : ℕ) → row (service_of s p a v).after q k ≡ row s q k
service_rows s p q a Assign apart k = seat_rows s (service_of s p a Assign).after q k ((assign_shifts s p a).seats (q.0 - 1) apart)
service_rows s p q a CreMbx apart k = seat_rows s (service_of s p a CreMbx).after q k ((crembx_service_shifts s p a).seats (q.0 - 1) apart)
service_rows s p q a Dassgn apart k = seat_rows s (service_of s p a Dassgn).after q k ((dassgn_shifts s p (number a.a0) (channel_test s p (number a.a0))).seats (q.0 - 1) apart)
service_rows s p q a DelMbx apart k = kept_rows s (service_of s p a DelMbx).after (service_plainly s p a DelMbx refl).keeps q k
service_rows s p q a Qio apart k = kept_rows s (service_of s p a Qio).after (service_plainly s p a Qio refl).keeps q k
service_rows s p q a QioW apart k = seat_rows s (service_of s p a QioW).after q k ((service_seats s p a QioW refl).seats (q.0 - 1))
service_rows s p q a Cancel apart k = kept_rows s (service_of s p a Cancel).after (service_plainly s p a Cancel refl).keeps q k
service_rows s p q a v apart k = (service_aside s p a v refl).rows q k

-- the effects of a record of RUN, and the rows that it leaves
record Runs (q : Pid) (s : State) (o : Outcome Answer) : Type 0 where
  pub effects : Allowed (of_others q) o.effects
  pub rows : (k : ℕ) → row o.after q k ≡ row s q k

served_runs : (q : Pid) (s t : State) (p : Pid) (c : Call) (o : Outcome Served) (x : Served) → Allowed (of_others q) o.effects → ((k : ℕ) → row o.after q k ≡ row s q k) → Runs q s (served_call p c o x)
served_runs q s t p c o (Answered y) f r = record { effects = f; rows = λ k. (changed o.after p (with_r0 (number_of y)) [] refl tt).rows q k ∙ r k }
served_runs q s t p c o Waits f r = record { effects = f; rows = r }

returned_runs : (q : Pid) (s : State) (p : Pid) (frames : List Frame) → Runs q s (returned s p frames)
returned_runs q s p frames = record { effects = returned_allowed s p frames; rows = λ k. (returned_aside s p frames).rows q k }

on_runs : (q : Pid) (s : State) (p : Pid) (n : ℕ) (x : Stop) → is_same p q ≡ false → (p.0 - 1 ≡ q.0 - 1 → ⊥) → Runs q s (run_on s p n x)
on_runs q s p n (stop.Call c) apart off =
    let t = change s p (moved_behind n) in
    let o = service_of t p c.args c.service in
    served_runs q s t p c o o.answer (service_allowed t p c.args c.service (may_others q t p c.args c.service apart)) (λ k. service_rows t p q c.args c.service off k ∙ (changed s p (moved_behind n) [] refl tt).rows q k)
on_runs q s p n stop.Return apart off = returned_runs q s p (process_at s p).frames
on_runs q s p n stop.End apart off = returned_runs q s p (process_at s p).frames
on_runs q s p n stop.Local apart off = record { effects = nil; rows = λ k. refl }

pub uses_channels : (w : Wait) (x : Process) → (uses_wake w x).channels ≡ x.channels
uses_channels (wait.Flags a b c) x = refl
uses_channels (wait.Synch a b) x = refl
uses_channels wait.Hiber x = refl

frame_runs : (q : Pid) (s : State) (p : Pid) (f : Frame) (o : Option Wait) → is_same p q ≡ false → (p.0 - 1 ≡ q.0 - 1 → ⊥) → Runs q s (run_frame s p f o)
frame_runs q s p f None apart off =
    let a = advanced (image_of s p) (reader p f) (process_at s p).store f.pc in
    let r = on_runs q (change s p (moved_to a.store a.place)) p a.place a.stop apart off in
    record { effects = r.effects; rows = λ k. r.rows k ∙ (changed s p (moved_to a.store a.place) [] refl tt).rows q k }
frame_runs q s p f (Some w) apart off = record { effects = nil; rows = λ k. (changed s p (resumed_with w (or_normal (wait_condition s p w))) [] (uses_channels w (with_wait None (process_at s p))) tt).rows q k }

run_runs : (q : Pid) (s : State) (p : Pid) (frames : List Frame) → is_same p q ≡ false → (p.0 - 1 ≡ q.0 - 1 → ⊥) → Runs q s (run s p frames)
run_runs q s p [] apart off = record { effects = nil; rows = λ k. refl }
run_runs q s p (f ∷ fs) apart off = frame_runs q s p f f.wait apart off

delivered_spares : (q : Pid) (s : State) (p : Pid) (o : Option Queued) → Spares q s (delivered s p o).after
delivered_spares q s p None = record { held = λ P Q i h. h; rows = λ k. refl }
delivered_spares q s p (Some x) =
    let t = change s p (without_ast x.id) in
    let b = started t p x x.tag in
    spares_then q s t b.after (spares_change q s p (without_ast x.id) refl) (spares_moves q t b.effects b.after (started_moves t p x x.tag) (started_allowed t p x x.tag) (λ k. (started_aside t p x x.tag).rows q k))

beg_spares : (q : Pid) (s : State) (o : Option Request) → Spares q s (beg s o).after
beg_spares q s None = record { held = λ P Q i h. h; rows = λ k. refl }
beg_spares q s (Some r) = record { held = λ P Q i h. h; rows = λ k. refl }

pub don_rows : (q : Pid) (s : State) (u : Rattle.vx_base.specs.declared.number.UnitNo.UnitNo) (o : Option Request) (k : ℕ) → row (don s u o).after q k ≡ row s q k
don_rows q s u None k = refl
don_rows q s u (Some r) k =
    let t = with_unit s u (settled (unit_at s u) r.req) in
    let e = unit_ending r (serve (unit_at s u) r.req).reply in
    kept_rows t (finish t r e).after (finish_keeps t r e) q k

-- who acts is another one: a process that acts has a frame
pub acts_apart : (s : State) (p q : Pid) → (process_at s p).frames ≢ [] → (process_at s q).frames ≡ [] → is_same p q ≡ false
acts_apart s p q some none = by_test (is_same p q) refl
  where
    by_test : (b : Bool) → is_same p q ≡ b → b ≡ false
    by_test false e = refl
    by_test true e = let is : p ≡ q = ap (λ (n : ℕ). let x : Pid = record { 0 = n } in x) (eqb-true p.0 q.0 e) in absurd (some (subst (λ (r : Pid). (process_at s r).frames ≡ []) (sym is) none))

-- of all events but rundown, of a process without frames
pub step_spares : (s : State) (e : Event) (q : Pid) → is_rundown e ≡ false → IsThere s e → IsAwake s e → Base s → 1 ≤ q.0 → (process_at s q).frames ≡ [] → Spares q s (step s e).after
step_spares s (event.Run p) q other made awake b above idle =
    let apart = acts_apart s p q awake idle in
    let o = step s (event.Run p) in
    let r = run_runs q s p (process_at s p).frames apart (place_apart p q made.above above apart) in
    spares_moves q s o.effects o.after (step_moves s (event.Run p) refl made b) r.effects r.rows
step_spares s (event.Ast p) q other made awake b above idle = delivered_spares q s p (deliverable_ast s p)
step_spares s (event.Rdn p) q other made awake b above idle = absurd (let never : true ≡ false = other in cc)
step_spares s (event.Beg u) q other made awake b above idle = beg_spares q s (front u s.requests)
step_spares s (event.Don u) q other made awake b above idle =
    let o = step s (event.Don u) in
    spares_moves q s o.effects o.after (step_moves s (event.Don u) refl made b) (don_allowed s u (in_service u s.requests)) (λ k. don_rows q s u (in_service u s.requests) k)
step_spares s event.Tick q other made awake b above idle =
    let o = step s event.Tick in
    spares_moves q s o.effects o.after (step_moves s event.Tick refl made b) (tick_allowed s) (λ k. (tick_aside s).rows q k)
