-- One step of rundown, taken apart: it stops, or it goes on to the end, where its process is gone; no other process's phase changes.
use Rattle.std.proofs.Common.{append_assoc, List, None, Option, Some, [], ap, get_or-set_other, refl, sym, subst, true, false, ◌++◌, ◌∷◌, ◌≡◌, ◌∙◌, ℕ, ◌-◌, arith}
use Rattle.std.specs.List.{find}
use Rattle.vx_record.specs.Types.{Answer, Effect, Handler, Mode, Phase, Pid}
use Rattle.vx_base.specs.declared.effects.Effect.TheVariants as effect
use Rattle.vx_base.specs.declared.frame.Phase.TheVariants as phase
use Rattle.vx_base.specs.declared.mode.Mode.TheVariants.{Kernel, Exec, Super, User}
use Rattle.vx_record.proofs.Apart.{Here, here_after}
use Rattle.vx_record.proofs.Fits.{field_same}
use Rattle.vx_record.proofs.Freeing.{phase_at}
use Rattle.vx_record.proofs.Told.{cancelled_in_moves, phase_silent, release_moves}
use Rattle.vx_record.proofs.Base.{moves_keep}
use Rattle.vx_record.proofs.Cancelled.{drop_timers_moves}
use Rattle.vx_record.proofs.Moves.{Moves, both, none, quiet, end_handlers, enter}
use Rattle.vx_record.proofs.Lists.{either_by}
use Rattle.vx_record.specs.Parts.{Outcome, and_then, each}
use Rattle.vx_record.specs.Rundown.{any_handler, cancelled_in, cancel_modes, drain, drop_all_handlers, entering, gone_part, handler_frame, handling, in_phase, inner_modes, is_busy, is_handler_of, release, run_down, run_handlers, rundown_from}
use Rattle.vx_record.specs.State.{Process, State, IsProcess, change, process_at}
use Rattle.vx_record.specs.Timers.{drop_timers, is_wake_for}
use Rattle.vx_laws.proofs.Calm.{Tags, Still, cancelled_in_calm, phase_calm, release_calm, drop_handlers_calm, drop_timers_calm}
use Rattle.vx_laws.proofs.Named.{dropped_all, all_any}
use Rattle.vx_laws.proofs.Untouched.{Keeps, Shifts, newcomer, seat_of, seat_in, keep_seats, keep_none, keep_then, cancel_modes_keeps, release_shifts, drop_handlers_keeps, drop_timers_keeps}
use Rattle.vx_laws.proofs.Allowed.{Test, Allowed, nil, one, join, cancel_modes_allowed, release_allowed, handlers_allowed, timers_allowed}

-- no opening is allowed
abbrev pub closed : Test
closed = record { opens = λ k p. false; gone = false }

-- all processes but p are in the phases that they were in, with the channels that they had
pub record Others (p : Pid) (s t : State) : Type 0 where
  pub seats : (i : ℕ) → (p.0 - 1 ≡ i → ⊥) → seat_in t.procs i ≡ seat_in s.procs i

others_of : (p : Pid) (s t : State) → Keeps s t → Others p s t
others_of p s t k = record { seats = λ i n. keep_seats k i }

others_shift : (p : Pid) (s t : State) → Shifts p s t → Others p s t
others_shift p s t k = record { seats = k.seats }

others_then : (p : Pid) (s t u : State) → Others p s t → Others p t u → Others p s u
others_then p s t u h k = record { seats = λ i n. k.seats i n ∙ h.seats i n }

pub others_change : (s : State) (p : Pid) (f : Process → Process) → Others p s (change s p f)
others_change s p f = record { seats = λ i n. ap seat_of (get_or-set_other s.procs (p.0 - 1) i (f (process_at s p)) newcomer (λ same. n (sym same))) }

-- The process that is run down: it is there and has no frame.
pub record Low (s : State) (p : Pid) : Type 0 where
  pub here : Here s p
  pub tags : Tags s
  pub none : (process_at s p).frames ≡ []

-- What is kept on the way (J); what a mode's cancelling leaves of kernel mode (R), what its release does (D), and what is left
-- if the process is gone (C).
pub record IsLowering (p : Pid) (J : State → Type 0) (R : Mode → State → Type 0) (D C : State → Type 0) : Type 0 where
  pub handles : (s : State) (m : Mode) → Low s p → J s → J (handling p m s)
  pub cancels : (s : State) (m : Mode) → Low s p → J s → J (cancelled_in s p m).after
  pub enters : (s : State) (h : Handler) → J s → J (change s p (entering (handler_frame s p h) h.id))
  pub cancelled : (s : State) (m : Mode) → Low s p → J s → R m (cancelled_in s p m).after
  pub releases : (s : State) (m : Mode) → Low s p → J s → R m s → J (release s p m).after
  pub released : (s : State) → Low s p → J s → R Kernel s → is_busy s p Kernel ≡ false → D (release s p Kernel).after
  pub clears : (s : State) → Low s p → J s → D s → C (and_then (drop_all_handlers p s) (drop_timers (is_wake_for p))).after

-- if a mode is drained, its things are cancelled
abbrev pub Settled : (Mode → State → Type 0) → State → Pid → Type 0
Settled R s p = (m : Mode) → (process_at s p).phase ≡ phase.Draining m → R m s

pub data Lowers (J : State → Type 0) (R : Mode → State → Type 0) (C : State → Type 0) (p : Pid) (s : State) : List Effect → State → Type 0 where
  stops : (es : List Effect) (t : State) → Allowed closed es → Others p s t → Moves s None es t None → J t → Settled R t p → Lowers J R C p s es t
  goes : (es : List Effect) (u : State) → Allowed closed es → Others p s u → Moves s None es u None → Still u p → C u → Lowers J R C p s (es ++ effect.Gone p ∷ []) (gone_part p u).after

lowers_after : (J : State → Type 0) (R : Mode → State → Type 0) (C : State → Type 0) (p : Pid) (s v : State) (fs es : List Effect) (t : State) → Moves s None fs v None → Allowed closed fs → Others p s v → Lowers J R C p v es t → Lowers J R C p s (fs ++ es) t
lowers_after J R C p s v fs es t j a o (stops gs u b k m w q) = stops (fs ++ gs) u (join a b) (others_then p s v u o k) (both s v u None None None fs gs j m) w q
lowers_after J R C p s v fs es t j a o (goes gs u b k m w c) =
    subst (λ (l : List Effect). Lowers J R C p s l (gone_part p u).after) (append_assoc fs gs (effect.Gone p ∷ []))
    (goes (fs ++ gs) u (join a b) (others_then p s v u o k) (both s v u None None None fs gs j m) w c)

abbrev OutcomeLowers : (State → Type 0) → (Mode → State → Type 0) → (State → Type 0) → Pid → State → Outcome Answer → Type 0
OutcomeLowers J R C p s o = Lowers J R C p s o.effects o.after

low_after : (s t : State) (p : Pid) (es : List Effect) → Moves s None es t None → Tags t → ((process_at s p).frames ≡ [] → (process_at t p).frames ≡ []) → Low s p → Low t p
low_after s t p es j g k h = record { here = here_after s p None es t None j h.here; tags = g; none = k h.none }

pub low_release : (s : State) (p : Pid) (m : Mode) → Low s p → Low (release s p m).after p
low_release s p m h = let c = release_calm true s p m h.tags in low_after s (release s p m).after p (release s p m).effects (release_moves s p m h.here) c.tags (c.empties refl p) h

low_cancelled : (s : State) (p : Pid) (m : Mode) → Low s p → Low (cancelled_in s p m).after p
low_cancelled s p m h = let c = cancelled_in_calm s p m h.tags in low_after s (cancelled_in s p m).after p (cancelled_in s p m).effects (cancelled_in_moves s p m h.here.base) c.tags (c.empties refl p) h

low_handling : (s : State) (p : Pid) (m : Mode) → Low s p → Low (handling p m s) p
low_handling s p m h = let c = phase_calm true s p (phase.Handlers m) h.tags in low_after s (handling p m s) p [] (quiet s None p (in_phase (phase.Handlers m)) (phase_silent s p (phase.Handlers m))) c.tags (c.empties refl p) h

-- what follows a mode
abbrev Follows : (State → Type 0) → (Mode → State → Type 0) → (State → Type 0) → (State → Type 0) → Pid → Mode → (State → Outcome Answer) → Type 0
Follows J R D C p m next = (t : State) → Low t p → J t → (m ≡ Kernel → D t) → OutcomeLowers J R C p t (next t)

drain_lowers : (J : State → Type 0) (R : Mode → State → Type 0) (D C : State → Type 0) (s : State) (p : Pid) (m : Mode) (next : State → Outcome Answer) → IsLowering p J R D C → Low s p → J s → (process_at s p).phase ≡ phase.Draining m → Settled R s p → Follows J R D C p m next → OutcomeLowers J R C p s (drain p m next s)
drain_lowers J R D C s p m next i h j at q k =
    let a = release s p m in
    let o = next a.after in
    either_by (OutcomeLowers J R C p s) (is_busy s p m) _ _ (λ busy. stops [] s nil (others_of p s s (keep_none s)) (none s None) j q)
    (λ free. lowers_after J R C p s a.after a.effects o.effects o.after (release_moves s p m h.here) (release_allowed s p m) (others_shift p s a.after (release_shifts s p m))
    (k a.after (low_release s p m h) (i.releases s m h j (q m at))
    (λ is. subst (λ (n : Mode). is_busy s p n ≡ false → (process_at s p).phase ≡ phase.Draining n → D (release s p n).after) (sym is) (λ f e. i.released s h j (q Kernel e) f) free at)))

pub cancelled_phase : (s : State) (p : Pid) (m : Mode) → Low s p → (process_at (cancelled_in s p m).after p).phase ≡ phase.Draining m
cancelled_phase s p m h =
    let b = (cancel_modes s p m).after in
    let made : IsProcess b p = made_here (low_cancelled s p m h).here.made in
    phase_at b p (phase.Draining m) made
  where
    made_here : IsProcess (cancelled_in s p m).after p → IsProcess (cancel_modes s p m).after p
    made_here k = record { above = k.above; within = let size = Rattle.std.proofs.Math.ListN.length-set (cancel_modes s p m).after.procs (p.0 - 1) (in_phase (phase.Draining m) (process_at (cancel_modes s p m).after p)) in let w = k.within in omega (arith, size, w) }

handlers_lowers : (J : State → Type 0) (R : Mode → State → Type 0) (D C : State → Type 0) (s : State) (p : Pid) (m : Mode) (next : State → Outcome Answer) (o : Option Handler) → find (is_handler_of m) (process_at s p).handlers ≡ o → IsLowering p J R D C → Low s p → J s → (process_at s p).phase ≡ phase.Handlers m → Follows J R D C p m next → OutcomeLowers J R C p s (run_handlers s p m next o)
handlers_lowers J R D C s p m next None is i h j at k =
    let a = cancelled_in s p m in
    let b = (cancel_modes s p m).after in
    let o = drain p m next a.after in
    let low = low_cancelled s p m h in
    let ph = cancelled_phase s p m h in
    let settled : Settled R a.after p = λ n e. let is : phase.Draining m ≡ phase.Draining n = sym ph ∙ e in subst (λ (x : Mode). R x (cancelled_in s p m).after) (mode_of m n is) (i.cancelled s m h j) in
    lowers_after J R C p s a.after a.effects o.effects o.after (cancelled_in_moves s p m h.here.base) (join (cancel_modes_allowed s p m) nil) (others_then p s b a.after (others_of p s b (cancel_modes_keeps s p m)) (others_change b p (in_phase (phase.Draining m))))
    (drain_lowers J R D C a.after p m next i low (i.cancels s m h j) ph settled k)
  where
    mode_of : (m n : Mode) → phase.Draining m ≡ phase.Draining n → m ≡ n
    mode_of m n e = cc
handlers_lowers J R D C s p m next (Some d) is i h j at k =
    let f = entering (handler_frame s p d) d.id in
    let same : (process_at (change s p f) p).phase ≡ (process_at s p).phase = field_same (λ (pr : Process). pr.phase) f s p p refl in
    stops (effect.Enter d.id ∷ []) (change s p f) (one (effect.Enter d.id) refl) (others_change s p f) (enter s p (handler_frame s p d) (is_handler_of m) d h.here.made is (λ y. absurd (cc))) (i.enters s d j) (λ n e. absurd (let never : phase.Handlers m ≡ phase.Draining n = sym at ∙ (sym same ∙ e) in cc))

mode_lowers : (J : State → Type 0) (R : Mode → State → Type 0) (D C : State → Type 0) (s : State) (p : Pid) (m : Mode) (ms : List Mode) → IsLowering p J R D C → Low s p → J s → Follows J R D C p m (run_down p ms) → OutcomeLowers J R C p s (run_down p (m ∷ ms) s)
mode_lowers J R D C s p m ms i h j k =
    let a = handling p m s in
    let f = in_phase (phase.Handlers m) in
    let o = find (is_handler_of m) (process_at s p).handlers in
    let move : Moves s None [] a None = quiet s None p f (phase_silent s p (phase.Handlers m)) in
    let two = run_handlers a p m (run_down p ms) o in
    let same_one : find (is_handler_of m) (process_at a p).handlers ≡ o = ap (find (is_handler_of m)) (field_same (λ (pr : Process). pr.handlers) f s p p refl) in
    lowers_after J R C p s a [] two.effects two.after move nil (others_change s p f) (handlers_lowers J R D C a p m (run_down p ms) o same_one i (low_handling s p m h) (i.handles s m h j) (phase_at s p (phase.Handlers m) h.here.made) k)

-- The end.

dropped_still : (s : State) (p : Pid) → Low s p → Still (drop_all_handlers p s).after p
dropped_still s p h = subst (λ (ds : List Handler). Still (each (Rattle.vx_record.specs.Rundown.drop_handler p) ds s).after p) (sym (all_any (process_at s p).handlers)) (dropped_all p (process_at s p).handlers s h.here.made refl h.none)

gone_lowers : (J : State → Type 0) (R : Mode → State → Type 0) (D C : State → Type 0) (s : State) (p : Pid) → IsLowering p J R D C → Low s p → J s → D s → OutcomeLowers J R C p s (run_down p [] s)
gone_lowers J R D C s p i h j d =
    let a = drop_all_handlers p s in
    let b = and_then a (drop_timers (is_wake_for p)) in
    let first : Moves s None a.effects a.after None = end_handlers s p any_handler h.here.made in
    let base = (moves_keep s None a.effects a.after None first h.here.base).base in
    let calm = drop_timers_calm true a.after (is_wake_for p) (drop_handlers_calm true s p any_handler h.tags).tags in
    goes b.effects b.after (join (handlers_allowed s p any_handler) (timers_allowed a.after (is_wake_for p))) (others_of p s b.after (keep_then (drop_handlers_keeps s p any_handler) (drop_timers_keeps a.after (is_wake_for p))))
    (both s a.after b.after None None None a.effects (drop_timers (is_wake_for p) a.after).effects first (drop_timers_moves a.after (is_wake_for p) base)) (calm.bares p (dropped_still s p h)) (i.clears s h j d)

after_kernel : (J : State → Type 0) (R : Mode → State → Type 0) (D C : State → Type 0) (p : Pid) → IsLowering p J R D C → Follows J R D C p Kernel (run_down p [])
after_kernel J R D C p i = λ t h j d. gone_lowers J R D C t p i h j (d refl)

after_exec : (J : State → Type 0) (R : Mode → State → Type 0) (D C : State → Type 0) (p : Pid) → IsLowering p J R D C → Follows J R D C p Exec (run_down p (inner_modes Exec))
after_exec J R D C p i = λ t h j d. mode_lowers J R D C t p Kernel [] i h j (after_kernel J R D C p i)

after_super : (J : State → Type 0) (R : Mode → State → Type 0) (D C : State → Type 0) (p : Pid) → IsLowering p J R D C → Follows J R D C p Super (run_down p (inner_modes Super))
after_super J R D C p i = λ t h j d. mode_lowers J R D C t p Exec (Kernel ∷ []) i h j (after_exec J R D C p i)

after_user : (J : State → Type 0) (R : Mode → State → Type 0) (D C : State → Type 0) (p : Pid) → IsLowering p J R D C → Follows J R D C p User (run_down p (inner_modes User))
after_user J R D C p i = λ t h j d. mode_lowers J R D C t p Super (Exec ∷ Kernel ∷ []) i h j (after_super J R D C p i)

after_mode : (J : State → Type 0) (R : Mode → State → Type 0) (D C : State → Type 0) (p : Pid) (m : Mode) → IsLowering p J R D C → Follows J R D C p m (run_down p (inner_modes m))
after_mode J R D C p Kernel i = after_kernel J R D C p i
after_mode J R D C p Exec i = after_exec J R D C p i
after_mode J R D C p Super i = after_super J R D C p i
after_mode J R D C p User i = after_user J R D C p i

-- one step
pub rundown_lowers : (J : State → Type 0) (R : Mode → State → Type 0) (D C : State → Type 0) (s : State) (p : Pid) (ph : Phase) → (process_at s p).phase ≡ ph → IsLowering p J R D C → Low s p → J s → Settled R s p → OutcomeLowers J R C p s (rundown_from p ph s)
rundown_lowers J R D C s p (phase.Handlers m) at i h j q = mode_lowers J R D C s p m (inner_modes m) i h j (after_mode J R D C p m i)
rundown_lowers J R D C s p (phase.Draining m) at i h j q = drain_lowers J R D C s p m (run_down p (inner_modes m)) i h j at q (after_mode J R D C p m i)
rundown_lowers J R D C s p phase.Alive at i h j q = stops [] s nil (others_of p s s (keep_none s)) (none s None) j q
rundown_lowers J R D C s p phase.Deleted at i h j q = stops [] s nil (others_of p s s (keep_none s)) (none s None) j q
