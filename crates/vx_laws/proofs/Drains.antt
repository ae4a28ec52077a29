-- Rundown, for whatever it keeps until it enters a handler: one pass over modes and their handlers, once for all of that.
use Rattle.std.proofs.Common.{append_assoc, List, None, Option, Some, [], ap, refl, subst, true, ◌++◌, ◌∷◌, ◌≡◌}
use Rattle.std.specs.List.{find}
use Rattle.vx_record.specs.Types.{Answer, Effect, Handler, Mode, Phase, Pid}
use Rattle.vx_base.specs.declared.effects.Effect.TheVariants as effect
use Rattle.vx_base.specs.declared.frame.Phase.TheVariants as phase
use Rattle.vx_record.proofs.Apart.{Here, here_after}
use Rattle.vx_record.proofs.Fits.{field_same}
use Rattle.vx_record.proofs.Told.{cancelled_in_moves, phase_silent, release_moves}
use Rattle.vx_laws.proofs.Calm.{Tags, cancelled_in_calm, phase_calm, release_calm}
use Rattle.vx_record.proofs.Moves.{Moves, both, none, quiet}
use Rattle.vx_record.proofs.Lists.{either}
use Rattle.vx_record.specs.Parts.{Outcome}
use Rattle.vx_record.specs.Rundown.{cancelled_in, drain, entering, handler_frame, handling, in_phase, inner_modes, is_busy, is_handler_of, release, run_down, run_handlers, rundown_from}
use Rattle.vx_record.specs.State.{Process, State, change, process_at}

-- effects and a state that rundown leaves: R, and then a handler that is entered, or none
pub data DownBy (R : State → List Effect → State → Type 0) (s : State) (p : Pid) : List Effect → State → Type 0 where
  ends : (es : List Effect) (t : State) → R s es t → DownBy R s p es t
  enters : (es : List Effect) (u : State) (m : Mode) (d : Handler) → R s es u → Moves s None es u None → find (is_handler_of m) (process_at u p).handlers ≡ Some d → DownBy R s p (es ++ effect.Enter d.id ∷ []) (change u p (entering (handler_frame u p d) d.id))

-- what the parts of rundown are to keep
pub record IsDrain (R : State → List Effect → State → Type 0) : Type 0 where
  pub start : (s : State) → Tags s → R s [] s
  pub join : (s t u : State) (es fs : List Effect) → Moves s None es t None → R s es t → R t fs u → R s (es ++ fs) u
  pub phases : (s : State) (p : Pid) (ph : Phase) → Here s p → Tags s → R s [] (change s p (in_phase ph))
  pub releases : (s : State) (p : Pid) (m : Mode) → Here s p → Tags s → R s (release s p m).effects (release s p m).after
  pub cancels : (s : State) (p : Pid) (m : Mode) → Here s p → Tags s → R s (cancelled_in s p m).effects (cancelled_in s p m).after
  pub goes : (s : State) (p : Pid) → Here s p → Tags s → R s (run_down p [] s).effects (run_down p [] s).after

abbrev OutcomeBy : (State → List Effect → State → Type 0) → State → Pid → Outcome Answer → Type 0
OutcomeBy R s p o = DownBy R s p o.effects o.after

down_after : (R : State → List Effect → State → Type 0) → IsDrain R → (s v : State) (p : Pid) (fs es : List Effect) (t : State) → Moves s None fs v None → R s fs v → DownBy R v p es t → DownBy R s p (fs ++ es) t
down_after R i s v p fs es t j h (ends gs u c) = ends (fs ++ gs) u (i.join s v u fs gs j h c)
down_after R i s v p fs es t j h (enters gs u n d c m is) =
    subst (λ (l : List Effect). DownBy R s p l (change u p (entering (handler_frame u p d) d.id))) (append_assoc fs gs (effect.Enter d.id ∷ []))
    (enters (fs ++ gs) u n d (i.join s v u fs gs j h c) (both s v u None None None fs gs j m) is)

drain_by : (R : State → List Effect → State → Type 0) → IsDrain R → (s : State) (p : Pid) (m : Mode) (next : State → Outcome Answer) → Here s p → Tags s → ((t : State) → Here t p → Tags t → OutcomeBy R t p (next t)) → OutcomeBy R s p (drain p m next s)
drain_by R i s p m next h g k =
    let a = release s p m in
    let o = next a.after in
    let move = release_moves s p m h in
    let calm = release_calm true s p m g in
    either (OutcomeBy R s p) (is_busy s p m) _ _ (ends [] s (i.start s g)) (down_after R i s a.after p a.effects o.effects o.after move (i.releases s p m h g) (k a.after (here_after s p None a.effects a.after None move h) calm.tags))

handlers_by : (R : State → List Effect → State → Type 0) → IsDrain R → (s : State) (p : Pid) (m : Mode) (next : State → Outcome Answer) (o : Option Handler) → find (is_handler_of m) (process_at s p).handlers ≡ o → Here s p → Tags s → ((t : State) → Here t p → Tags t → OutcomeBy R t p (next t)) → OutcomeBy R s p (run_handlers s p m next o)
handlers_by R i s p m next None e h g k =
    let a = cancelled_in s p m in
    let o = drain p m next a.after in
    let move = cancelled_in_moves s p m h.base in
    let calm = cancelled_in_calm s p m g in
    down_after R i s a.after p a.effects o.effects o.after move (i.cancels s p m h g) (drain_by R i a.after p m next (here_after s p None a.effects a.after None move h) calm.tags k)
handlers_by R i s p m next (Some d) e h g k = enters [] s m d (i.start s g) (none s None) e

run_down_by : (R : State → List Effect → State → Type 0) → IsDrain R → (ms : List Mode) (p : Pid) (s : State) → Here s p → Tags s → OutcomeBy R s p (run_down p ms s)
run_down_by R i [] p s h g = ends (run_down p [] s).effects (run_down p [] s).after (i.goes s p h g)
run_down_by R i (m ∷ ms) p s h g =
    let a = handling p m s in
    let f = in_phase (phase.Handlers m) in
    let o = find (is_handler_of m) (process_at s p).handlers in
    let same_one : find (is_handler_of m) (process_at a p).handlers ≡ o = ap (find (is_handler_of m)) (field_same (λ (pr : Process). pr.handlers) f s p p refl) in
    let move : Moves s None [] a None = quiet s None p f (phase_silent s p (phase.Handlers m)) in
    let calm = phase_calm true s p (phase.Handlers m) g in
    let two = run_handlers a p m (run_down p ms) o in
    down_after R i s a p [] two.effects two.after move (i.phases s p (phase.Handlers m) h g) (handlers_by R i a p m (run_down p ms) o same_one (here_after s p None [] a None move h) calm.tags (λ t j x. run_down_by R i ms p t j x))

pub rundown_by : (R : State → List Effect → State → Type 0) → IsDrain R → (s : State) (p : Pid) (ph : Phase) → Here s p → Tags s → OutcomeBy R s p (rundown_from p ph s)
rundown_by R i s p (phase.Handlers m) h g = run_down_by R i (m ∷ inner_modes m) p s h g
rundown_by R i s p (phase.Draining m) h g = drain_by R i s p m (run_down p (inner_modes m)) h g (λ t k x. run_down_by R i (inner_modes m) p t k x)
rundown_by R i s p phase.Alive h g = ends [] s (i.start s g)
rundown_by R i s p phase.Deleted h g = ends [] s (i.start s g)
