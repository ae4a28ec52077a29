-- A mode whose newest exit handler is entered, and one that has none.
use Rattle.std.proofs.Common.{◌≡◌, ℕ, List, [], ◌∷◌, ◌==◌, Option, Some, None, option_map, IsTrue, arith, refl, sym, ap, subst, ◌∙◌}
use Rattle.std.specs.List.{find}
use Rattle.std.proofs.lemmas.Bool.{eqb-true}
use Rattle.vx_base.specs.Lists.{less}
use Rattle.vx_base.specs.Modes.{rank}
use Rattle.vx_record.specs.Types.{Answer, Entry, Frame, Handler, Id, Mode, Pid}
use Rattle.vx_base.specs.declared.effects.Effect.TheVariants as effect
use Rattle.vx_base.specs.declared.frame.Phase.TheVariants as phase
use Rattle.vx_exits.specs.Exits.{known}
use Rattle.vx_record.specs.Asts.{entry_place, with_frame}
use Rattle.vx_record.specs.Parts.{nothing}
use Rattle.vx_record.proofs.Moves.{end_handler}
use Rattle.vx_record.specs.Rundown.{cancel_modes, cancelled_in, draining, entered, handler_frame, in_phase, is_handler_of, this_handler}
use Rattle.vx_base.specs.declared.routine.Entry.TheVariants as entry
use Rattle.vx_record.specs.State.{Process, State, IsProcess, process_at, change}
use Rattle.vx_procs.specs.Handlers.{is_sought, without_sought}
use Rattle.vx_procs.specs.Kernel.{Acts, Does, Fits, Kernel as KernelOf, changed}
use Rattle.vx_procs.specs.Words.{handlers_have_own_ids}
use Rattle.vx_procs.specs.declared.handlers.Sought.TheVariants.{Of}
use Rattle.vx_procs.proofs.Own.{less_own}
use Rattle.vx_procs.proofs.Rest.{IsAnswering, acted, acts_both, answering_begun, answering_on, told_none}
use Rattle.vx_rundown.specs.Leaving.{IsLeaving}
use Rattle.vx_rundown.specs.Steps.{cancelled_and_drained, drained, entered_as, passed_by, passed_on}
use Rattle.vx_io.proofs.Changed.{change_again, process_there}
use Rattle.vx_rundown.proofs.Left.{handler_follows, leaving_by}
use Rattle.vx_rundown.proofs.Standing.{own_handlers_at}
use Rattle.vx_base.proofs.First.{found_passes}

rank_same : (a b : Mode) → rank a ≡ rank b → a ≡ b
rank_same a b e = grind arith

-- the handler that was found, by what is known of it
handler_known : (m : Mode) (hs : List Handler) (id : Id) (tag : Entry) → Some (id, tag) ≡ option_map known (find (is_handler_of m) hs) → find (is_handler_of m) hs ≡ Some (record { id = id; mode = m; tag = tag })
handler_known m hs id tag found = grind (arith, option_map, rank_same, eqb-true, found_passes)

none_known : (o : Option Handler) → None ≡ option_map known o → o ≡ None
none_known o e = grind arith

-- it is entered in the frame that it had before it was taken out
frame_same : (s : State) (p : Pid) (h : Handler) → IsProcess s p → handler_frame (change s p (without_sought (Of h.mode))) p h ≡ handler_frame s p h
frame_same s p h made = rw (process_there s p out made) (ap (λ (pc : ℕ). let f : Frame = record (handler_frame s p h) { pc = pc } in f) (at h.tag))
  where
    out : Process → Process
    out = without_sought (Of h.mode)

    at : (e : Entry) → entry_place (change s p out) p e ≡ entry_place s p e
    at (entry.Label k prm) = rw (process_there s p out made) refl
    at (entry.Exit code) = refl
    at (entry.Host prm) = refl

-- the state if it was taken out and is entered
entered_state : (s : State) (p : Pid) (h : Handler) → IsProcess s p → find (is_handler_of h.mode) (process_at s p).handlers ≡ Some h → IsTrue (handlers_have_own_ids (process_at s p).handlers) → (let u = change s p (without_sought (Of h.mode)) in change u p (with_frame (handler_frame u p h)) ≡ (entered s p h).after)
entered_state s p h made found own =
    let hs = (process_at s p).handlers in
    let out = without_sought (Of h.mode) in
    let left : less (is_handler_of h.mode) hs ≡ less (λ (x : Handler). x.id.0 == h.id.0) hs = sym (less_own (λ (x : Handler). x.id) (is_handler_of h.mode) hs h own found) in
    ap (λ (f : Frame). change (change s p out) p (with_frame f)) (frame_same s p h made)
    ∙ (change_again s p out (with_frame (handler_frame s p h)) made
    ∙ ap (λ (xs : List Handler). change s p (λ pr. record pr { handlers = xs; frames = handler_frame s p h ∷ pr.frames })) left)

-- If one was taken out.

pub enter_leaving : (k n : KernelOf) (p : Pid) (m : Mode) (id : Id) (tag : Entry) → IsLeaving k p → Some (id, tag) ≡ option_map known (find (is_sought (Of m)) (process_at k.state p).handlers) → n ≡ changed k p (without_sought (Of m)) → IsLeaving n p
enter_leaving k n p m id tag h found out =
    let hs = (process_at k.state p).handlers in
    let f : Handler = record { id = id; mode = m; tag = tag } in
    let there = handler_known m hs id tag found in
    let left = leaving_by (end_handler k.state p (is_handler_of m) f h.made there) (handler_follows p k.state f) h in
    let same : less (this_handler id) hs ≡ less (is_handler_of m) hs = less_own (λ (x : Handler). x.id) (is_handler_of m) hs f (own_handlers_at k.state p h.sound h.made) there in
    subst (λ (x : KernelOf). IsLeaving x p) (sym out) (subst (λ (xs : List Handler). IsLeaving (changed k p (λ pr. record pr { handlers = xs })) p) same left)

pub enter_room : (k n : KernelOf) (p : Pid) (m : Mode) (id : Id) (tag : Entry) → Some (id, tag) ≡ option_map known (find (is_sought (Of m)) (process_at k.state p).handlers) → n ≡ changed k p (without_sought (Of m)) → Fits k (passed_on p m k.state).effects → Fits n (effect.Enter id ∷ [])
enter_room k n p m id tag found out room = grind arith

pub enter_done : (k n q : KernelOf) (p : Pid) (m : Mode) (id : Id) (tag : Entry) (x : Answer) → IsLeaving k p → Some (id, tag) ≡ option_map known (find (is_sought (Of m)) (process_at k.state p).handlers) → n ≡ changed k p (without_sought (Of m)) → Does (entered_as n.state p (record { id = id; mode = m; tag = tag })) x n q → Does (passed_on p m k.state) (Some x) k q
enter_done k n q p m id tag x h found out did = grind (arith, handler_known, acted, entered_state, own_handlers_at)

-- If there is none: the mode is cancelled and drained.

pub none_passed : (s : State) (p : Pid) (m : Mode) → None ≡ option_map known (find (is_sought (Of m)) (process_at s p).handlers) → passed_on p m s ≡ cancelled_and_drained p m s
none_passed s p m found = ap (λ (o : Option Handler). passed_by p m o s) (none_known (find (is_handler_of m) (process_at s p).handlers) found)

-- the state if it is drained
pub drained_at : (k o r : KernelOf) (p : Pid) (m : Mode) → Acts (cancel_modes k.state p m) k o → r ≡ changed o p (in_phase (phase.Draining m)) → r ≡ acted k (cancelled_in k.state p m)
drained_at k o r p m did drains = acts_both k o r (cancel_modes k.state p m) (λ a. nothing (draining p m a)) did (drains ∙ told_none (changed o p (in_phase (phase.Draining m))))

pub drain_on : (k o r : KernelOf) (p : Pid) (m : Mode) → Fits k (cancelled_and_drained p m k.state).effects → Acts (cancel_modes k.state p m) k o → r ≡ changed o p (in_phase (phase.Draining m)) → IsAnswering (cancelled_and_drained p m k.state) k (drained p m r.state) r
drain_on k o r p m room did drains =
    let whole = cancelled_and_drained p m k.state in
    answering_on whole k k r whole (cancelled_in k.state p m) (drained p m) refl (drained_at k o r p m did drains) (answering_begun whole k room)
