-- Rundown, as the law of mailboxes asks.
use Rattle.std.proofs.Common.{◌≡◌, ℕ, zero, suc, ◌+◌, ◌-◌, ◌≤◌, List, [], ◌∷◌, ◌++◌, true, false, ◌==◌, ◌&&◌, Option, Some, None, map, refl, sym, ap, ◌∙◌, subst, arith, get_or}
use Rattle.std.proofs.lemmas.Bool.{eqb-true, and_parts, and_from, false_from_ne_true, both_ways}
use Rattle.std.specs.List.{AllByRecursion, find}
use Rattle.vx_base.specs.Channels.{channel_at, is_reached, reached_from, channels_of}
use Rattle.vx_base.specs.Modes.{reaches}
use Rattle.vx_record.specs.Types.{Answer, Channel, Device, Effect, Handler, Mode, Phase, Pid, Request}
use Rattle.vx_base.specs.declared.effects.Effect.TheVariants as effect
use Rattle.vx_base.specs.declared.frame.Phase.TheVariants as phase
use Rattle.vx_base.specs.declared.request.Device.TheVariants as device
use Rattle.vx_record.proofs.Lists.{either_by, all_weaker, all_both, none_passes}
use Rattle.vx_record.proofs.SoundChannels.{is_on_box}
use Rattle.vx_record.specs.Cancel.{is_request_on}
use Rattle.vx_record.specs.Channels.{free_channel}
use Rattle.vx_record.specs.Charges.{is_same}
use Rattle.vx_record.specs.Parts.{Part, Outcome, nothing, and_then, each, part_of}
use Rattle.vx_record.specs.Rundown.{cancel_one, free_one, is_timer_in, is_wake_by, cancel_modes, drop_asts, part_with, release, keeps_busy, is_busy, drain, draining, cancelled_in, run_handlers, handling, run_down, inner_modes, rundown_from, gone, drop_all_handlers, gone_part, any_handler, is_handler_of, in_phase, entering, handler_frame, entered}
use Rattle.vx_record.specs.State.{State, nobody, process_at}
use Rattle.vx_record.specs.Timers.{drop_timers, is_wake_for}
use Rattle.vx_laws.proofs.Aside.{row, PartAside, changed, timers_aside, handlers_aside, part_with_aside, asts_aside}
use Rattle.vx_laws.proofs.Boxed.{IsOn, Rooted, Boxed}
use Rattle.vx_laws.proofs.Passing.{Walk, walk_then, walk_aside, walk_nothing, IsPlainCall, plain_over, still_boxed, fewer_then, fewer_same}
use Rattle.vx_laws.proofs.Rows.{IsClear}
use Rattle.vx_laws.proofs.Withdrawn.{cancel_channel_walk, free_walk, free_rows, free_requests}
use Rattle.vx_laws.specs.Items.{Item, Did, later}

-- The numbers of the channels of a mode and outer ones.

abbrev IsReachedAt : Mode → List (Option Channel) → ℕ → ℕ → Type 0
IsReachedAt m rows k n = (k ≤ n) × (is_reached m (get_or rows (n - k) None) ≡ true)

reached_rows : (k : ℕ) (m : Mode) (rows : List (Option Channel)) → AllByRecursion (IsReachedAt m rows k) (reached_from k m rows)
reached_rows k m [] = tt
reached_rows k m (r ∷ rows) =
    let rest = reached_rows (k + 1) m rows in
    let more = all_weaker (IsReachedAt m rows (k + 1)) (IsReachedAt m (r ∷ rows) k) further (reached_from (k + 1) m rows) rest in
    either_by (AllByRecursion (IsReachedAt m (r ∷ rows) k)) (is_reached m r) (k ∷ reached_from (k + 1) m rows) (reached_from (k + 1) m rows) (λ e. ((omega arith, first e), more)) (λ e. more)
  where
    further : (n : ℕ) → IsReachedAt m rows (k + 1) n → IsReachedAt m (r ∷ rows) k n
    further n h = let place : n - k ≡ suc (n - (k + 1)) = omega (arith, h.0) in (omega (arith, h.0), rw place h.1)

    first : is_reached m r ≡ true → is_reached m (get_or (r ∷ rows) (k - k) None) ≡ true
    first e = let place : k - k ≡ zero = omega arith in rw place e

-- a channel that is of such a mode, or free
abbrev pub IsFreed : State → Pid → Mode → ℕ → Type 0
IsFreed s p m n = (1 ≤ n) × ((c : Channel) → row s p n ≡ Some c → reaches c.mode m ≡ true)

pub freed_first : (s : State) (p : Pid) (m : Mode) → AllByRecursion (IsFreed s p m) (channels_of m (process_at s p).channels)
freed_first s p m =
    all_weaker (IsReachedAt m (process_at s p).channels 1) (IsFreed s p m) (λ n k. (k.0, λ c e. subst (λ (o : Option Channel). is_reached m o ≡ true) e k.1)) (channels_of m (process_at s p).channels) (reached_rows 1 m (process_at s p).channels)

abbrev IsQuiet : State → Pid → Mode → Type 0
IsQuiet s p m = AllByRecursion (λ r. keeps_busy p m r ≡ false) s.requests

clear_one : (s : State) (past : List Item) (p : Pid) (m : Mode) (n : ℕ) (r : Request) → IsFreed s p m n → Rooted s past r → keeps_busy p m r ≡ false → (is_on_box r.req.device && is_request_on p n r) ≡ false
clear_one s past p m n r freed root quiet =
    false_from_ne_true _ (λ e. by_device r.req.device (and_parts (is_on_box r.req.device) (is_request_on p n r) e).0 root.on (and_parts (is_same r.req.p p) (r.req.chan == n) (and_parts (is_on_box r.req.device) (is_request_on p n r) e).1))
  where
    by_device : (d : Device) → is_on_box d ≡ true → IsOn s r.req.p r.req.chan r.req.chan_mode d → (is_same r.req.p p ≡ true) × ((r.req.chan == n) ≡ true) → ⊥
    by_device (device.Unit u) on k both = absurd (let never : false ≡ true = on in cc)
    by_device (device.Mailbox b) on k both =
        let c : Channel = record { device = device.Mailbox b; mode = r.req.chan_mode } in
        let one : r.req.p.0 ≡ p.0 = eqb-true r.req.p.0 p.0 both.0 in
        let two : r.req.chan ≡ n = eqb-true r.req.chan n both.1 in
        let its : row s r.req.p r.req.chan ≡ row s p n = ap (λ (i : ℕ). channel_at (get_or s.procs (i - 1) nobody).channels r.req.chan) one ∙ ap (λ (i : ℕ). row s p i) two in
        both_ways (is_same r.req.p p && reaches r.req.chan_mode m) quiet (and_from (is_same r.req.p p) (reaches r.req.chan_mode m) both.0 (freed.1 c (sym its ∙ k)))

each_free_walk : (ns : List ℕ) (s : State) (past : List Item) (p : Pid) (m : Mode) (more : List Effect) → 1 ≤ p.0 → AllByRecursion (IsFreed s p m) ns → IsQuiet s p m → IsPlainCall past → Boxed s past → Walk s past (each (free_one p) ns s) more
each_free_walk [] s past p m more above k quiet calm h = walk_nothing s past more h
each_free_walk (n ∷ ns) s past p m more above k quiet calm h =
    let a = free_channel s p n in
    let clear : IsClear s p n = all_weaker (λ (r : Request). Rooted s past r × (keeps_busy p m r ≡ false)) (λ (r : Request). (is_on_box r.req.device && is_request_on p n r) ≡ false) (λ r j. clear_one s past p m n r k.0 j.0 j.1) s.requests
    (all_both (Rooted s past) (λ (r : Request). keeps_busy p m r ≡ false) s.requests h.requests quiet) in
    let one = free_walk s past p n ((each (free_one p) ns a.after).effects ++ more) above k.0.0 clear h in
    let rest : AllByRecursion (IsFreed a.after p m) ns = all_weaker (IsFreed s p m) (IsFreed a.after p m) (λ i j. (j.0, λ c e. j.1 c (free_rows s p p n i c e))) ns k.1 in
    let still : IsQuiet a.after p m = subst (AllByRecursion (λ (r : Request). keeps_busy p m r ≡ false)) (sym (free_requests s p n)) quiet in
    walk_then s past a (each (free_one p) ns) more one (each_free_walk ns a.after (later past (map Did a.effects)) p m more above rest still (plain_over past a.effects calm) one.boxed)

-- parts in a row, of which the later ones lie aside
walk_aside_then : (s : State) (past : List Item) (a : Part) (f : State → Part) (more : List Effect) → ((rest : List Effect) → Walk s past a rest) → ((t : State) → PartAside t (f t)) → IsPlainCall past → Walk s past (and_then a f) more
walk_aside_then s past a f more w k calm =
    walk_then s past a f more (w ((f a.after).effects ++ more)) (walk_aside a.after (later past (map Did a.effects)) (f a.after) more (k a.after) (plain_over past a.effects calm) (w []).boxed)

release_walk : (s : State) (past : List Item) (p : Pid) (m : Mode) (more : List Effect) → 1 ≤ p.0 → IsQuiet s p m → IsPlainCall past → Boxed s past → Walk s past (release s p m) more
release_walk s past p m more above quiet calm h =
    let a = each (free_one p) (channels_of m (process_at s p).channels) s in
    let b = and_then a (drop_asts p m) in
    let c = and_then b (part_with p 2) in
    walk_aside_then s past c (part_with p 3) more
    (λ r3. walk_aside_then s past b (part_with p 2) r3
    (λ r2. walk_aside_then s past a (drop_asts p m) r2 (λ r1. each_free_walk (channels_of m (process_at s p).channels) s past p m r1 above (freed_first s p m) quiet calm h) (λ t. asts_aside t p m) calm)
    (λ t. part_with_aside p 2 t) calm)
    (λ t. part_with_aside p 3 t) calm

each_cancel_one_walk : (ns : List ℕ) (s : State) (past : List Item) (p : Pid) (more : List Effect) → IsPlainCall past → Boxed s past → Walk s past (each (cancel_one p) ns s) more
each_cancel_one_walk [] s past p more calm h = walk_nothing s past more h
each_cancel_one_walk (n ∷ ns) s past p more calm h =
    let a = cancel_one p s n in
    let one = cancel_channel_walk s past p n ((each (cancel_one p) ns a.after).effects ++ more) calm h in
    walk_then s past a (each (cancel_one p) ns) more one (each_cancel_one_walk ns a.after (later past (map Did a.effects)) p more (plain_over past a.effects calm) one.boxed)

cancel_modes_walk : (s : State) (past : List Item) (p : Pid) (m : Mode) (more : List Effect) → IsPlainCall past → Boxed s past → Walk s past (cancel_modes s p m) more
cancel_modes_walk s past p m more calm h =
    let a = each (cancel_one p) (channels_of m (process_at s p).channels) s in
    walk_aside_then s past (and_then a (drop_timers (is_timer_in p m))) (drop_timers (is_wake_by p)) more
    (λ r2. walk_aside_then s past a (drop_timers (is_timer_in p m)) r2 (λ r1. each_cancel_one_walk (channels_of m (process_at s p).channels) s past p r1 calm h) (λ t. timers_aside t (is_timer_in p m)) calm)
    (λ t. timers_aside t (is_wake_by p)) calm

-- Steps of rundown.

abbrev Goes : (State → Outcome Answer) → Type 0
Goes next = (t : State) (past : List Item) (more : List Effect) → IsPlainCall past → Boxed t past → Walk t past (part_of (next t)) more

drain_walk : (s : State) (past : List Item) (p : Pid) (m : Mode) (next : State → Outcome Answer) (more : List Effect) → 1 ≤ p.0 → Goes next → IsPlainCall past → Boxed s past → Walk s past (part_of (drain p m next s)) more
drain_walk s past p m next more above k calm h =
    either_by (λ (o : Outcome Answer). Walk s past (part_of o) more) (is_busy s p m) _ _ (λ e. walk_nothing s past more h)
    (λ e.
    let a = release s p m in
    let one = release_walk s past p m ((next a.after).effects ++ more) above (none_passes (keeps_busy p m) s.requests e) calm h in
    walk_then s past a (λ t. part_of (next t)) more one (k a.after (later past (map Did a.effects)) more (plain_over past a.effects calm) one.boxed))

cancelled_in_walk : (s : State) (past : List Item) (p : Pid) (m : Mode) (more : List Effect) → IsPlainCall past → Boxed s past → Walk s past (cancelled_in s p m) more
cancelled_in_walk s past p m more calm h = walk_aside_then s past (cancel_modes s p m) (λ a. nothing (draining p m a)) more (λ r. cancel_modes_walk s past p m r calm h) (λ t. changed t p (in_phase (phase.Draining m)) [] refl tt) calm

run_handlers_walk : (s : State) (past : List Item) (p : Pid) (m : Mode) (next : State → Outcome Answer) (o : Option Handler) (more : List Effect) → 1 ≤ p.0 → Goes next → IsPlainCall past → Boxed s past → Walk s past (part_of (run_handlers s p m next o)) more
run_handlers_walk s past p m next None more above k calm h =
    let a = cancelled_in s p m in
    let one = cancelled_in_walk s past p m ((drain p m next a.after).effects ++ more) calm h in
    walk_then s past a (λ t. part_of (drain p m next t)) more one (drain_walk a.after (later past (map Did a.effects)) p m next more above k (plain_over past a.effects calm) one.boxed)
run_handlers_walk s past p m next (Some d) more above k calm h = walk_aside s past (part_of (entered s p d)) more (changed s p (entering (handler_frame s p d) d.id) (effect.Enter d.id ∷ []) refl (tt, tt)) calm h

gone_walk : (s : State) (past : List Item) (p : Pid) (more : List Effect) → IsPlainCall past → Boxed s past → Walk s past (part_of (gone s p)) more
gone_walk s past p more calm h =
    walk_aside_then s past (and_then (drop_all_handlers p s) (drop_timers (is_wake_for p))) (gone_part p) more
    (λ r2. walk_aside_then s past (drop_all_handlers p s) (drop_timers (is_wake_for p)) r2 (λ r1. walk_aside s past (drop_all_handlers p s) r1 (handlers_aside s p any_handler) calm h) (λ t. timers_aside t (is_wake_for p)) calm)
    (λ t. changed t p (in_phase phase.Deleted) _ refl (tt, tt)) calm

run_down_walk : (ms : List Mode) (p : Pid) → 1 ≤ p.0 → Goes (run_down p ms)
run_down_walk [] p above s past more calm h = gone_walk s past p more calm h
run_down_walk (m ∷ ms) p above s past more calm h =
    let t = handling p m s in
    let k = changed s p (in_phase (phase.Handlers m)) [] refl tt in
    let w = run_handlers_walk t past p m (run_down p ms) (find (is_handler_of m) (process_at s p).handlers) more above (run_down_walk ms p above) calm (still_boxed s t past k h) in
    record { boxed = w.boxed; lawful = w.lawful; fewer = fewer_then s t _ (fewer_same s t k.requests k.boxes) w.fewer }

pub rundown_walk : (s : State) (past : List Item) (p : Pid) (ph : Phase) (more : List Effect) → 1 ≤ p.0 → IsPlainCall past → Boxed s past → Walk s past (part_of (rundown_from p ph s)) more
rundown_walk s past p (phase.Handlers m) more above calm h = run_down_walk (m ∷ inner_modes m) p above s past more calm h
rundown_walk s past p (phase.Draining m) more above calm h = drain_walk s past p m (run_down p (inner_modes m)) more above (run_down_walk (inner_modes m) p above) calm h
rundown_walk s past p phase.Alive more above calm h = walk_nothing s past more h
rundown_walk s past p phase.Deleted more above calm h = walk_nothing s past more h
