-- What rundown leaves of its process: nothing, step by step.
use Rattle.std.proofs.Common.{◌≡◌, ◌≢◌, ◌∙◌, ℕ, zero, suc, ◌-◌, ◌≤◌, List, [], ◌∷◌, true, false, not, ◌==◌, ◌&&◌, Option, Some, None, refl, sym, ap, subst, arith, get_or, get_or-set_other, set, ⊎_elim}
use Rattle.std.specs.List.{AllByRecursion, filter}
use Rattle.std.proofs.lemmas.Bool.{and_parts, and_from, eqb-true, eq-eqb, cases_eq, false_from_ne_true}
use Rattle.vx_base.specs.Channels.{channel_at, is_reached, channels_of}
use Rattle.vx_base.specs.Lists.{less}
use Rattle.vx_base.specs.Modes.{reaches}
use Rattle.vx_record.specs.Types.{Attention, Channel, Device, Handler, Mode, Pid, Queued, Request, Timer}
use Rattle.vx_base.specs.declared.frame.Phase.TheVariants as phase
use Rattle.vx_base.specs.declared.mode.Mode.TheVariants.{Kernel}
use Rattle.vx_base.specs.declared.request.Device.TheVariants as device
use Rattle.vx_record.specs.Channels.{with_channel, is_assigned, goes_unused, box_gone, swept_device, swept_box, free_channel}
use Rattle.vx_record.specs.Charges.{is_same}
use Rattle.vx_record.specs.Mailboxes.{mailbox_at}
use Rattle.vx_record.specs.Parts.{Part, and_then, each, nothing}
use Rattle.vx_record.specs.Rundown.{any_handler, free_one, drop_ast, drop_asts, drop_handler, drop_all_handlers, without_ast, is_ast_reached, is_busy, keeps_busy, part_with, release, cancel_modes, cancelled_in, in_phase, entering, handler_frame}
use Rattle.vx_record.specs.State.{Process, State, process_at, change, nobody}
use Rattle.vx_record.specs.Timers.{drop_timers, is_wake_for}
use Rattle.vx_record.proofs.Base.{moves_keep}
use Rattle.vx_record.proofs.Ground.{at_set}
use Rattle.vx_record.proofs.Lists.{either, all_weaker, all_both, none_passes}
use Rattle.vx_record.proofs.Moves.{PartMoves, end_handlers}
use Rattle.vx_laws.proofs.Aside.{row, changed, asts_aside, part_with_aside}
use Rattle.vx_laws.proofs.Emptied.{AllSeated, Seated, Unreached, seated_on, unreached_on, unreached_none, kept_rows, seat_rows, cancelled_seated, cancelled_unreached, cancelled_timers, drop_timers_all, drop_timers_clear, drop_timers_attention, kernel_reached}
use Rattle.vx_laws.proofs.Lowered.{IsFreed, freed_first}
use Rattle.vx_laws.proofs.Lowers.{IsLowering, Low}
use Rattle.vx_laws.proofs.Untouched.{free_shifts, swept_keeps, drop_handlers_keeps, drop_timers_keeps}
use Rattle.vx_laws.proofs.Withdrawn.{free_rows, free_requests}

-- A channel is freed.

swept_attention : (s : State) (o : Option Channel) → (swept_box s o).after.attention ≡ s.attention
swept_attention s None = refl
swept_attention s (Some ch) = by_device ch.device
  where
    by_device : (d : Device) → (swept_device s d).after.attention ≡ s.attention
    by_device (device.Unit u) = refl
    by_device (device.Mailbox b) = either (λ (x : Part). x.after.attention ≡ s.attention) (not (is_assigned s b) && goes_unused (mailbox_at s b)) (box_gone s b) (nothing s) refl refl

pub freed_attention : (s : State) (p : Pid) (n : ℕ) → (free_channel s p n).after.attention ≡ s.attention
freed_attention s p n = swept_attention (change s p (with_channel n None)) (channel_at (process_at s p).channels n)

own_row : (x : Process) (n k : ℕ) → 1 ≤ n → 1 ≤ k → k ≢ n → channel_at x.channels k ≡ channel_at (with_channel n None x).channels k
own_row x n k a b apart = sym (get_or-set_other x.channels (n - 1) (k - 1) None None (λ e. apart (omega (arith, e, a, b))))

pub freed_row : (s : State) (p : Pid) (n : ℕ) (q : Pid) (k : ℕ) → 1 ≤ p.0 → 1 ≤ q.0 → 1 ≤ n → 1 ≤ k → (is_same q p && (k == n)) ≡ false → row (free_channel s p n).after q k ≡ row s q k
freed_row s p n q k above high a b apart =
    ⊎_elim
    (λ (e : q.0 ≡ p.0).
    let is : p ≡ q = ap (λ (i : ℕ). let x : Pid = record { 0 = i } in x) (sym e) in
    let t = change s p (with_channel n None) in
    let other : k ≢ n = λ same. let never : true ≡ false = sym (and_from (is_same q p) (k == n) (eq-eqb q.0 p.0 e) (eq-eqb k n same)) ∙ apart in cc in
    subst (λ (r : Pid). row (free_channel s p n).after r k ≡ row s r k) is
    (kept_rows t (free_channel s p n).after (swept_keeps t (channel_at (process_at s p).channels n)) p k
    ∙ sym (at_set (λ (x y : Process). channel_at x.channels k ≡ channel_at y.channels k) (λ x. refl) s.procs (p.0 - 1) (p.0 - 1) (with_channel n None (process_at s p)) nobody (own_row (process_at s p) n k a b other))))
    (λ (e : q.0 ≡ p.0 → ⊥). seat_rows s (free_channel s p n).after q k ((free_shifts s p n).seats (q.0 - 1) (λ same. e (omega (arith, same, above, high)))))
    (cases_eq q.0 p.0)

-- none on the channel: those that stand stay seated
pub freed_seated : (s : State) (p : Pid) (n : ℕ) → 1 ≤ p.0 → 1 ≤ n → AllByRecursion (λ a. (is_same a.p p && (a.chan == n)) ≡ false) s.attention → AllSeated s → AllSeated (free_channel s p n).after
freed_seated s p n above a clear h =
    let t = (free_channel s p n).after in
    subst (AllByRecursion (Seated t)) (sym (freed_attention s p n))
    (all_weaker (λ x. ((is_same x.p p && (x.chan == n)) ≡ false) × Seated s x) (Seated t) (λ x k. seated_on s t x (freed_row s p n x.p x.chan above k.1.above a k.1.number k.0) k.1) s.attention (all_both (λ x. (is_same x.p p && (x.chan == n)) ≡ false) (Seated s) s.attention clear h))

-- attention entries that are seated, and none of the process on a channel of the mode
abbrev Spared : Pid → Mode → State → Type 0
Spared p m s = AllByRecursion (λ a. Seated s a × Unreached p m s a) s.attention

off_channel : (s : State) (p : Pid) (m : Mode) (n : ℕ) (a : Attention) → IsFreed s p m n → Seated s a → Unreached p m s a → (is_same a.p p && (a.chan == n)) ≡ false
off_channel s p m n a freed h k =
    false_from_ne_true (is_same a.p p && (a.chan == n)) (λ e.
    let parts = and_parts (is_same a.p p) (a.chan == n) e in
    let is : a.p ≡ p = ap (λ (i : ℕ). let x : Pid = record { 0 = i } in x) (eqb-true a.p.0 p.0 parts.0) in
    let at : row s p n ≡ Some h.ch = subst (λ (q : Pid). row s q n ≡ Some h.ch) is (subst (λ (i : ℕ). row s a.p i ≡ Some h.ch) (eqb-true a.chan n parts.1) h.is) in
    let free : is_reached m (Some h.ch) ≡ false = subst (λ (o : Option Channel). is_reached m o ≡ false) h.is (k parts.0) in
    let never : true ≡ false = sym (freed.1 h.ch at) ∙ free in cc)

each_free_spared : (ns : List ℕ) (s : State) (p : Pid) (m : Mode) → 1 ≤ p.0 → AllByRecursion (IsFreed s p m) ns → Spared p m s → Spared p m (each (free_one p) ns s).after
each_free_spared [] s p m above f h = h
each_free_spared (n ∷ ns) s p m above f h =
    let t = (free_channel s p n).after in
    each_free_spared ns t p m above (all_weaker (IsFreed s p m) (IsFreed t p m) (λ i j. (j.0, λ c e. j.1 c (free_rows s p p n i c e))) ns f.1)
    (subst (AllByRecursion (λ a. Seated t a × Unreached p m t a)) (sym (freed_attention s p n))
    (all_weaker (λ a. Seated s a × Unreached p m s a) (λ a. Seated t a × Unreached p m t a)
    (λ a k. let e = freed_row s p n a.p a.chan above k.0.above f.0.0 k.0.number (off_channel s p m n a f.0 k.0 k.1) in (seated_on s t a e k.0, unreached_on p m s t a e k.1)) s.attention h))

each_drop_attention : (p : Pid) (qs : List Queued) (s : State) → (each (drop_ast p) qs s).after.attention ≡ s.attention
each_drop_attention p [] s = refl
each_drop_attention p (q ∷ qs) s = each_drop_attention p qs (drop_ast p s q).after

each_drop_timers : (p : Pid) (qs : List Queued) (s : State) → (each (drop_ast p) qs s).after.timers ≡ s.timers
each_drop_timers p [] s = refl
each_drop_timers p (q ∷ qs) s = each_drop_timers p qs (drop_ast p s q).after

each_free_timers : (p : Pid) (ns : List ℕ) (s : State) → (each (free_one p) ns s).after.timers ≡ s.timers
each_free_timers p [] s = refl
each_free_timers p (n ∷ ns) s = each_free_timers p ns (free_channel s p n).after ∙ freed_timers (channel_at (process_at s p).channels n) (change s p (with_channel n None))
  where
    freed_timers : (o : Option Channel) (t : State) → (swept_box t o).after.timers ≡ t.timers
    freed_timers None t = refl
    freed_timers (Some ch) t = by_device ch.device
      where
        by_device : (d : Device) → (swept_device t d).after.timers ≡ t.timers
        by_device (device.Unit u) = refl
        by_device (device.Mailbox b) = either (λ (x : Part). x.after.timers ≡ t.timers) (not (is_assigned t b) && goes_unused (mailbox_at t b)) (box_gone t b) (nothing t) refl refl

each_free_requests : (p : Pid) (ns : List ℕ) (s : State) → (each (free_one p) ns s).after.requests ≡ s.requests
each_free_requests p [] s = refl
each_free_requests p (n ∷ ns) s = each_free_requests p ns (free_channel s p n).after ∙ free_requests s p n

-- A mode is released.

release_spared : (s : State) (p : Pid) (m : Mode) → 1 ≤ p.0 → Spared p m s → Spared p m (release s p m).after
release_spared s p m above h =
    let a = (each (free_one p) (channels_of m (process_at s p).channels) s).after in
    let b = (drop_asts p m a).after in
    let t = (release s p m).after in
    let one = each_free_spared (channels_of m (process_at s p).channels) s p m above (freed_first s p m) h in
    let same : t.attention ≡ a.attention = each_drop_attention p (filter (is_ast_reached m) (process_at a p).asts) a in
    let rows = λ (q : Pid) (n : ℕ). (part_with_aside p 3 (part_with p 2 b).after).rows q n ∙ ((part_with_aside p 2 b).rows q n ∙ (asts_aside a p m).rows q n) in
    subst (AllByRecursion (λ x. Seated t x × Unreached p m t x)) (sym same)
    (all_weaker (λ x. Seated a x × Unreached p m a x) (λ x. Seated t x × Unreached p m t x) (λ x k. (seated_on a t x (rows x.p x.chan) k.0, unreached_on p m a t x (rows x.p x.chan) k.1)) a.attention one)

pub release_timers : (s : State) (p : Pid) (m : Mode) → (release s p m).after.timers ≡ s.timers
release_timers s p m =
    let ns = channels_of m (process_at s p).channels in
    let a = (each (free_one p) ns s).after in
    each_drop_timers p (filter (is_ast_reached m) (process_at a p).asts) a ∙ each_free_timers p ns s

pub release_requests : (s : State) (p : Pid) (m : Mode) → (release s p m).after.requests ≡ s.requests
release_requests s p m =
    let ns = channels_of m (process_at s p).channels in
    let a = (each (free_one p) ns s).after in
    (asts_aside a p m).requests ∙ each_free_requests p ns s

all_asts : (qs : List Queued) → filter (is_ast_reached Kernel) qs ≡ qs
all_asts [] = refl
all_asts (q ∷ qs) = rw (kernel_reached q.mode) (ap (λ (l : List Queued). q ∷ l) (all_asts qs))

dropped_one : (l : List Process) (i : ℕ) (q : Queued) (qs : List Queued) → (get_or l i nobody).asts ≡ q ∷ qs → (get_or (set l i (without_ast q.id (get_or l i nobody))) i nobody).asts ≡ qs
dropped_one [] i q qs e = absurd (let never : [] ≡ q ∷ qs = e in cc)
dropped_one (x ∷ xs) zero q qs e = ap (less (λ y. y.id.0 == q.id.0)) e ∙ rw (eq-eqb q.id.0 q.id.0 refl) refl
dropped_one (x ∷ xs) (suc i) q qs e = dropped_one xs i q qs e

dropped_asts : (p : Pid) (qs : List Queued) (s : State) → (process_at s p).asts ≡ qs → (process_at (each (drop_ast p) qs s).after p).asts ≡ []
dropped_asts p [] s e = e
dropped_asts p (q ∷ qs) s e = dropped_asts p qs (drop_ast p s q).after (dropped_one s.procs (p.0 - 1) q qs e)

release_asts : (s : State) (p : Pid) → (process_at (release s p Kernel).after p).asts ≡ []
release_asts s p =
    let a = (each (free_one p) (channels_of Kernel (process_at s p).channels) s).after in
    subst (λ (qs : List Queued). (process_at (each (drop_ast p) qs a).after p).asts ≡ []) (sym (all_asts (process_at a p).asts)) (dropped_asts p (process_at a p).asts a refl)

-- What is left, if kernel mode is drained.

pub record Emptied (p : Pid) (s : State) : Type 0 where
  pub requests : AllByRecursion (λ r. is_same r.req.p p ≡ false) s.requests
  pub timers : AllByRecursion (λ t. is_same t.p p ≡ false) s.timers
  pub attention : AllByRecursion (λ a. is_same a.p p ≡ false) s.attention
  pub asts : (process_at s p).asts ≡ []

pub record Cleared (p : Pid) (s : State) : Type 0 where
  pub emptied : Emptied p s
  pub wakes : AllByRecursion (λ t. is_wake_for p t ≡ false) s.timers
  pub seated : AllSeated s

-- what cancelling a mode leaves
pub record Ended (p : Pid) (m : Mode) (s : State) : Type 0 where
  pub attention : AllByRecursion (Unreached p m s) s.attention
  pub timers : m ≡ Kernel → AllByRecursion (λ t. is_same t.p p ≡ false) s.timers

not_busy : (p : Pid) (r : Request) → keeps_busy p Kernel r ≡ false → is_same r.req.p p ≡ false
not_busy p r h = false_from_ne_true (is_same r.req.p p) (λ e. let never : true ≡ false = sym (and_from (is_same r.req.p p) (reaches r.req.chan_mode Kernel) e (kernel_reached r.req.chan_mode)) ∙ h in cc)

pub seated_change : (s : State) (p : Pid) (f : Process → Process) → (f (process_at s p)).channels ≡ (process_at s p).channels → AllSeated s → AllSeated (change s p f)
seated_change s p f e h = all_weaker (Seated s) (Seated (change s p f)) (λ a k. seated_on s (change s p f) a ((changed s p f [] e tt).rows a.p a.chan) k) s.attention h

released_emptied : (s : State) (p : Pid) → 1 ≤ p.0 → AllSeated s → Ended p Kernel s → is_busy s p Kernel ≡ false → Emptied p (release s p Kernel).after
released_emptied s p above j r free =
    let t = (release s p Kernel).after in
    record {
      requests = subst (AllByRecursion (λ x. is_same x.req.p p ≡ false)) (sym (release_requests s p Kernel)) (all_weaker (λ x. keeps_busy p Kernel x ≡ false) (λ x. is_same x.req.p p ≡ false) (λ x k. not_busy p x k) s.requests (none_passes (keeps_busy p Kernel) s.requests free));
      timers = subst (AllByRecursion (λ x. is_same x.p p ≡ false)) (sym (release_timers s p Kernel)) (r.timers refl);
      attention = all_weaker (λ a. Seated t a × Unreached p Kernel t a) (λ a. is_same a.p p ≡ false) (λ a k. unreached_none p t a k.0 k.1) t.attention (release_spared s p Kernel above (all_both (Seated s) (Unreached p Kernel s) s.attention j r.attention));
      asts = release_asts s p;
    }

each_handlers_asts : (p : Pid) (ds : List Handler) (s : State) → (process_at s p).asts ≡ [] → (process_at (each (drop_handler p) ds s).after p).asts ≡ []
each_handlers_asts p [] s e = e
each_handlers_asts p (d ∷ ds) s e = each_handlers_asts p ds (drop_handler p s d).after (Rattle.vx_record.proofs.Fits.field_same (λ (pr : Process). pr.asts) (Rattle.vx_record.specs.Rundown.without_handler d.id) s p p refl ∙ e)

handlers_lists : (p : Pid) (ds : List Handler) (s : State) → (((each (drop_handler p) ds s).after.requests ≡ s.requests) × ((each (drop_handler p) ds s).after.timers ≡ s.timers)) × ((each (drop_handler p) ds s).after.attention ≡ s.attention)
handlers_lists p [] s = ((refl, refl), refl)
handlers_lists p (d ∷ ds) s = handlers_lists p ds (drop_handler p s d).after

timers_requests : (xs : List Timer) (s : State) → ((each Rattle.vx_record.specs.Timers.drop_timer xs s).after.requests ≡ s.requests) × ((each Rattle.vx_record.specs.Timers.drop_timer xs s).after.procs ≡ s.procs)
timers_requests [] s = (refl, refl)
timers_requests (x ∷ xs) s = timers_requests xs (Rattle.vx_record.specs.Timers.drop_timer s x).after

gone_cleared : (s : State) (p : Pid) → Low s p → AllSeated s → Emptied p s → Cleared p (and_then (drop_all_handlers p s) (drop_timers (is_wake_for p))).after
gone_cleared s p h j d =
    let a = (drop_all_handlers p s).after in
    let u = (drop_timers (is_wake_for p) a).after in
    let ds = filter any_handler (process_at s p).handlers in
    let ts = filter (is_wake_for p) a.timers in
    let l = handlers_lists p ds s in
    let k = timers_requests ts a in
    let move : PartMoves s (drop_all_handlers p s) = end_handlers s p any_handler h.here.made in
    let base = (moves_keep s None (drop_all_handlers p s).effects a None move h.here.base).base in
    let att : u.attention ≡ s.attention = drop_timers_attention ts a ∙ l.1 in
    let rows = λ (q : Pid) (n : ℕ). kept_rows a u (drop_timers_keeps a (is_wake_for p)) q n ∙ kept_rows s a (drop_handlers_keeps s p any_handler) q n in
    record {
      emptied = record {
        requests = subst (AllByRecursion (λ x. is_same x.req.p p ≡ false)) (sym (k.0 ∙ l.0.0)) d.requests;
        timers = drop_timers_all (λ t. is_same t.p p ≡ false) ts a (subst (AllByRecursion (λ x. is_same x.p p ≡ false)) (sym l.0.1) d.timers);
        attention = subst (AllByRecursion (λ x. is_same x.p p ≡ false)) (sym att) d.attention;
        asts = ap (λ (ps : List Process). (get_or ps (p.0 - 1) nobody).asts) k.1 ∙ each_handlers_asts p ds s d.asts;
      };
      wakes = drop_timers_clear a (is_wake_for p) base;
      seated = subst (AllByRecursion (Seated u)) (sym att) (all_weaker (Seated s) (Seated u) (λ x y. seated_on s u x (rows x.p x.chan) y) s.attention j);
    }

pub emptying : (p : Pid) → IsLowering p AllSeated (Ended p) (Emptied p) (Cleared p)
emptying p = record {
  handles = λ s m h j. seated_change s p (in_phase (phase.Handlers m)) refl j;
  cancels = λ s m h j. seated_change (cancel_modes s p m).after p (in_phase (phase.Draining m)) refl (cancelled_seated s p m j);
  enters = λ s d j. seated_change s p (entering (handler_frame s p d) d.id) refl j;
  cancelled = λ s m h j. record {
    attention =
        let t = (cancel_modes s p m).after in
        let v = (cancelled_in s p m).after in
        all_weaker (Unreached p m t) (Unreached p m v) (λ a k. unreached_on p m t v a ((changed t p (in_phase (phase.Draining m)) [] refl tt).rows a.p a.chan) k) t.attention (cancelled_unreached s p m h.here.base j);
    timers = λ is. subst (λ (n : Mode). AllByRecursion (λ t. is_same t.p p ≡ false) (cancel_modes s p n).after.timers) (sym is) (cancelled_timers s p h.here.base);
  };
  releases = λ s m h j r. let t = (release s p m).after in all_weaker (λ a. Seated t a × Unreached p m t a) (Seated t) (λ a k. k.0) t.attention (release_spared s p m h.here.made.above (all_both (Seated s) (Unreached p m s) s.attention j r.attention));
  released = λ s h j r f. released_emptied s p h.here.made.above j r f;
  clears = λ s h j d. gone_cleared s p h j d;
}
