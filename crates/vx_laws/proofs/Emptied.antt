-- What rundown leaves of a process in the lists of timers and attention entries.
use Rattle.std.proofs.Common.{◌≡◌, ◌≢◌, ◌∙◌, ℕ, zero, suc, ◌+◌, ◌-◌, ◌≤◌, List, [], ◌∷◌, Bool, true, false, ◌==◌, ◌&&◌, ◌||◌, Option, Some, None, refl, sym, ap, subst, arith, get_or, ⊎_elim}
use Rattle.std.specs.List.{AllByRecursion, filter, list_any}
use Rattle.std.proofs.lemmas.Bool.{and_from, eqb-true, eq-eqb, ne_eqb, cases_eq, false_from_ne_true, or_left, or_right}
use Rattle.vx_record.proofs.Steps.{each_cancel_one_clear}
use Rattle.vx_base.proofs.Lists.{alike_at}
use Rattle.vx_base.specs.Channels.{channel_at, is_reached, reached_from, channels_of}
use Rattle.vx_base.specs.Lists.{less}
use Rattle.vx_base.specs.Modes.{reaches}
use Rattle.vx_record.specs.Types.{Alarm, Attention, Cell, Channel, Effect, Mode, Pid, Timer}
use Rattle.vx_base.specs.Pieces.{OfTimer, OfWake}
use Rattle.vx_base.specs.declared.effects.Cell.TheVariants.{Local, Common as Shared}
use Rattle.vx_base.specs.declared.effects.Opened.TheVariants as opened
use Rattle.vx_base.specs.declared.mode.Mode.TheVariants.{Kernel, Exec, Super, User}
use Rattle.vx_record.specs.Cancel.{cancel_channel, is_attention_on}
use Rattle.vx_record.specs.Charges.{is_same}
use Rattle.vx_record.specs.Flags.{flag_part}
use Rattle.vx_record.specs.Mailboxes.{this_attention}
use Rattle.vx_record.specs.Parts.{each}
use Rattle.vx_record.specs.Rundown.{drop_ast, drop_handler, is_ast_reached, cancel_one, cancel_modes, is_timer_in, is_wake_by, is_timer_reached, is_wake_alarm}
use Rattle.vx_record.specs.State.{Process, State, process_at, nobody}
use Rattle.vx_record.specs.Timers.{this_timer, drop_timer, drop_timers, due_again, after_wake}
use Rattle.vx_record.specs.Sound.{AreOrdered, timer_id}
use Rattle.vx_record.proofs.Base.{Base, moves_keep}
use Rattle.vx_record.proofs.Cancelled.{cancel_channel_all, cancel_channel_moves, each_keeps}
use Rattle.vx_record.proofs.Lists.{either, all_weaker, all_both, all_append, all_less, all_amend, removed, ordered_less, all_first, all_last}
use Rattle.vx_record.proofs.Moves.{Loose, IsOfTimer, Moves, PartMoves, both, flag, end_asts, end_handlers, open_attention, attention_fires, end_attention, open_timer, open_wake, timer_fires, wake_fires, end_timer}
use Rattle.vx_laws.proofs.Allowed.{Test, is_allowed}
use Rattle.vx_laws.proofs.Aside.{row}
use Rattle.vx_laws.proofs.Untouched.{Keeps, seat_in, keep_seats, cancel_modes_keeps}

-- what is said of timers and attention entries, if it is so of those that a test allows
pub record IsOfLists (P : Timer → Type 0) (Q : Attention → Type 0) (ok : Test) : Type 0 where
  pub due : (n : ℕ) (t : Timer) → P t → P (due_again n t)
  pub timer : (t : Timer) → IsOfTimer t.what → ok.opens opened.Timer t.p ≡ true → P t
  pub wake : (t : Timer) → ok.opens opened.Wake t.p ≡ true → P t
  pub attention : (a : Attention) → ok.opens opened.Attn a.p ≡ true → Q a

abbrev pub AreHeld : (Timer → Type 0) → (Attention → Type 0) → State → Type 0
AreHeld P Q s = AllByRecursion P s.timers × AllByRecursion Q s.attention

held_flag : (P : Timer → Type 0) (Q : Attention → Type 0) (s : State) (c : Cell) (on : Bool) → AreHeld P Q s → AreHeld P Q (flag_part s c on).after
held_flag P Q s (Local p n) on h = h
held_flag P Q s (Shared g a n) on h = h

held_wake : (P : Timer → Type 0) (Q : Attention → Type 0) (s : State) (t : Timer) (n : ℕ) → ((m : ℕ) (x : Timer) → P x → P (due_again m x)) → AreHeld P Q s → AreHeld P Q (after_wake s t n)
held_wake P Q s t n due h = either (AreHeld P Q) (n == 0) _ _ (all_less P (this_timer t.id) s.timers h.0, h.1) (all_amend P (this_timer t.id) (due_again n) (due n) s.timers h.0, h.1)

pub moves_held : (P : Timer → Type 0) (Q : Attention → Type 0) (ok : Test) → IsOfLists P Q ok → (s : State) (l : Option Loose) (es : List Effect) (t : State) (m : Option Loose) → Moves s l es t m → AllByRecursion (λ x. is_allowed ok x ≡ true) es → AreHeld P Q s → AreHeld P Q t
moves_held P Q ok i s l es t m (both x y z a b c fs gs j k) f h = moves_held P Q ok i y b gs z c k (all_last (λ x. is_allowed ok x ≡ true) fs gs f) (moves_held P Q ok i x a fs y b j (all_first (λ x. is_allowed ok x ≡ true) fs gs f) h)
moves_held P Q ok i s l es t m (flag x a c on made at set_on) f h = held_flag P Q x c on h
moves_held P Q ok i s l es t m (end_asts x p mode made) f h = each_keeps (AreHeld P Q) (drop_ast p) (λ y q k. k) (filter (is_ast_reached mode) (process_at x p).asts) x h
moves_held P Q ok i s l es t m (end_handlers x p test made) f h = each_keeps (AreHeld P Q) (drop_handler p) (λ y q k. k) (filter test (process_at x p).handlers) x h
moves_held P Q ok i s l es t m (open_attention x p mode a new at r) f h = (h.0, all_append Q x.attention (a ∷ []) h.1 (i.attention a (rw new.owner f.0), tt))
moves_held P Q ok i s l es t m (attention_fires x a has) f h = (h.0, all_less Q (this_attention a.id) x.attention h.1)
moves_held P Q ok i s l es t m (end_attention x a has) f h = (h.0, all_less Q (this_attention a.id) x.attention h.1)
moves_held P Q ok i s l es t m (open_timer x p mode a efn reqid n tag new is at r) f h = (all_append P x.timers (a ∷ []) h.0 (i.timer a (subst IsOfTimer (sym is) tt) (rw new.owner f.0), tt), h.1)
moves_held P Q ok i s l es t m (open_wake x p n a target new is) f h = (all_append P x.timers (a ∷ []) h.0 (i.wake a (rw new.owner f.0), tt), h.1)
moves_held P Q ok i s l es t m (timer_fires x a has is) f h = (all_less P (this_timer a.id) x.timers h.0, h.1)
moves_held P Q ok i s l es t m (wake_fires x a target n has is) f h = held_wake P Q x a n i.due h
moves_held P Q ok i s l es t m (end_timer x a has) f h = (all_less P (this_timer a.id) x.timers h.0, h.1)
moves_held P Q ok i s l es t m move f h = h

-- Timers that pass a test are dropped, and no other.

any_kept : (passes : Timer → Bool) (ts : List Timer) → AllByRecursion (λ t. passes t ≡ true → list_any (λ x. timer_id t == timer_id x) (filter passes ts) ≡ true) ts
any_kept passes [] = tt
any_kept passes (t ∷ ts) = (first, all_weaker (λ x. passes x ≡ true → list_any (λ y. timer_id x == timer_id y) (filter passes ts) ≡ true) (λ x. passes x ≡ true → list_any (λ y. timer_id x == timer_id y) (filter passes (t ∷ ts)) ≡ true) more ts (any_kept passes ts))
  where
    first : passes t ≡ true → list_any (λ x. timer_id t == timer_id x) (filter passes (t ∷ ts)) ≡ true
    first e = rw (e, eq-eqb (timer_id t) (timer_id t) refl) refl

    more : (x : Timer) → (passes x ≡ true → list_any (λ y. timer_id x == timer_id y) (filter passes ts) ≡ true) → passes x ≡ true → list_any (λ y. timer_id x == timer_id y) (filter passes (t ∷ ts)) ≡ true
    more x k e = either (λ (l : List Timer). list_any (λ y. timer_id x == timer_id y) l ≡ true) (passes t) (t ∷ filter passes ts) (filter passes ts) (or_right (timer_id x == timer_id t) _ (k e)) (k e)

drop_clear : (passes : Timer → Bool) (high : ℕ) (xs : List Timer) (s : State) → AreOrdered timer_id 0 high s.timers → AllByRecursion (λ t. passes t ≡ true → list_any (λ x. timer_id t == timer_id x) xs ≡ true) s.timers → AllByRecursion (λ t. passes t ≡ false) (each drop_timer xs s).after.timers
drop_clear passes high [] s o h = all_weaker (λ t. passes t ≡ true → false ≡ true) (λ t. passes t ≡ false) (λ t k. false_from_ne_true (passes t) (λ e. let never : false ≡ true = k e in cc)) s.timers h
drop_clear passes high (x ∷ xs) s o h =
    let P = λ (t : Timer). passes t ≡ true → list_any (λ y. timer_id t == timer_id y) (x ∷ xs) ≡ true in
    let Q = λ (t : Timer). passes t ≡ true → list_any (λ y. timer_id t == timer_id y) xs ≡ true in
    let ts = less (this_timer x.id) s.timers in
    drop_clear passes high xs (drop_timer s x).after (ordered_less timer_id (this_timer x.id) 0 high s.timers o)
    (all_weaker (λ t. P t × (timer_id t ≢ x.id.0)) Q (λ t k e. subst (λ (b : Bool). (b || list_any (λ y. timer_id t == timer_id y) xs) ≡ true) (ne_eqb (timer_id t) x.id.0 k.1) (k.0 e)) ts
    (all_both P (λ t. timer_id t ≢ x.id.0) ts (all_less P (this_timer x.id) s.timers h) (removed timer_id x.id.0 0 high s.timers o)))

pub drop_timers_clear : (s : State) (passes : Timer → Bool) → Base s → AllByRecursion (λ t. passes t ≡ false) (drop_timers passes s).after.timers
drop_timers_clear s passes b = drop_clear passes s.next (filter passes s.timers) s b.timers (any_kept passes s.timers)

pub drop_timers_all : (P : Timer → Type 0) (xs : List Timer) (s : State) → AllByRecursion P s.timers → AllByRecursion P (each drop_timer xs s).after.timers
drop_timers_all P [] s h = h
drop_timers_all P (x ∷ xs) s h = drop_timers_all P xs (drop_timer s x).after (all_less P (this_timer x.id) s.timers h)

pub drop_timers_attention : (xs : List Timer) (s : State) → (each drop_timer xs s).after.attention ≡ s.attention
drop_timers_attention [] s = refl
drop_timers_attention (x ∷ xs) s = drop_timers_attention xs (drop_timer s x).after

-- all modes are reached from kernel mode
pub kernel_reached : (m : Mode) → reaches m Kernel ≡ true
kernel_reached Kernel = refl
kernel_reached Exec = refl
kernel_reached Super = refl
kernel_reached User = refl

timer_of_none : (p : Pid) (t : Timer) → is_timer_in p Kernel t ≡ false → is_wake_by p t ≡ false → is_same t.p p ≡ false
timer_of_none p t h k = by_alarm t.what h k
  where
    by_alarm : (a : Alarm) → (is_same t.p p && is_timer_reached Kernel a) ≡ false → (is_same t.p p && is_wake_alarm a) ≡ false → is_same t.p p ≡ false
    by_alarm (OfTimer efn reqid mode tag) h k = false_from_ne_true (is_same t.p p) (λ e. let never : true ≡ false = sym (and_from (is_same t.p p) (reaches mode Kernel) e (kernel_reached mode)) ∙ h in cc)
    by_alarm (OfWake target repeat) h k = false_from_ne_true (is_same t.p p) (λ e. let never : true ≡ false = sym (and_from (is_same t.p p) true e refl) ∙ k in cc)

-- Attention entries on the channels of cancelled modes.

each_cancel_all : (P : Attention → Type 0) (p : Pid) (s : State) (ns : List ℕ) → AllByRecursion P s.attention → AllByRecursion P (each (cancel_one p) ns s).after.attention
each_cancel_all P p s [] k = k
each_cancel_all P p s (n ∷ ns) k = each_cancel_all P p (cancel_channel s p n).after ns (cancel_channel_all P s p n k)

cancelled_base : (s : State) (p : Pid) (n : ℕ) → Base s → Base (cancel_channel s p n).after
cancelled_base s p n h = let one : PartMoves s (cancel_channel s p n) = cancel_channel_moves s p n h in (moves_keep s None _ (cancel_channel s p n).after None one h).base

-- a channel of the mode is among those that are cancelled
reached_in : (test : ℕ → Bool) (k : ℕ) (m : Mode) (rows : List (Option Channel)) (n : ℕ) → k ≤ n → is_reached m (get_or rows (n - k) None) ≡ true → test n ≡ true → list_any test (reached_from k m rows) ≡ true
reached_in test k m [] n above e t = absurd (let never : false ≡ true = e in cc)
reached_in test k m (r ∷ rows) n above e t =
    ⊎_elim
    (λ (same : k ≡ n). let first : n - k ≡ zero = omega (arith, same) in let r_is : is_reached m r ≡ true = subst (λ (i : ℕ). is_reached m (get_or (r ∷ rows) i None) ≡ true) first e in rw r_is (or_left (test k) (list_any test (reached_from (k + 1) m rows)) (subst (λ (i : ℕ). test i ≡ true) (sym same) t)))
    (λ (apart : k ≡ n → ⊥).
    let later : k + 1 ≤ n = omega (arith, above, apart) in
    let place : n - k ≡ suc (n - (k + 1)) = omega (arith, later) in
    let rest = reached_in test (k + 1) m rows n later (subst (λ (i : ℕ). is_reached m (get_or (r ∷ rows) i None) ≡ true) place e) t in
    either (λ (l : List ℕ). list_any test l ≡ true) (is_reached m r) (k ∷ reached_from (k + 1) m rows) (reached_from (k + 1) m rows) (or_right (test k) (list_any test (reached_from (k + 1) m rows)) rest) rest)
    (cases_eq k n)

-- Rows.

row_in : (l : List Process) (i n : ℕ) → channel_at (get_or l i nobody).channels n ≡ channel_at (seat_in l i).1 n
row_in [] i n = sym (alike_at {A = Option Channel} None 64 (n - 1))
row_in (x ∷ xs) zero n = refl
row_in (x ∷ xs) (suc i) n = row_in xs i n

pub row_seat : (s : State) (p : Pid) (n : ℕ) → row s p n ≡ channel_at (seat_in s.procs (p.0 - 1)).1 n
row_seat s p n = row_in s.procs (p.0 - 1) n

-- the channels of a process are as they were, if its seat is
pub seat_rows : (s t : State) (p : Pid) (n : ℕ) → seat_in t.procs (p.0 - 1) ≡ seat_in s.procs (p.0 - 1) → row t p n ≡ row s p n
seat_rows s t p n e = row_seat t p n ∙ (ap (λ (x : Rattle.vx_base.specs.declared.frame.Phase.Phase × List (Option Channel)). channel_at x.1 n) e ∙ sym (row_seat s p n))

pub kept_rows : (s t : State) → Keeps s t → (p : Pid) (n : ℕ) → row t p n ≡ row s p n
kept_rows s t k p n = seat_rows s t p n (keep_seats k (p.0 - 1))

-- What is said of attention entries: each is on a channel that is assigned.

pub record Seated (s : State) (a : Attention) : Type 0 where
  pub above : 1 ≤ a.p.0
  pub number : 1 ≤ a.chan
  pub ch : Channel
  pub is : row s a.p a.chan ≡ Some ch

abbrev pub AllSeated : State → Type 0
AllSeated s = AllByRecursion (Seated s) s.attention

-- none of a process is on a channel of the mode or an outer one
abbrev pub Unreached : Pid → Mode → State → Attention → Type 0
Unreached p m s a = is_same a.p p ≡ true → is_reached m (row s a.p a.chan) ≡ false

-- kernel mode reaches all: none is of the process
pub unreached_none : (p : Pid) (s : State) (a : Attention) → Seated s a → Unreached p Kernel s a → is_same a.p p ≡ false
unreached_none p s a h k =
    false_from_ne_true (is_same a.p p) (λ e.
    let free : is_reached Kernel (Some h.ch) ≡ false = subst (λ (o : Option Channel). is_reached Kernel o ≡ false) h.is (k e) in
    let never : true ≡ false = sym (kernel_reached h.ch.mode) ∙ free in cc)

pub seated_on : (s t : State) (a : Attention) → row t a.p a.chan ≡ row s a.p a.chan → Seated s a → Seated t a
seated_on s t a e h = record { above = h.above; number = h.number; ch = h.ch; is = e ∙ h.is }

pub unreached_on : (p : Pid) (m : Mode) (s t : State) (a : Attention) → row t a.p a.chan ≡ row s a.p a.chan → Unreached p m s a → Unreached p m t a
unreached_on p m s t a e h = λ k. ap (is_reached m) e ∙ h k

pub cancelled_unreached : (s : State) (p : Pid) (m : Mode) → Base s → AllSeated s → AllByRecursion (Unreached p m (cancel_modes s p m).after) (cancel_modes s p m).after.attention
cancelled_unreached s p m b h =
    let ns = channels_of m (process_at s p).channels in
    let one = (each (cancel_one p) ns s).after in
    let two = (drop_timers (is_timer_in p m) one).after in
    let t = (cancel_modes s p m).after in
    let same : t.attention ≡ one.attention = drop_timers_attention (filter (is_wake_by p) two.timers) two ∙ drop_timers_attention (filter (is_timer_in p m) one.timers) one in
    let rows = kept_rows s t (cancel_modes_keeps s p m) in
    let clear = λ (a : Attention). list_any (λ n. is_attention_on p n a) ns ≡ false in
    subst (AllByRecursion (Unreached p m t)) (sym same)
    (all_weaker (λ a. Seated s a × clear a) (Unreached p m t)
    (λ a k e. ap (is_reached m) (rows a.p a.chan) ∙ false_from_ne_true (is_reached m (row s a.p a.chan)) (λ r. let is : a.p ≡ p = ap (λ (n : ℕ). let x : Pid = record { 0 = n } in x) (eqb-true a.p.0 p.0 e) in let never : true ≡ false = sym (reached_in (λ n. is_attention_on p n a) 1 m (process_at s p).channels a.chan k.0.number (subst (λ (q : Pid). is_reached m (row s q a.chan) ≡ true) is r) (and_from (is_same a.p p) (a.chan == a.chan) e (eq-eqb a.chan a.chan refl))) ∙ k.1 in cc))
    one.attention (all_both (Seated s) clear one.attention (each_cancel_all (Seated s) p s ns h) (each_cancel_one_clear p s ns b)))

pub cancelled_seated : (s : State) (p : Pid) (m : Mode) → AllSeated s → AllSeated (cancel_modes s p m).after
cancelled_seated s p m h =
    let ns = channels_of m (process_at s p).channels in
    let one = (each (cancel_one p) ns s).after in
    let two = (drop_timers (is_timer_in p m) one).after in
    let t = (cancel_modes s p m).after in
    let same : t.attention ≡ one.attention = drop_timers_attention (filter (is_wake_by p) two.timers) two ∙ drop_timers_attention (filter (is_timer_in p m) one.timers) one in
    let rows = kept_rows s t (cancel_modes_keeps s p m) in
    subst (AllByRecursion (Seated t)) (sym same) (all_weaker (Seated s) (Seated t) (λ a k. seated_on s t a (rows a.p a.chan) k) one.attention (each_cancel_all (Seated s) p s ns h))

-- the timers of a process, if kernel mode is cancelled
pub cancelled_timers : (s : State) (p : Pid) → Base s → AllByRecursion (λ t. is_same t.p p ≡ false) (cancel_modes s p Kernel).after.timers
cancelled_timers s p b =
    let ns = channels_of Kernel (process_at s p).channels in
    let one = (each (cancel_one p) ns s).after in
    let two = (drop_timers (is_timer_in p Kernel) one).after in
    let b1 = each_base ns s b in
    let move : PartMoves one (drop_timers (is_timer_in p Kernel) one) = Rattle.vx_record.proofs.Cancelled.drop_timers_moves one (is_timer_in p Kernel) b1 in
    let b2 : Base two = (moves_keep one None (drop_timers (is_timer_in p Kernel) one).effects two None move b1).base in
    let ts = (cancel_modes s p Kernel).after.timers in
    all_weaker (λ t. (is_timer_in p Kernel t ≡ false) × (is_wake_by p t ≡ false)) (λ t. is_same t.p p ≡ false) (λ t k. timer_of_none p t k.0 k.1) ts
    (all_both (λ t. is_timer_in p Kernel t ≡ false) (λ t. is_wake_by p t ≡ false) ts (drop_timers_all (λ t. is_timer_in p Kernel t ≡ false) (filter (is_wake_by p) two.timers) two (drop_timers_clear one (is_timer_in p Kernel) b1)) (drop_timers_clear two (is_wake_by p) b2))
  where
    each_base : (ns : List ℕ) (x : State) → Base x → Base (each (cancel_one p) ns x).after
    each_base [] x h = h
    each_base (n ∷ ns) x h = each_base ns (cancel_channel x p n).after (cancelled_base x p n h)
