-- Waits of one process change, and those of others stay.
use Rattle.std.proofs.Common.{◌≡◌, ℕ, zero, suc, ◌+◌, ◌-◌, ◌<◌, false, cond, ◌&&◌, ◌==◌, List, [], ◌∷◌, Option, Some, None, map, refl, ap, ap₂, sym, ◌∙◌, arith, add-one, eq-eqb}
use Rattle.std.proofs.lemmas.Bool.{ne_eqb, eqb-true}
use Rattle.std.specs.HashMap.{get}
use Rattle.vx_laws.specs.Agrees.{waited}
use Rattle.vx_record.specs.Types.{Call, Cond, Pid, Wait}
use Rattle.vx_record.specs.Charges.{is_same}
use Rattle.vx_laws.specs.Frames.{with_first}
use Rattle.vx_laws.specs.Items.{Item}
use Rattle.vx_laws.specs.StatusLaw.{resumes_right, resumes_wait}
use Rattle.vx_judge.specs.Asked.{top_of}
use Rattle.vx_judge.specs.Pairs.{pair_eq}
use Rattle.vx_judge.specs.Waits.{waits_below, waits_in, count_in, wait_at}
use Rattle.vx_judge.specs.declared.waits.Waits.{Waits}
use Rattle.vx_judge.proofs.OpenIds.{by_cases}

-- what stands above the lowest n is not among them
same_below : (f g : ℕ → Option Wait) (n : ℕ) → ((i : ℕ) → i < n → g i ≡ f i) → waits_below g n ≡ waits_below f n
same_below f g zero h = refl
same_below f g (suc n) h = ap₂ (λ (w : Option Wait) ws. w ∷ ws) (h n (omega arith)) (same_below f g n (λ i k. h i (omega (arith, k))))

-- the top one is set
top_set : (f g : ℕ → Option Wait) (n : ℕ) (w : Option Wait) → ((i : ℕ) → g i ≡ cond (n == i) w (f i)) → waits_below g (suc n) ≡ w ∷ waits_below f n
top_set f g n w h = ap₂ (λ (v : Option Wait) vs. v ∷ vs) (h n ∙ rw (eq-eqb n n refl) refl)
    (same_below f g n (λ i k. h i ∙ rw (ne_eqb n i (λ e. let never : ⊥ = omega (arith, k, e) in never)) refl))

-- of one process, and of the others
each : (old new : Waits) (p : Pid) (ws : List (Option Wait)) → waits_in new p ≡ ws → ((q : Pid) → is_same p q ≡ false → waits_in new q ≡ waits_in old q) →
    (q : Pid) → waits_in new q ≡ cond (is_same p q) ws (waits_in old q)
each old new p ws here others q = by_cases (is_same p q)
    (λ e. let n : p.0 ≡ q.0 = eqb-true p.0 q.0 e in let same : p ≡ q = ap (λ k. record { 0 = k }) n in rw (e, ← same) here)
    (λ e. rw e (others q e))

asked_same : (old new : Waits) (q : Pid) (n : ℕ) → new.asked ≡ old.asked → wait_at new q n ≡ wait_at old q n
asked_same old new q n e = ap (λ m. get pair_eq m (q.0, n)) e

count_same : (old new : Waits) (q : Pid) → new.counts ≡ old.counts → count_in new q ≡ count_in old q
count_same old new q e = rw e refl

-- another number of frames
recounted : (old new : Waits) (p : Pid) (count : ℕ) → ((q : Pid) → count_in new q ≡ cond (is_same p q) count (count_in old q)) → new.asked ≡ old.asked →
    (q : Pid) → waits_in new q ≡ cond (is_same p q) (waits_below (wait_at old p) count) (waits_in old q)
recounted old new p count counts same = each old new p (waits_below (wait_at old p) count)
    (let k : count_in new p ≡ count = counts p ∙ rw (eq-eqb p.0 p.0 refl) refl in
    ap (waits_below (wait_at new p)) k ∙ same_below (wait_at old p) (wait_at new p) count (λ i _. asked_same old new p i same))
    (λ q e.
    let k : count_in new q ≡ count_in old q = counts q ∙ rw e refl in
    ap (waits_below (wait_at new q)) k ∙ same_below (wait_at old q) (wait_at new q) (count_in old q) (λ i _. asked_same old new q i same))

-- What a frame of a process waits for.

abbrev pub IsSet : Waits → Waits → Pid → ℕ → Option Wait → Type 0
IsSet old new p place wait = ((q : Pid) (n : ℕ) → wait_at new q n ≡ cond (is_same p q && (place == n)) wait (wait_at old q n)) × (new.counts ≡ old.counts)

set_here : (old new : Waits) (p : Pid) (place : ℕ) (wait : Option Wait) → IsSet old new p place wait → (n : ℕ) → wait_at new p n ≡ cond (place == n) wait (wait_at old p n)
set_here old new p place wait set n = set.0 p n ∙ rw (eq-eqb p.0 p.0 refl) refl

set_others : (old new : Waits) (p : Pid) (place : ℕ) (wait : Option Wait) → IsSet old new p place wait → (q : Pid) → is_same p q ≡ false → (n : ℕ) → wait_at new q n ≡ wait_at old q n
set_others old new p place wait set q e n = set.0 q n ∙ rw e refl

-- a frame on the top
pub entered : (old mid new : Waits) (p : Pid) (count more : ℕ) → count ≡ count_in old p → more ≡ count + 1 → IsSet old mid p count None →
    ((q : Pid) → count_in new q ≡ cond (is_same p q) more (count_in mid q)) → new.asked ≡ mid.asked →
    (q : Pid) → waits_in new q ≡ cond (is_same p q) (None ∷ waits_in old q) (waits_in old q)
entered old mid new p count more is next set counts stay q =
    recounted mid new p more counts stay q ∙ by_cases (is_same p q)
    (λ e.
    let n : p.0 ≡ q.0 = eqb-true p.0 q.0 e in
    let same : p ≡ q = ap (λ k. record { 0 = k }) n in
    let grown : more ≡ suc count = next ∙ add-one count in
    let top : waits_below (wait_at mid p) (suc count) ≡ None ∷ waits_below (wait_at old p) count = top_set (wait_at old p) (wait_at mid p) count None (set_here old mid p count None set) in
    let all : waits_below (wait_at mid p) more ≡ None ∷ waits_in old p = ap (waits_below (wait_at mid p)) grown ∙ (top ∙ ap (λ k. None ∷ waits_below (wait_at old p) k) is) in
    rw (e, all, same) refl)
    (λ e. rw e (ap (waits_below (wait_at mid q)) (count_same old mid q set.1) ∙ same_below (wait_at old q) (wait_at mid q) (count_in old q) (λ i _. set_others old mid p count None set q e i)))

first_set : (f g : ℕ → Option Wait) (n count : ℕ) (w : Option Wait) → count ≡ suc n → ((i : ℕ) → g i ≡ cond (n == i) w (f i)) → waits_below g count ≡ with_first w (waits_below f count)
first_set f g n count w e h = rw e (top_set f g n w h)

-- the top frame, if there is one
pub told : (old new : Waits) (p : Pid) (count : ℕ) (wait : Option Wait) → count ≡ count_in old p → 0 < count → IsSet old new p (count - 1) wait →
    (q : Pid) → waits_in new q ≡ cond (is_same p q) (with_first wait (waits_in old q)) (waits_in old q)
told old new p count wait is some set q = by_cases (is_same p q)
    (λ e.
    let n : p.0 ≡ q.0 = eqb-true p.0 q.0 e in
    let same : p ≡ q = ap (λ k. record { 0 = k }) n in
    let above : count ≡ suc (count - 1) = before count some in
    let first : waits_below (wait_at new p) count ≡ with_first wait (waits_below (wait_at old p) count) = first_set (wait_at old p) (wait_at new p) (count - 1) count wait above (set_here old new p (count - 1) wait set) in
    let here : waits_in new p ≡ with_first wait (waits_in old p) = ap (waits_below (wait_at new p)) (count_same old new p set.1 ∙ sym is) ∙ (first ∙ ap (λ k. with_first wait (waits_below (wait_at old p) k)) is) in
    rw (e, ← same) here)
    (λ e. rw e (ap (waits_below (wait_at new q)) (count_same old new q set.1) ∙ same_below (wait_at old q) (wait_at new q) (count_in old q) (λ i _. set_others old new p (count - 1) wait set q e i)))
  where
    before : (m : ℕ) → 0 < m → m ≡ suc (m - 1)
    before m k = omega (arith, k)

-- the top one of them
pub top_below : (f : ℕ → Option Wait) (count : ℕ) → 0 < count → f (count - 1) ≡ top_of (waits_below f count)
top_below f zero k = absurd (omega (arith, k))
top_below f (suc n) k = let e : suc n - 1 ≡ n = omega arith in ap f e

pub by_top : (past : List Item) (p : Pid) (c : Cond) (ws : List (Option Call)) → resumes_wait past p c (top_of (map waited ws)) ≡ resumes_right past p c ws
by_top past p c [] = refl
by_top past p c (None ∷ ws) = refl
by_top past p c (Some call ∷ ws) = refl
