-- Lists of which the first items are kept.
use native.Mathlib.Numerals.{unary_clauses}
use Rattle.std.proofs.Common.{◌≡◌, ℕ, zero, suc, ◌-◌, ◌<◌, ◌≤◌, List, [], ◌∷◌, ◌++◌, drop, length, max, replicate, slice_index_or, slice_set, take, ap, refl, sym, ◌∙◌, subst, ◌+◌, arith}
use Rattle.std.proofs.Math.Seq.{take-suc}
use Rattle.std.proofs.Math.Nat.{le-max_left, le-max_right}
use Rattle.std.proofs.lemmas.List.{drop-replicate, drop_more, get_or_append_left, length-append, length-replicate, length-set, set-append_left, take-append-drop, take-replicate}
use Rattle.vx_base.specs.Lists.{overlaid}
use Rattle.vx_base.specs.Roomy.{Roomy, with_items}
use Rattle.vx_base.specs.Pieces.{Status, cleared}
use Rattle.vx_image.specs.Filled.{all_statuses, filled, page_of}
use Rattle.vx_same.proofs.Trimmed.{all_alike, behind_laid, front, laid}
use Rattle.vx_same.proofs.Trimmed as Trimmed
use Rattle.vx_base.proofs.Lists.{any_default}

next_blank : {A : Type 0} (b : A) (xs : List A) (n : ℕ) → length xs < n → (xs ++ b ∷ []) ++ replicate (n - length (xs ++ b ∷ [])) b ≡ xs ++ replicate (n - length xs) b
next_blank b [] zero lt = absurd (omega (arith, lt))
next_blank b [] (suc n) lt =
    let one : suc n - 1 ≡ n = omega arith in
    let none : suc n - 0 ≡ suc n = omega arith in
    rw (one, none) refl
next_blank b (x ∷ xs) zero lt = absurd (omega (arith, lt))
next_blank {A} b (x ∷ xs) (suc n) lt = simp unary_clauses (ap (λ (ys : List A). x ∷ ys) (next_blank b xs n (omega (arith, lt))))

one_more : (pages : List (List ℕ)) → length pages < 32 → filled (pages ++ replicate 2048 0 ∷ []) ≡ filled pages
one_more pages lt = next_blank (replicate 2048 0) pages 32 lt

-- one more that was never written
pub next_filled : (r s : Roomy (List ℕ)) (page : List ℕ) → page ≡ replicate 2048 0 → length r.items < 32 → s ≡ with_items r (r.items ++ page ∷ []) → filled s.items ≡ filled r.items
next_filled r s page zeros lt put = rw (put, zeros) (one_more r.items lt)

changed : (pages : List (List ℕ)) (k : ℕ) (bytes : List ℕ) → k < length pages → filled (slice_set pages k bytes) ≡ slice_set (filled pages) k bytes
changed pages k bytes lt = rw (length-set pages k bytes, set-append_left pages _ k bytes lt) refl

-- a filled one is changed where it stands
pub overlaid_at : (pages all : List (List ℕ)) (k : ℕ) (piece page after : List ℕ) → k < length pages → filled pages ≡ all → page ≡ slice_index_or pages k page → after ≡ overlaid piece page →
    filled (slice_set pages k after) ≡ slice_set all k (overlaid piece (slice_index_or all k []))
overlaid_at pages all k piece page after lt whole at put =
    let found : page ≡ slice_index_or all k [] = at ∙ (any_default pages k page [] lt ∙ (sym (get_or_append_left pages _ [] k lt) ∙ ap (λ (ps : List (List ℕ)). slice_index_or ps k []) whole)) in
    changed pages k after lt ∙ (ap (λ (ps : List (List ℕ)). slice_set ps k after) whole ∙ ap (λ (bytes : List ℕ). slice_set all k bytes) (put ∙ ap (λ (bytes : List ℕ). overlaid piece bytes) found))

behind : {A : Type 0} (b : A) (xs : List A) (n w : ℕ) → length xs ≤ w → w ≤ n → drop w (xs ++ replicate (n - length xs) b) ≡ replicate (n - w) b
behind b [] n w few within = let none : n - 0 ≡ n = omega arith in rw none (drop-replicate w n b)
behind b (x ∷ xs) n zero few within = absurd (omega (arith, few))
behind b (x ∷ xs) zero (suc w) few within = absurd (omega (arith, within))
behind b (x ∷ xs) (suc n) (suc w) few within =
    let left : suc n - suc (length xs) ≡ n - length xs = omega arith in
    let right : suc n - suc w ≡ n - w = omega arith in
    rw (left, right) (behind b xs n w (omega (arith, few)) (omega (arith, within)))

-- the same up to where both are filled
pub all_same : (xs ys : List (List ℕ)) (w : ℕ) → length xs ≤ w → length ys ≤ w → w ≤ 32 → take w (filled xs) ≡ take w (filled ys) → filled xs ≡ filled ys
all_same xs ys w few_a few_b within front =
    let back : drop w (filled xs) ≡ drop w (filled ys) = behind (replicate 2048 0) xs 32 w few_a within ∙ sym (behind (replicate 2048 0) ys 32 w few_b within) in
    sym (take-append-drop w (filled xs)) ∙ (ap (λ (t : List (List ℕ)). t ++ drop w (filled xs)) front ∙ (ap (λ (t : List (List ℕ)). take w (filled ys) ++ t) back ∙ take-append-drop w (filled ys)))

total : (pages : List (List ℕ)) → length pages ≤ 32 → length (filled pages) ≡ 32
total pages few = length-append pages _ ∙ (ap (λ (n : ℕ). length pages + n) (length-replicate (32 - length pages) (replicate 2048 0)) ∙ omega (arith, few))

one_longer : {A : Type 0} (d : A) (xs ys : List A) (k : ℕ) → k < length xs → k < length ys → take k xs ≡ take k ys → slice_index_or xs k d ≡ slice_index_or ys k d → take (suc k) xs ≡ take (suc k) ys
one_longer {A} d xs ys k in_x in_y front same =
    take-suc xs k d in_x ∙ (ap (λ (t : List A). t ++ slice_index_or xs k d ∷ []) front ∙ (ap (λ (x : A). take k ys ++ x ∷ []) same ∙ sym (take-suc ys k d in_y)))

-- one more is the same
pub next_same : (xs ys : List (List ℕ)) (k : ℕ) → length xs ≤ 32 → length ys ≤ 32 → k < 32 → take k (filled xs) ≡ take k (filled ys) →
    slice_index_or (filled xs) k [] ≡ slice_index_or (filled ys) k [] → take (k + 1) (filled xs) ≡ take (k + 1) (filled ys)
next_same xs ys k few_a few_b lt front same =
    let total_a = total xs few_a in
    let total_b = total ys few_b in
    let step : suc k ≡ k + 1 = omega arith in
    subst (λ (n : ℕ). take n (filled xs) ≡ take n (filled ys)) step (one_longer [] (filled xs) (filled ys) k (omega (arith, total_a, lt)) (omega (arith, total_b, lt)) front same)

-- Kept up to where the others begin, and laid over others.

pub page_laid : (piece blank page : List ℕ) → blank ≡ replicate 2048 0 → page ≡ overlaid piece blank → page ≡ page_of piece
page_laid piece blank page zeros put = put ∙ (ap (λ (ys : List ℕ). overlaid piece ys) zeros ∙ laid 2048 0 piece)

-- zeros in front of zeros
pub zeros_all : (bytes after : List ℕ) (w : ℕ) → w ≤ 2048 → drop w bytes ≡ replicate (2048 - w) 0 → after ≡ replicate w 0 ++ drop w bytes → after ≡ replicate 2048 0
zeros_all bytes after w within behind is = is ∙ all_alike 2048 0 bytes w within behind

pub page_front : (bytes : List ℕ) (k : ℕ) → length bytes ≡ 2048 → k ≤ 2048 → drop k bytes ≡ replicate (2048 - k) 0 → page_of (take k bytes) ≡ bytes
page_front bytes k size within behind = front 2048 0 bytes k size within behind

pub statuses_front : (blocks : List Status) (k : ℕ) → length blocks ≡ 32 → k ≤ length blocks → drop k blocks ≡ replicate (length blocks - k) cleared → all_statuses (take k blocks) ≡ blocks
statuses_front blocks k size within behind = front 32 cleared blocks k size (omega (arith, size, within)) (subst (λ (n : ℕ). drop k blocks ≡ replicate (n - k) cleared) size behind)

-- behind a piece that is laid over the start, and behind what was written before, nothing was written
pub zeros_behind : (piece bytes : List ℕ) (k : ℕ) → drop k bytes ≡ replicate (2048 - k) 0 → drop (max k (length piece)) (overlaid piece bytes) ≡ replicate (2048 - max k (length piece)) 0
zeros_behind piece bytes k behind = behind_laid 2048 0 piece bytes k behind

-- behind a block that is filled, and behind those before, all are clear
pub set_behind : (blocks : List Status) (k i : ℕ) (block : Status) → drop k blocks ≡ replicate (32 - k) cleared → drop (max k (i + 1)) (slice_set blocks i block) ≡ replicate (32 - max k (i + 1)) cleared
set_behind blocks k i block behind =
    let past = le-max_right k (i + 1) in
    Trimmed.behind_set 32 cleared block blocks k i (max k (i + 1)) (le-max_left k (i + 1)) (omega (arith, past)) behind

-- the first of bytes that are all zero
pub zeros_front : (k : ℕ) (bytes all : List ℕ) → k ≤ 2048 → all ≡ replicate 2048 0 → bytes ≡ take k all → bytes ≡ replicate k 0
zeros_front k bytes all within zeros front = front ∙ (ap (take k) zeros ∙ take-replicate k 2048 0 within)

-- the block before is clear too
pub next_clear : (blocks : List Status) (k : ℕ) (b : Status) → 0 < k → k ≤ length blocks → b ≡ slice_index_or blocks (k - 1) b → b ≡ cleared → drop k blocks ≡ replicate (length blocks - k) cleared → drop (k - 1) blocks ≡ replicate (length blocks - (k - 1)) cleared
next_clear blocks k b some within is clear behind =
    let here : (k - 1) + 1 ≡ k = omega (arith, some) in
    let more : suc (length blocks - k) ≡ length blocks - (k - 1) = omega (arith, some, within) in
    drop_more blocks (k - 1) b (omega (arith, some, within))
    ∙ (ap (λ (x : Status). x ∷ drop ((k - 1) + 1) blocks) (sym is ∙ clear)
    ∙ (ap (λ (n : ℕ). cleared ∷ drop n blocks) here
    ∙ (ap (λ (xs : List Status). cleared ∷ xs) behind ∙ ap (λ (n : ℕ). replicate n cleared) more)))
