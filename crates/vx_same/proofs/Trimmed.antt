-- Lists of a fixed length without the end, if that is all alike.
use Rattle.std.proofs.Common.{◌≡◌, ℕ, zero, suc, ◌+◌, ◌-◌, ◌<◌, ◌≤◌, List, [], ◌∷◌, ◌++◌, Option, Some, None, IsSome, is_some, drop, length, max, replicate, slice_index_or, slice_set, take, inl, inr, ap, append_assoc, refl, sym, ◌∙◌, arith}
use Rattle.std.proofs.Math.Nat.{le-max_left, le-max_right}
use Rattle.std.proofs.lemmas.Bool.{cases_lt, false≢true}
use Rattle.std.proofs.lemmas.Slice.{drop-append-drop}
use Rattle.std.proofs.lemmas.List.{get_or-drop, drop-drop, drop-replicate, drop-set-lt, drop_at, drop-append-le, length-drop, length-replicate, length-take-le, replicate-append-replicate, take-append-drop, take-append-le, take_at}
use Rattle.vx_same.specs.Trimmed.{filled_to, laid_over, none_before, trimmed}

-- Whatever the items.

-- cut off at a place behind which all are alike
pub front : {A : Type 0} (n : ℕ) (rest : A) (xs : List A) (k : ℕ) → length xs ≡ n → k ≤ n → drop k xs ≡ replicate (n - k) rest → filled_to n rest (take k xs) ≡ xs
front {A} n rest xs k size within behind =
    let kept : length (take k xs) ≡ k = length-take-le k xs (omega (arith, size, within)) in
    ap (λ (m : ℕ). take k xs ++ replicate (n - m) rest) kept ∙ (ap (λ (ys : List A). take k xs ++ ys) (sym behind) ∙ take-append-drop k xs)

-- laid over a list that is all alike
pub laid : {A : Type 0} (n : ℕ) (rest : A) (xs : List A) → xs ++ drop (length xs) (replicate n rest) ≡ filled_to n rest xs
laid {A} n rest xs = ap (λ (ys : List A). xs ++ ys) (drop-replicate (length xs) n rest)

-- the same in front of what is all alike
pub all_alike : {A : Type 0} (n : ℕ) (rest : A) (xs : List A) (k : ℕ) → k ≤ n → drop k xs ≡ replicate (n - k) rest → replicate k rest ++ drop k xs ≡ replicate n rest
all_alike {A} n rest xs k within behind =
    let whole : k + (n - k) ≡ n = omega (arith, within) in
    ap (λ (ys : List A). replicate k rest ++ ys) behind ∙ (replicate-append-replicate k (n - k) rest ∙ ap (λ (m : ℕ). replicate m rest) whole)

-- laid over a list of which those behind a place are all alike
pub laid_filled : {A : Type 0} (n : ℕ) (rest : A) (first xs after : List A) (k : ℕ) → k ≤ n → drop k xs ≡ replicate (n - k) rest → after ≡ laid_over k rest first xs → after ≡ filled_to n rest first
laid_filled {A} n rest first xs after k within behind put =
    put ∙ (ap (λ (ys : List A). first ++ drop (length first) ys) (all_alike n rest xs k within behind) ∙ laid n rest first)

-- all alike behind those that were laid over
pub alike_behind : {A : Type 0} (n : ℕ) (rest : A) (first xs after : List A) (k : ℕ) → k ≤ n → drop k xs ≡ replicate (n - k) rest → after ≡ laid_over k rest first xs → drop (length first) after ≡ replicate (n - length first) rest
alike_behind n rest first xs after k within behind put =
    ap (drop (length first)) (laid_filled n rest first xs after k within behind put) ∙ drop_at first (replicate (n - length first) rest) (length first) refl

-- all alike further behind too
pub further : {A : Type 0} (n : ℕ) (rest : A) (xs : List A) (k m : ℕ) → k ≤ m → drop k xs ≡ replicate (n - k) rest → drop m xs ≡ replicate (n - m) rest
further {A} n rest xs k m past behind =
    let whole : k + (m - k) ≡ m = omega (arith, past) in
    let left : (n - k) - (m - k) ≡ n - m = omega (arith, past) in
    ap (λ (j : ℕ). drop j xs) (sym whole)
    ∙ (sym (drop-drop (m - k) k xs)
    ∙ (ap (drop (m - k)) behind
    ∙ (drop-replicate (m - k) (n - k) rest ∙ ap (λ (j : ℕ). replicate j rest) left)))

-- all alike behind others that are laid over the start
pub behind_laid : {A : Type 0} (n : ℕ) (rest : A) (ys xs : List A) (k : ℕ) → drop k xs ≡ replicate (n - k) rest → drop (max k (length ys)) (ys ++ drop (length ys) xs) ≡ replicate (n - max k (length ys)) rest
behind_laid n rest ys xs k behind =
    drop-append-drop (length ys) xs ys (max k (length ys)) (le-max_right k (length ys)) refl
    ∙ further n rest xs k (max k (length ys)) (le-max_left k (length ys)) behind

-- all alike behind one that is set
pub behind_set : {A : Type 0} (n : ℕ) (rest x : A) (xs : List A) (k i m : ℕ) → k ≤ m → i < m → drop k xs ≡ replicate (n - k) rest → drop m (slice_set xs i x) ≡ replicate (n - m) rest
behind_set n rest x xs k i m past within behind = drop-set-lt m xs i x within ∙ further n rest xs k m past behind

-- Behind the place, each is like the others.

alike_at : {A : Type 0} (n i : ℕ) (rest : A) → slice_index_or (replicate n rest) i rest ≡ rest
alike_at zero i rest = refl
alike_at (suc n) zero rest = refl
alike_at (suc n) (suc i) rest = alike_at n i rest

-- behind those that are given, the others
pub filled_at : {A : Type 0} (xs : List A) (n i : ℕ) (rest : A) → slice_index_or (xs ++ replicate n rest) i rest ≡ slice_index_or xs i rest
filled_at [] n i rest = alike_at n i rest
filled_at (x ∷ xs) n zero rest = refl
filled_at (x ∷ xs) n (suc i) rest = filled_at xs n i rest

behind_at : {A : Type 0} (n : ℕ) (rest : A) (xs : List A) (k i : ℕ) → k ≤ i → drop k xs ≡ replicate (n - k) rest → slice_index_or xs i rest ≡ rest
behind_at {A} n rest xs k i past behind =
    let whole : i ≡ k + (i - k) = omega (arith, past) in
    ap (λ (j : ℕ). slice_index_or xs j rest) whole
    ∙ (sym (get_or-drop k xs (i - k) rest)
    ∙ (ap (λ (ys : List A). slice_index_or ys (i - k) rest) behind ∙ alike_at (n - k) (i - k) rest))

-- what is there stands before it
pub there_before : {A : Type 0} (n : ℕ) (xs : List (Option A)) (k i : ℕ) → IsSome (slice_index_or xs i None) → drop k xs ≡ replicate (n - k) None → i < k
there_before n xs k i there behind =
    elim (cases_lt i k) [
      | inl within ↦ within
      | inr past ↦ absurd (false≢true (sym (ap is_some (behind_at n None xs k i (omega (arith, past)) behind)) ∙ there))
    ]

-- A list and a longer one, both filled up to the same length: they are the same exactly where the one begins the other, and the rest alone
-- stands behind it.

parted : {A : Type 0} (n : ℕ) (rest : A) (xs : List A) (m : ℕ) → length xs ≤ n → m ≤ length xs → drop m xs ≡ replicate (length xs - m) rest → filled_to n rest xs ≡ take m xs ++ replicate (n - m) rest
parted {A} n rest xs m few within behind =
    let whole : (length xs - m) + (n - length xs) ≡ n - m = omega (arith, few, within) in
    ap (λ (ys : List A). ys ++ replicate (n - length xs) rest) (sym (take-append-drop m xs))
    ∙ (append_assoc (take m xs) (drop m xs) (replicate (n - length xs) rest)
    ∙ ap (λ (ys : List A). take m xs ++ ys) (ap (λ (ys : List A). ys ++ replicate (n - length xs) rest) behind ∙ (replicate-append-replicate (length xs - m) (n - length xs) rest ∙ ap (λ (j : ℕ). replicate j rest) whole)))

pub begun_same : {A : Type 0} (n : ℕ) (rest : A) (xs ys : List A) → length ys ≤ n → length xs ≤ length ys → xs ≡ take (length xs) ys → drop (length xs) ys ≡ replicate (length ys - length xs) rest → filled_to n rest xs ≡ filled_to n rest ys
begun_same {A} n rest xs ys few shorter begun behind =
    ap (λ (zs : List A). zs ++ replicate (n - length xs) rest) begun ∙ sym (parted n rest ys (length xs) few shorter behind)

pub same_begun : {A : Type 0} (n : ℕ) (rest : A) (xs ys : List A) → length xs ≤ length ys → filled_to n rest xs ≡ filled_to n rest ys → xs ≡ take (length xs) ys
same_begun n rest xs ys shorter same =
    sym (take_at xs (replicate (n - length xs) rest) (length xs) refl) ∙ (ap (take (length xs)) same ∙ take-append-le (length xs) ys (replicate (n - length ys) rest) shorter)

pub same_behind : {A : Type 0} (n : ℕ) (rest : A) (xs ys : List A) → length ys ≤ n → length xs ≤ length ys → filled_to n rest xs ≡ filled_to n rest ys → drop (length xs) ys ≡ replicate (length ys - length xs) rest
same_behind {A} n rest xs ys few shorter same =
    let left : (length ys - length xs) + (n - length ys) ≡ n - length xs = omega (arith, few, shorter) in
    let all : drop (length xs) ys ++ replicate (n - length ys) rest ≡ replicate (length ys - length xs) rest ++ replicate (n - length ys) rest =
    sym (drop-append-le (length xs) ys (replicate (n - length ys) rest) shorter)
    ∙ (ap (drop (length xs)) (sym same)
    ∙ (drop_at xs (replicate (n - length xs) rest) (length xs) refl
    ∙ (ap (λ (j : ℕ). replicate j rest) (sym left) ∙ sym (replicate-append-replicate (length ys - length xs) (n - length ys) rest)))) in
    sym (take_at (drop (length xs) ys) (replicate (n - length ys) rest) (length ys - length xs) (length-drop (length xs) ys))
    ∙ (ap (take (length ys - length xs)) all
    ∙ take_at (replicate (length ys - length xs) rest) (replicate (n - length ys) rest) (length ys - length xs) (length-replicate (length ys - length xs) rest))

-- Items that may be missing.

none_alone : {A : Type 0} (k : ℕ) → trimmed {A = A} (replicate k None) ≡ []
none_alone zero = refl
none_alone {A} (suc k) = ap (none_before {A = A}) (none_alone k)

pub none_behind : {A : Type 0} (xs : List (Option A)) (k : ℕ) → trimmed (xs ++ replicate k None) ≡ trimmed xs
none_behind [] k = none_alone k
none_behind {A} (None ∷ xs) k = ap (none_before {A = A}) (none_behind xs k)
none_behind {A} (Some x ∷ xs) k = ap (λ (ys : List (Option A)). Some x ∷ ys) (none_behind xs k)

-- a missing one at the end is left out
pub none_last : {A : Type 0} (xs : List (Option A)) → trimmed (xs ++ None ∷ []) ≡ trimmed xs
none_last xs = none_behind xs 1

before_some : {A : Type 0} (xs : List (Option A)) (a : A) → none_before (xs ++ Some a ∷ []) ≡ None ∷ (xs ++ Some a ∷ [])
before_some [] a = refl
before_some (x ∷ xs) a = refl

-- nothing is left out before one that is there
pub some_last : {A : Type 0} (xs : List (Option A)) (a : A) → trimmed (xs ++ Some a ∷ []) ≡ xs ++ Some a ∷ []
some_last [] a = refl
some_last {A} (None ∷ xs) a = ap (none_before {A = A}) (some_last xs a) ∙ before_some xs a
some_last {A} (Some x ∷ xs) a = ap (λ (ys : List (Option A)). Some x ∷ ys) (some_last xs a)

shorter_before : {A : Type 0} (ys xs : List (Option A)) → length ys ≤ length xs → length (none_before ys) ≤ suc (length xs)
shorter_before [] xs fewer = omega arith
shorter_before (y ∷ ys) xs fewer = omega (arith, fewer)

pub shorter : {A : Type 0} (xs : List (Option A)) → length (trimmed xs) ≤ length xs
shorter [] = omega arith
shorter (None ∷ xs) = shorter_before (trimmed xs) xs (shorter xs)
shorter (Some x ∷ xs) = omega (arith, shorter xs)

-- what is left out is missing

with_none : {A : Type 0} (ys xs : List (Option A)) (k : ℕ) → length (none_before ys) + k ≡ suc (length xs) → ((m : ℕ) → length ys + m ≡ length xs → ys ++ replicate m None ≡ xs) → none_before ys ++ replicate k None ≡ None ∷ xs
with_none [] xs zero long left = absurd (omega (arith, long))
with_none {A} [] xs (suc k) long left = ap (λ (zs : List (Option A)). None ∷ zs) (left k (omega (arith, long)))
with_none {A} (y ∷ ys) xs k long left = ap (λ (zs : List (Option A)). None ∷ zs) (left k (omega (arith, long)))

left_out : {A : Type 0} (xs : List (Option A)) (k : ℕ) → length (trimmed xs) + k ≡ length xs → trimmed xs ++ replicate k None ≡ xs
left_out [] zero long = refl
left_out [] (suc k) long = absurd (omega (arith, long))
left_out (None ∷ xs) k long = with_none (trimmed xs) xs k long (left_out xs)
left_out {A} (Some x ∷ xs) k long = ap (λ (ys : List (Option A)). Some x ∷ ys) (left_out xs k (omega (arith, long)))

-- as many come back, and all of them
pub filled_same : {A : Type 0} (n : ℕ) (xs : List (Option A)) → length xs ≤ n → filled_to n None (trimmed xs) ≡ filled_to n None xs
filled_same {A} n xs few =
    let fewer = shorter xs in
    let short : ℕ = length xs - length (trimmed xs) in
    let all : short + (n - length xs) ≡ n - length (trimmed xs) = omega (arith, fewer, few) in
    sym (ap (λ (ys : List (Option A)). ys ++ replicate (n - length xs) None) (sym (left_out xs short (omega (arith, fewer))))
    ∙ (append_assoc (trimmed xs) (replicate short None) (replicate (n - length xs) None)
    ∙ ap (λ (ys : List (Option A)). trimmed xs ++ ys) (replicate-append-replicate short (n - length xs) None ∙ ap (λ (m : ℕ). replicate m None) all)))

-- what is trimmed stays so
pub trimmed_again : {A : Type 0} (xs : List (Option A)) → trimmed (trimmed xs) ≡ trimmed xs
trimmed_again {A} xs =
    sym (none_behind (trimmed xs) (length xs - length (trimmed xs))) ∙ ap (trimmed {A = A}) (left_out xs (length xs - length (trimmed xs)) (omega (arith, shorter xs)))

-- what is trimmed is the same if all are
pub same_filled : {A : Type 0} (n : ℕ) (xs ys : List (Option A)) → trimmed xs ≡ xs → trimmed ys ≡ ys → filled_to n None xs ≡ filled_to n None ys → xs ≡ ys
same_filled {A} n xs ys own_x own_y same =
    sym (none_behind xs (n - length xs) ∙ own_x) ∙ (ap (trimmed {A = A}) same ∙ (none_behind ys (n - length ys) ∙ own_y))

-- what is trimmed and what is not are filled up to the same exactly where the one is the other trimmed

pub same_trimmed : {A : Type 0} (n : ℕ) (xs ys : List (Option A)) → trimmed xs ≡ xs → length ys ≤ n → filled_to n None xs ≡ filled_to n None ys → xs ≡ trimmed ys
same_trimmed n xs ys own few same = same_filled n xs (trimmed ys) own (trimmed_again ys) (same ∙ sym (filled_same n ys few))

pub trimmed_same : {A : Type 0} (n : ℕ) (xs ys : List (Option A)) → length ys ≤ n → xs ≡ trimmed ys → filled_to n None xs ≡ filled_to n None ys
trimmed_same {A} n xs ys few same = ap (filled_to {A = Option A} n None) same ∙ filled_same n ys few
