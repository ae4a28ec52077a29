-- Names that differ, and where they stand.
use Rattle.std.proofs.Common.{◌≡◌, ℕ, zero, suc, ◌+◌, ◌<◌, ◌||◌, not, Bool, true, false, cond, List, [], ◌∷◌, ◌++◌, length, map, get_or, Some, position, nat_lt, bytes_eq, refl, sym, ◌∙◌, arith}
use Rattle.std.specs.List.{AllByRecursion, position_or_len}
use Rattle.std.proofs.lemmas.Slice.Eq.{bytes_eq-Decides}
use Rattle.std.proofs.lemmas.Bool.{lt-ltb, not-true, or_parts, and_parts}
use Rattle.std.proofs.lemmas.List.Folds.{list_any-append}
use Rattle.vx_image.specs.WellFormed.{is_among, are_distinct}
use Rattle.vx_base.proofs.Texts.{same_bytes, bytes_are}

other_by : (a b : List ℕ) (t : Bool) → bytes_eq b a ≡ t → bytes_eq a b ≡ false → t ≡ false
other_by a b true e h =
    let same : bytes_eq a b ≡ true = (bytes_eq-Decides a b).1 (sym (bytes_are b a e)) in
    cc
other_by a b false e h = refl

pub other_way : (a b : List ℕ) → bytes_eq a b ≡ false → bytes_eq b a ≡ false
other_way a b h = other_by a b (bytes_eq b a) refl h

-- Names one behind another, each other than those before it.

abbrev pub Fresh : List (List ℕ) → List (List ℕ) → Type 0
Fresh done [] = Unit {0}
Fresh done (n ∷ ns) = (is_among n done ≡ false) × Fresh (done ++ n ∷ []) ns

abbrev Apart : List (List ℕ) → List (List ℕ) → Type 0
Apart done ns = AllByRecursion (λ n. is_among n done ≡ false) ns

apart_more : (done : List (List ℕ)) (n : List ℕ) (ns : List (List ℕ)) → Apart done ns → is_among n ns ≡ false → Apart (done ++ n ∷ []) ns
apart_more done n [] a h = tt
apart_more done n (m ∷ ms) a h =
    let parts = or_parts (bytes_eq n m) (is_among n ms) h in
    (list_any-append (bytes_eq m) done (n ∷ []) ∙ rw (a.0, other_way n m parts.0) refl, apart_more done n ms a.1 parts.1)

fresh_by : (done ns : List (List ℕ)) → Apart done ns → are_distinct ns ≡ true → Fresh done ns
fresh_by done [] a h = tt
fresh_by done (n ∷ ns) a h =
    let parts = and_parts (not (is_among n ns)) (are_distinct ns) h in
    (a.0, fresh_by (done ++ n ∷ []) ns (apart_more done n ns a.1 (not-true (is_among n ns) parts.0)) parts.1)

apart_none : (ns : List (List ℕ)) → Apart [] ns
apart_none [] = tt
apart_none (n ∷ ns) = (refl, apart_none ns)

pub fresh_of : (ns : List (List ℕ)) → are_distinct ns ≡ true → Fresh [] ns
fresh_of ns h = fresh_by [] ns (apart_none ns) h

-- Places.

no_place : {A : Type 0} (n : A → List ℕ) (name : List ℕ) (xs : List A) → is_among name (map n xs) ≡ false → position_or_len (λ x. bytes_eq name (n x)) xs ≡ length xs
no_place n name [] h = refl
no_place n name (x ∷ xs) h =
    let parts = or_parts (bytes_eq name (n x)) (is_among name (map n xs)) h in
    rw (parts.0, no_place n name xs parts.1) (omega arith)

pub among_at : {A : Type 0} (n : A → List ℕ) (a : List ℕ) (xs : List A) (k : ℕ) (d : A) → is_among a (map n xs) ≡ false → k < length xs → bytes_eq a (n (get_or xs k d)) ≡ false
among_at n a [] k d h lt = absurd (omega arith)
among_at n a (x ∷ xs) zero d h lt = (or_parts (bytes_eq a (n x)) (is_among a (map n xs)) h).0
among_at n a (x ∷ xs) (suc k) d h lt = among_at n a xs k d (or_parts (bytes_eq a (n x)) (is_among a (map n xs)) h).1 (omega arith)

place_len : {A : Type 0} (n : A → List ℕ) (xs : List A) (k : ℕ) (d : A) → k < length xs → are_distinct (map n xs) ≡ true → position_or_len (λ x. bytes_eq (n (get_or xs k d)) (n x)) xs ≡ k
place_len n [] k d lt h = absurd (omega arith)
place_len n (x ∷ xs) zero d lt h = rw (same_bytes (n x)) refl
place_len n (x ∷ xs) (suc k) d lt h =
    let parts = and_parts (not (is_among (n x) (map n xs))) (are_distinct (map n xs)) h in
    let within : k < length xs = omega arith in
    let other = other_way (n x) (n (get_or xs k d)) (among_at n (n x) xs k d (not-true (is_among (n x) (map n xs)) parts.0) within) in
    rw (other, place_len n xs k d within parts.1) (omega arith)

-- a name stands at its place
pub placed_at : {A : Type 0} (n : A → List ℕ) (xs : List A) (k : ℕ) (d : A) → k < length xs → are_distinct (map n xs) ≡ true → position (λ x. bytes_eq (n (get_or xs k d)) (n x)) xs ≡ Some k
placed_at n xs k d lt h =
    let is : nat_lt k (length xs) ≡ true = lt-ltb _ _ lt in
    rw (place_len n xs k d lt h, is) refl

-- a name that is there has a place

some_by : {A : Type 0} (n : A → List ℕ) (name : List ℕ) (x : A) (xs : List A) (t : Bool) → t || is_among name (map n xs) ≡ true → (is_among name (map n xs) ≡ true → position_or_len (λ x. bytes_eq name (n x)) xs < length xs) → cond (not t) (1 + position_or_len (λ x. bytes_eq name (n x)) xs) 0 < length (x ∷ xs)
some_by n name x xs true h more = omega arith
some_by n name x xs false h more = omega (arith, more h)

some_len : {A : Type 0} (n : A → List ℕ) (name : List ℕ) (xs : List A) → is_among name (map n xs) ≡ true → position_or_len (λ x. bytes_eq name (n x)) xs < length xs
some_len n name [] h = absurd (cc)
some_len n name (x ∷ xs) h = some_by n name x xs (bytes_eq name (n x)) h (some_len n name xs)

pub placed_somewhere : {A : Type 0} (n : A → List ℕ) (name : List ℕ) (xs : List A) → is_among name (map n xs) ≡ true → nat_lt (position_or_len (λ x. bytes_eq name (n x)) xs) (length xs) ≡ true
placed_somewhere n name xs h = lt-ltb _ _ (some_len n name xs h)
