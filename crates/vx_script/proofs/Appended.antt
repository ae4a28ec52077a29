-- Lists of which all pass a test, and lists with one more at the end.
use Rattle.std.proofs.Common.{◌≡◌, ℕ, Bool, true, false, cond, not, ◌&&◌, ◌||◌, ◌==◌, nat_lt, nat_le, List, [], ◌∷◌, ◌++◌, length, flat_map, Some, None, find, bytes_eq, refl, sym, ◌∙◌, arith, length-append}
use Rattle.std.specs.List.{list_all, list_any}
use Rattle.std.proofs.lemmas.Bool.{and_parts, and_from, or_parts, or_from, not_from_false, ltb-true, le-leb, eqb-true, eq-eqb, not-true}
use Rattle.std.proofs.lemmas.List.Folds.{list_all-append, list_any-append}
use Rattle.std.proofs.lemmas.Slice.Eq.{bytes_eq-Decides}
use Rattle.std.specs.Cmp.{both_ways as same_bools}
use Rattle.vx_base.proofs.Any.{all_weaker}
use Rattle.vx_image.specs.WellFormed.{is_among, are_distinct, falls_nowhere}

pub all_both : {A : Type 0} (p : A → Bool) (xs ys : List A) → list_all p (xs ++ ys) ≡ true → (list_all p xs ≡ true) × (list_all p ys ≡ true)
all_both p xs ys h = and_parts (list_all p xs) (list_all p ys) (sym (list_all-append p xs ys) ∙ h)

-- one more if fewer than so many are there
pub few_push : {A : Type 0} (most : ℕ) (xs : List A) (x : A) → nat_lt (length xs) most ≡ true → nat_le (length (xs ++ x ∷ [])) most ≡ true
few_push most xs x h = le-leb _ _ (omega (arith, ltb-true (length xs) most h, length-append xs (x ∷ [])))

-- what is not found: all fail the test
pub unfound : {A : Type 0} (p : A → Bool) (xs : List A) → find p xs ≡ None → list_all (λ x. not (p x)) xs ≡ true
unfound p [] h = refl
unfound p (x ∷ xs) h = by (p x) h (unfound p xs)
  where
    by : (t : Bool) → cond t (Some x) (find p xs) ≡ None → (find p xs ≡ None → list_all (λ x. not (p x)) xs ≡ true)
        → not t && list_all (λ x. not (p x)) xs ≡ true
    by true e k = cc
    by false e k = k e

pub none_any : {A : Type 0} (p : A → Bool) (xs : List A) → list_any p xs ≡ false → list_all (λ x. not (p x)) xs ≡ true
none_any p [] h = refl
none_any p (x ∷ xs) h =
    let parts = or_parts (p x) (list_any p xs) h in
    and_from (not (p x)) (list_all (λ x. not (p x)) xs) (not_from_false (p x) parts.0) (none_any p xs parts.1)

-- all that a list's items give pass
pub all_flat : {A B : Type 0} (p : A → Bool) (q : B → Bool) (f : A → List B) → ((x : A) → p x ≡ true → list_all q (f x) ≡ true)
    → (xs : List A) → list_all p xs ≡ true → list_all q (flat_map f xs) ≡ true
all_flat p q f k [] h = refl
all_flat p q f k (x ∷ xs) h =
    let parts = and_parts (p x) (list_all p xs) h in
    list_all-append q (f x) (flat_map f xs) ∙ and_from (list_all q (f x)) (list_all q (flat_map f xs)) (k x parts.0) (all_flat p q f k xs parts.1)

-- what holds of each pair of two lists
pub all_pairs : {A B : Type 0} (r : A → B → Bool) (xs : List A) (ys : List B) → list_all (λ x. list_all (r x) ys) xs ≡ true
    → list_all (λ y. list_all (λ x. r x y) xs) ys ≡ true
all_pairs r xs [] h = refl
all_pairs r xs (y ∷ ys) h =
    and_from (list_all (λ x. r x y) xs) (list_all (λ y. list_all (λ x. r x y) xs) ys)
    (all_weaker (λ x. r x y && list_all (r x) ys) (λ x. r x y) (λ x k. (and_parts (r x y) (list_all (r x) ys) k).0) xs h)
    (all_pairs r xs ys (all_weaker (λ x. r x y && list_all (r x) ys) (λ x. list_all (r x) ys) (λ x k. (and_parts (r x y) (list_all (r x) ys) k).1) xs h))

-- Names.

pub same_back : (a b : List ℕ) → bytes_eq a b ≡ bytes_eq b a
same_back a b =
    same_bools (bytes_eq a b) (bytes_eq b a) (λ e. (bytes_eq-Decides b a).1 (sym ((bytes_eq-Decides a b).0 e)))
    (λ e. (bytes_eq-Decides a b).1 (sym ((bytes_eq-Decides b a).0 e)))

pub distinct_push : (names : List (List ℕ)) (name : List ℕ) → are_distinct names ≡ true → is_among name names ≡ false → are_distinct (names ++ name ∷ []) ≡ true
distinct_push [] name h k = refl
distinct_push (n ∷ ns) name h k =
    let parts = and_parts (not (is_among n ns)) (are_distinct ns) h in
    let apart = or_parts (bytes_eq name n) (is_among name ns) k in
    let old : is_among n ns ≡ false = not-true (is_among n ns) parts.0 in
    let new : is_among n (ns ++ name ∷ []) ≡ false =
    list_any-append (bytes_eq n) ns (name ∷ []) ∙ or_from (is_among n ns) (bytes_eq n name || false) old
    (or_from (bytes_eq n name) false (same_back n name ∙ apart.0) refl) in
    and_from (not (is_among n (ns ++ name ∷ []))) (are_distinct (ns ++ name ∷ [])) (not_from_false _ new) (distinct_push ns name parts.1 apart.1)

-- Numbers.

pub equal_back : (a b : ℕ) → (a == b) ≡ (b == a)
equal_back a b = same_bools (a == b) (b == a) (λ e. eq-eqb b a (sym (eqb-true a b e))) (λ e. eq-eqb a b (sym (eqb-true b a e)))

pub falls_push : (n : ℕ) (ps : List ℕ) (q : ℕ) → falls_nowhere n ps ≡ true → nat_le n q ≡ true → list_all (λ p. nat_le p q) ps ≡ true
    → falls_nowhere n (ps ++ q ∷ []) ≡ true
falls_push n [] q h k all = and_from (nat_le n q) true k refl
falls_push n (p ∷ ps) q h k all =
    let parts = and_parts (nat_le n p) (falls_nowhere p ps) h in
    let below = and_parts (nat_le p q) (list_all (λ p. nat_le p q) ps) all in
    and_from (nat_le n p) (falls_nowhere p (ps ++ q ∷ [])) parts.0 (falls_push p ps q parts.1 below.0 below.1)
