-- Numbers that are sorted are the numbers in their places.
use Rattle.std.proofs.Common.{◌≡◌, ℕ, suc, ◌+◌, ◌<◌, ◌≤◌, ◌==◌, Bool, true, false, cond, nat_lt, List, [], ◌∷◌, refl, sym, ap, ◌∙◌, arith, ltb-true, ltb-false, eq-eqb, ne_eqb}
use Rattle.std.specs.Bool.{⊤}
use Rattle.std.specs.List.{sum_by}
use Rattle.std.specs.List.Sorted.{IsPermutation, IsNonDecreasing}
use Rattle.std.proofs.lemmas.List.Sums.{sum_by-cons}
use Rattle.std.proofs.lemmas.List.Sorted.{sum_by-IsPermutation}
use Rattle.vx_script.specs.Places.{in_place, rising}

-- how often a number stands
one_of : ℕ → ℕ → ℕ
one_of n x = cond (x == n) 1 0

abbrev count : ℕ → List ℕ → ℕ
count n xs = sum_by (one_of n) xs

-- numbers that do not fall, from at least b
abbrev Rises : ℕ → List ℕ → Type 0
Rises b [] = ⊤
Rises b (x ∷ xs) = (b ≤ x) × Rises x xs

one_itself : (n : ℕ) → one_of n n ≡ 1
unfolding one_of
one_itself n = rw (eq-eqb n n refl) refl

one_other : (n x : ℕ) → n < x → one_of n x ≡ 0
unfolding one_of
one_other n x lt = rw (ne_eqb x n (λ e. omega (arith, lt, e))) refl

none_below : (n b : ℕ) (xs : List ℕ) → n < b → Rises b xs → count n xs ≡ 0
none_below n b [] lt rises = refl
none_below n b (x ∷ xs) lt rises =
    let above : n < x = omega (arith, lt, rises.0) in
    sum_by-cons (one_of n) x xs ∙ omega (arith, one_other n x above, none_below n x xs above rises.1)

stands : (n : ℕ) (xs : List ℕ) → 0 < count n (n ∷ xs)
stands n xs = omega (arith, sum_by-cons (one_of n) n xs, one_itself n)

-- two lists that rise and have each number equally often are equal
same_rising : (b c : ℕ) (xs ys : List ℕ) → Rises b xs → Rises c ys → ((n : ℕ) → count n xs ≡ count n ys) → xs ≡ ys
same_rising b c [] [] low high same = refl
same_rising b c [] (y ∷ ys) low high same = absurd (omega (arith, stands y ys, same y))
same_rising b c (x ∷ xs) [] low high same = absurd (omega (arith, stands x xs, same x))
same_rising b c (x ∷ xs) (y ∷ ys) low high same = by (λ counts. same_rising x y xs ys low.1 high.1 counts) (nat_lt x y) (nat_lt y x) refl refl
  where
    least_left : x < y → ⊥
    least_left lt = omega (arith, stands x xs, same x, none_below x y (y ∷ ys) lt (omega arith, high.1))

    least_right : y < x → ⊥
    least_right lt = omega (arith, stands y ys, same y, none_below y x (x ∷ xs) lt (omega arith, low.1))

    rest : x ≡ y → (n : ℕ) → count n xs ≡ count n ys
    rest e n = omega (arith, same n, sum_by-cons (one_of n) x xs, sum_by-cons (one_of n) y ys, ap (one_of n) e)

    by : (((n : ℕ) → count n xs ≡ count n ys) → xs ≡ ys) → (s t : Bool) → nat_lt x y ≡ s → nat_lt y x ≡ t → x ∷ xs ≡ y ∷ ys
    by more true t p q = absurd (least_left (ltb-true x y p))
    by more false true p q = absurd (least_right (ltb-true y x q))
    by more false false p q =
        let e : x ≡ y = omega (arith, ltb-false x y p, ltb-false y x q) in
        ap (λ z. z ∷ xs) e ∙ ap (λ zs. y ∷ zs) (more (rest e))

count_in_place : (n m : ℕ) (xs : List ℕ) → count n (in_place m xs) ≡ one_of n m + count n xs
count_in_place n m [] = sum_by-cons (one_of n) m []
count_in_place n m (x ∷ xs) = by (count_in_place n m xs) (nat_lt m x)
  where
    by : count n (in_place m xs) ≡ one_of n m + count n xs → (t : Bool) → count n (cond t (m ∷ x ∷ xs) (x ∷ in_place m xs)) ≡ one_of n m + count n (x ∷ xs)
    by more true = sum_by-cons (one_of n) m (x ∷ xs)
    by more false = omega (arith, sum_by-cons (one_of n) x (in_place m xs), sum_by-cons (one_of n) x xs, more)

count_rising : (n : ℕ) (xs : List ℕ) → count n (rising xs) ≡ count n xs
count_rising n [] = refl
count_rising n (x ∷ xs) = omega (arith, count_in_place n x (rising xs), count_rising n xs, sum_by-cons (one_of n) x xs)

in_place_rises : (b m : ℕ) (xs : List ℕ) → b ≤ m → Rises b xs → Rises b (in_place m xs)
in_place_rises b m [] le rises = (le, tt)
in_place_rises b m (x ∷ xs) le rises = by (λ below. in_place_rises x m xs below rises.1) (nat_lt m x) refl
  where
    by : (x ≤ m → Rises x (in_place m xs)) → (t : Bool) → nat_lt m x ≡ t → Rises b (cond t (m ∷ x ∷ xs) (x ∷ in_place m xs))
    by more true p = (le, (omega (arith, ltb-true m x p), rises.1))
    by more false p = (rises.0, more (ltb-false m x p))

rising_rises : (xs : List ℕ) → Rises 0 (rising xs)
rising_rises [] = tt
rising_rises (x ∷ xs) = in_place_rises 0 x (rising xs) (omega arith) (rising_rises xs)

rises_from : (b : ℕ) (xs : List ℕ) → IsNonDecreasing (b ∷ xs) → Rises b xs
rises_from b [] h = tt
rises_from b (x ∷ xs) h = (h 0 1 0 (omega arith) (omega arith), rises_from x xs (λ i j d le lt. h (suc i) (suc j) d (omega (arith, le)) (omega (arith, lt))))

rises_all : (xs : List ℕ) → IsNonDecreasing xs → Rises 0 xs
rises_all [] h = tt
rises_all (x ∷ xs) h = (omega arith, rises_from x xs h)

-- numbers in another order that do not fall are the numbers in their places
pub sorted_is_rising : (xs ys : List ℕ) → IsPermutation xs ys → IsNonDecreasing ys → ys ≡ rising xs
sorted_is_rising xs ys moved up = same_rising 0 0 ys (rising xs) (rises_all ys up) (rising_rises xs) (λ n. sum_by-IsPermutation (one_of n) xs ys moved ∙ sym (count_rising n xs))
