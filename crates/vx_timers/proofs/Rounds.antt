-- A round and the next one: the least, the first that has come, and one that is changed.
use mathlib.Core.Bool.{or-false}
use Rattle.std.proofs.Common.{◌≡◌, ℕ, zero, suc, ◌+◌, ◌*◌, ◌/◌, ◌-◌, ◌<◌, ◌≤◌, List, [], ◌∷◌, true, false, ◌||◌, Option, Some, None, IfSome, length, position, replicate, slice_index_or, slice_set, nat_le, refl, ap, sym, ◌∙◌, arith, subst, inl, inr}
use Rattle.std.proofs.lemmas.Bool.{cases_eq, cases_lt, false≢true, or_parts}
use Rattle.std.proofs.lemmas.Bool.Decides.{nat_tests}
use Rattle.std.proofs.lemmas.List.{ext_get_or, get_or-set_same, get_or-set_other, get_or_past, length-set, length-replicate}
use Rattle.std.proofs.lemmas.List.Quantifiers.{position-Some}
use Rattle.vx_timers.proofs.Position.{none_passes, none_position, some_position}
use Rattle.vx_timers.specs.Rounds.{IsNext, is_by, least_of, lesser_of, winners}

-- The lesser of two.

lesser_none : (a : Option ℕ) → lesser_of a None ≡ a
lesser_none None = refl
lesser_none (Some a) = refl

lesser_three : (a b c : ℕ) → lesser_of (lesser_of (Some a) (Some b)) (Some c) ≡ lesser_of (Some a) (lesser_of (Some b) (Some c))
lesser_three a b c = grind (arith, nat_tests)

lesser_assoc : (a b c : Option ℕ) → lesser_of (lesser_of a b) c ≡ lesser_of a (lesser_of b c)
lesser_assoc None b c = refl
lesser_assoc (Some a) None c = refl
lesser_assoc (Some a) (Some b) None = lesser_none (lesser_of (Some a) (Some b))
lesser_assoc (Some a) (Some b) (Some c) = lesser_three a b c

by_lesser_two : (now a b : ℕ) → is_by now (lesser_of (Some a) (Some b)) ≡ (nat_le a now || nat_le b now)
by_lesser_two now a b = grind (arith, nat_tests)

-- the lesser of two has come if one of them has
by_lesser : (now : ℕ) (a b : Option ℕ) → is_by now (lesser_of a b) ≡ (is_by now a || is_by now b)
by_lesser now None b = refl
by_lesser now (Some a) None = sym (or-false (nat_le a now))
by_lesser now (Some a) (Some b) = by_lesser_two now a b

-- A round and the next.

pub least_winners : (times : List (Option ℕ)) → least_of (winners times) ≡ least_of times
least_winners [] = refl
least_winners (a ∷ []) = refl
least_winners (a ∷ b ∷ times) = ap (lesser_of (lesser_of a b)) (least_winners times) ∙ lesser_assoc a b (least_of times)

pub length_winners : (times : List (Option ℕ)) → (length times ≤ 2 * length (winners times)) × (2 * length (winners times) ≤ length times + 1)
length_winners [] = (omega arith, omega arith)
length_winners (a ∷ []) = (omega arith, omega arith)
length_winners (a ∷ b ∷ times) = let rest = length_winners times in (omega (arith, rest.0), omega (arith, rest.1))

abbrev at : List (Option ℕ) → ℕ → Option ℕ
at times k = slice_index_or times k None

pub at_winners : (times : List (Option ℕ)) (k : ℕ) → at (winners times) k ≡ lesser_of (at times (2 * k)) (at times (2 * k + 1))
at_winners [] k = refl
at_winners (a ∷ []) zero = sym (lesser_none a)
at_winners (a ∷ []) (suc k) =
    let e : 2 * suc k ≡ suc (suc (2 * k)) = omega arith in
    let f : suc (suc (2 * k)) + 1 ≡ suc (suc (suc (2 * k))) = omega arith in
    rw (e, f) refl
at_winners (a ∷ b ∷ times) zero = refl
at_winners (a ∷ b ∷ times) (suc k) =
    let e : 2 * suc k ≡ suc (suc (2 * k)) = omega arith in
    let f : 2 * suc k + 1 ≡ suc (suc (2 * k + 1)) = omega arith in
    at_winners times k ∙ ap (λ n. lesser_of (at (a ∷ b ∷ times) n) (at times (2 * k + 1))) (sym e) ∙ ap (λ n. lesser_of (at (a ∷ b ∷ times) (2 * suc k)) (at (a ∷ b ∷ times) n)) (sym f)

none_at : (n k : ℕ) → at (replicate n None) k ≡ None
none_at zero k = refl
none_at (suc n) zero = refl
none_at (suc n) (suc k) = none_at n k

pub winners_none : (n : ℕ) → replicate (n - n / 2) None ≡ winners (replicate n None)
winners_none n =
    let l = length-replicate {A = Option ℕ} n None in
    let m = length-replicate {A = Option ℕ} (n - n / 2) None in
    let w = length_winners (replicate n None) in
    ext_get_or None (replicate (n - n / 2) None) (winners (replicate n None)) (omega (arith, l, m, w.0, w.1))
    (λ k _. none_at (n - n / 2) k ∙ sym (at_winners (replicate n None) k ∙ (ap (λ o. lesser_of o (at (replicate n None) (2 * k + 1))) (none_at n (2 * k)) ∙ none_at n (2 * k + 1))))

-- One time changed.

pair_same : (times : List (Option ℕ)) (i k : ℕ) (a : Option ℕ) → (k ≡ i / 2 → ⊥) → lesser_of (at times (2 * k)) (at times (2 * k + 1)) ≡ lesser_of (at (slice_set times i a) (2 * k)) (at (slice_set times i a) (2 * k + 1))
pair_same times i k a other =
    let left = get_or-set_other times i (2 * k) a None (λ e. other (omega (arith, e))) in
    let right = get_or-set_other times i (2 * k + 1) a None (λ e. other (omega (arith, e))) in
    sym (ap (λ o. lesser_of o (at (slice_set times i a) (2 * k + 1))) left ∙ ap (lesser_of (at times (2 * k))) right)

winner_same : (times : List (Option ℕ)) (i k : ℕ) (a : Option ℕ) → i / 2 < length (winners times) → at (slice_set (winners times) (i / 2) (at (winners (slice_set times i a)) (i / 2))) k ≡ at (winners (slice_set times i a)) k
winner_same times i k a h =
    let ws = winners times in
    let new = winners (slice_set times i a) in
    elim (cases_eq k (i / 2)) [
      | inl same ↦ ap (at (slice_set ws (i / 2) (at new (i / 2)))) same ∙ (get_or-set_same ws (i / 2) (at new (i / 2)) None h ∙ ap (at new) (sym same))
      | inr other ↦ get_or-set_other ws (i / 2) k (at new (i / 2)) None other ∙ (at_winners times k ∙ (pair_same times i k a other ∙ sym (at_winners (slice_set times i a) k)))
    ]

pub winners_set : (times : List (Option ℕ)) (i : ℕ) (a : Option ℕ) → i < length times → slice_set (winners times) (i / 2) (at (winners (slice_set times i a)) (i / 2)) ≡ winners (slice_set times i a)
winners_set times i a h =
    let new = slice_set times i a in
    let size = length-set times i a in
    let w = length_winners times in
    let v = length_winners new in
    let top = length-set (winners times) (i / 2) (at (winners new) (i / 2)) in
    ext_get_or None (slice_set (winners times) (i / 2) (at (winners new) (i / 2))) (winners new) (omega (arith, size, w.0, w.1, v.0, v.1, top))
    (λ k _. winner_same times i k a (omega (arith, h, w.0)))

-- The first that has come.

-- if neither of two has come, this one has not
neither : (now : ℕ) (times : List (Option ℕ)) (k : ℕ) → is_by now (at (winners times) (k / 2)) ≡ false → is_by now (at times k) ≡ false
neither now times k e =
    let h = k / 2 in
    let both = or_parts (is_by now (at times (2 * h))) (is_by now (at times (2 * h + 1))) (sym (ap (is_by now) (at_winners times h) ∙ by_lesser now (at times (2 * h)) (at times (2 * h + 1))) ∙ e) in
    elim (cases_lt (2 * h) k) [
      | inl odd ↦ let same : k ≡ 2 * h + 1 = omega (arith, odd) in ap (λ n. is_by now (at times n)) same ∙ both.1
      | inr even ↦ let same : k ≡ 2 * h = omega (arith, even) in ap (λ n. is_by now (at times n)) same ∙ both.0
    ]

pub first_none : (now : ℕ) (times : List (Option ℕ)) → None ≡ position (is_by now) (winners times) → None ≡ position (is_by now) times
first_none now times e =
    let w = length_winners times in
    none_position (is_by now) times None (λ k h. neither now times k (none_passes (is_by now) (winners times) None e (k / 2) (omega (arith, h, w.0))))

pub pair_within : (now : ℕ) (times : List (Option ℕ)) (h : ℕ) → Some h ≡ position (is_by now) (winners times) → 2 * h < length times
pair_within now times h e =
    let found = position-Some (is_by now) (winners times) h None (sym e) in
    omega (arith, found.0, (length_winners times).1)

pub first_left : (now : ℕ) (times : List (Option ℕ)) (h : ℕ) → Some h ≡ position (is_by now) (winners times) → is_by now (at times (2 * h)) ≡ true → Some (2 * h) ≡ position (is_by now) times
first_left now times h e left =
    let found = position-Some (is_by now) (winners times) h None (sym e) in
    some_position (is_by now) times None (2 * h) (pair_within now times h e) left (λ k before. neither now times k (found.2 (k / 2) (omega (arith, before))))

right_by : (now : ℕ) (times : List (Option ℕ)) (h : ℕ) → Some h ≡ position (is_by now) (winners times) → is_by now (at times (2 * h)) ≡ false → is_by now (at times (2 * h + 1)) ≡ true
right_by now times h e left =
    let found = position-Some (is_by now) (winners times) h None (sym e) in
    let right = is_by now (at times (2 * h + 1)) in
    sym (ap (λ b. b || right) left) ∙ (sym (ap (is_by now) (at_winners times h) ∙ by_lesser now (at times (2 * h)) (at times (2 * h + 1))) ∙ found.1)

pub right_within : (now : ℕ) (times : List (Option ℕ)) (h : ℕ) → Some h ≡ position (is_by now) (winners times) → is_by now (at times (2 * h)) ≡ false → 2 * h + 1 < length times
right_within now times h e left =
    elim (cases_lt (2 * h + 1) (length times)) [
      | inl within ↦ within
      | inr past ↦ absurd (false≢true (sym (ap (is_by now) (get_or_past times (2 * h + 1) None past)) ∙ right_by now times h e left))
    ]

pub first_right : (now : ℕ) (times : List (Option ℕ)) (h : ℕ) → Some h ≡ position (is_by now) (winners times) → is_by now (at times (2 * h)) ≡ false → Some (2 * h + 1) ≡ position (is_by now) times
first_right now times h e left =
    let found = position-Some (is_by now) (winners times) h None (sym e) in
    let P : ℕ → Type 0 = λ k. is_by now (at times k) ≡ false in
    some_position (is_by now) times None (2 * h + 1) (right_within now times h e left) (right_by now times h e left)
    (λ k before. elim (cases_lt k (2 * h)) [
      | inl less ↦ neither now times k (found.2 (k / 2) (omega (arith, less)))
      | inr last ↦ let same : 2 * h ≡ k = omega (arith, last, before) in subst P same left
    ])

-- The next round, if there is one.
pub next_is : {X : Type 0} (times : List (Option ℕ)) (value : X → List (Option ℕ)) (o : Option X) (x : X) → o ≡ Some x → IfSome o (λ b. IsNext times (value b)) → IsNext times (value x)
next_is {X} times value o x e h = let P : Option X → Type 0 = λ o. IfSome o (λ b. IsNext times (value b)) in subst P e h
