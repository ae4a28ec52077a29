-- The items of a list that pass a test: the first of them, and then the rest.
use Rattle.std.proofs.Common.{◌≡◌, ℕ, ◌+◌, ◌≤◌, List, [], ◌∷◌, Bool, true, false, cond, ◌==◌, Some, None, length, ap, sym, ◌∙◌, refl, arith}
use Rattle.std.specs.List.{filter, find}
use Rattle.std.proofs.lemmas.Bool.{eq-eqb, eqb-true, false_from_ne_true}
use Rattle.vx_base.specs.Lists.{amend, less}
use Rattle.vx_record.specs.Sound.{AreOrdered}
use Rattle.vx_record.proofs.Lists.{all_find, all_from, either}

pub filter_found : {A : Type 0} (p : A → Bool) (xs : List A) (x : A) → find p xs ≡ Some x → filter p xs ≡ x ∷ filter p (less p xs)
filter_found p [] x e = absurd (cc)
filter_found p (y ∷ ys) x e =
    elim (p y) as (λ b. p y ≡ b → cond b (Some y) (find p ys) ≡ Some x → cond b (y ∷ filter p ys) (filter p ys) ≡ x ∷ filter p (cond b ys (y ∷ less p ys))) [
      | true ↦ λ is found. let same : y ≡ x = cc in ap (λ z. z ∷ filter p ys) same
      | false ↦ λ is found. filter_found p ys x found ∙ ap (λ zs. x ∷ zs) (sym (ap (λ b. cond b (y ∷ filter p (less p ys)) (filter p (less p ys))) is))
    ] refl e

pub filter_none : {A : Type 0} (p : A → Bool) (xs : List A) → find p xs ≡ None → filter p xs ≡ []
filter_none p [] e = refl
filter_none p (y ∷ ys) e =
    elim (p y) as (λ b. cond b (Some y) (find p ys) ≡ None → cond b (y ∷ filter p ys) (filter p ys) ≡ []) [
      | true ↦ λ found. absurd (cc)
      | false ↦ λ found. filter_none p ys found
    ] e

-- in id order, what is found is the one with its id
pub less_same : {A : Type 0} (key : A → ℕ) (p : A → Bool) (low high : ℕ) (xs : List A) (x : A) → AreOrdered key low high xs → find p xs ≡ Some x → less (λ y. key y == key x) xs ≡ less p xs
less_same key p low high [] x order e = refl
less_same key p low high (y ∷ ys) x order e =
    elim (p y) as (λ b. cond b (Some y) (find p ys) ≡ Some x → cond (key y == key x) ys (y ∷ less (λ z. key z == key x) ys) ≡ cond b ys (y ∷ less p ys)) [
      | true ↦ λ found.
          let same : y ≡ x = cc in
          let is : (key y == key x) ≡ true = eq-eqb (key y) (key x) (ap key same) in
          ap (λ b. cond b ys (y ∷ less (λ z. key z == key x) ys)) is
      | false ↦ λ found.
          let above : key y + 1 ≤ key x = all_find (λ z. key y + 1 ≤ key z) p ys x (all_from key (key y + 1) high ys order.1) found in
          let isnt : (key y == key x) ≡ false = false_from_ne_true (key y == key x) (λ same. let e = eqb-true (key y) (key x) same in omega (arith, above, e)) in
          ap (λ b. cond b ys (y ∷ less (λ z. key z == key x) ys)) isnt ∙ ap (λ zs. y ∷ zs) (less_same key p (key y + 1) high ys x order.1 found)
    ] e

pub find_same : {A : Type 0} (key : A → ℕ) (p : A → Bool) (low high : ℕ) (xs : List A) (x : A) → AreOrdered key low high xs → find p xs ≡ Some x → find (λ y. key y == key x) xs ≡ Some x
find_same key p low high [] x order e = absurd (cc)
find_same key p low high (y ∷ ys) x order e =
    elim (p y) as (λ b. cond b (Some y) (find p ys) ≡ Some x → cond (key y == key x) (Some y) (find (λ z. key z == key x) ys) ≡ Some x) [
      | true ↦ λ found.
          let same : y ≡ x = cc in
          let is : (key y == key x) ≡ true = eq-eqb (key y) (key x) (ap key same) in
          ap (λ b. cond b (Some y) (find (λ z. key z == key x) ys)) is ∙ ap Some same
      | false ↦ λ found.
          let above : key y + 1 ≤ key x = all_find (λ z. key y + 1 ≤ key z) p ys x (all_from key (key y + 1) high ys order.1) found in
          let isnt : (key y == key x) ≡ false = false_from_ne_true (key y == key x) (λ same. let e = eqb-true (key y) (key x) same in omega (arith, above, e)) in
          ap (λ b. cond b (Some y) (find (λ z. key z == key x) ys)) isnt ∙ find_same key p (key y + 1) high ys x order.1 found
    ] e

pub amend_like : {A : Type 0} (key : A → ℕ) (p : A → Bool) (f : A → A) (low high : ℕ) (xs : List A) (x : A) → AreOrdered key low high xs → find p xs ≡ Some x → amend (λ y. key y == key x) f xs ≡ amend p f xs
amend_like key p f low high [] x order e = refl
amend_like key p f low high (y ∷ ys) x order e =
    elim (p y) as (λ b. cond b (Some y) (find p ys) ≡ Some x → cond (key y == key x) (f y ∷ ys) (y ∷ amend (λ z. key z == key x) f ys) ≡ cond b (f y ∷ ys) (y ∷ amend p f ys)) [
      | true ↦ λ found.
          let same : y ≡ x = cc in
          let is : (key y == key x) ≡ true = eq-eqb (key y) (key x) (ap key same) in
          ap (λ b. cond b (f y ∷ ys) (y ∷ amend (λ z. key z == key x) f ys)) is
      | false ↦ λ found.
          let above : key y + 1 ≤ key x = all_find (λ z. key y + 1 ≤ key z) p ys x (all_from key (key y + 1) high ys order.1) found in
          let isnt : (key y == key x) ≡ false = false_from_ne_true (key y == key x) (λ same. let e = eqb-true (key y) (key x) same in omega (arith, above, e)) in
          ap (λ b. cond b (f y ∷ ys) (y ∷ amend (λ z. key z == key x) f ys)) isnt ∙ ap (λ zs. y ∷ zs) (amend_like key p f (key y + 1) high ys x order.1 found)
    ] e

-- a list without one item has no more items, and no more of those that pass
pub less_few : {A : Type 0} (p : A → Bool) (xs : List A) → length (less p xs) ≤ length xs
less_few p [] = omega arith
less_few p (x ∷ xs) = let rest = less_few p xs in either (λ ys. length ys ≤ length (x ∷ xs)) (p x) xs (x ∷ less p xs) (omega arith) (omega (arith, rest))
