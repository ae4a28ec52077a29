-- The first item that passes a test: found, taken out and changed.
use Rattle.std.proofs.Common.{◌≡◌, ℕ, ◌+◌, ◌<◌, ◌≤◌, List, [], ◌∷◌, Bool, true, false, cond, not, Some, None, length, remove, position, slice_index_or, slice_set, refl, ap, sym, ◌∙◌, arith, suc, nat_lt, map}
use Rattle.std.specs.List.{find, position_or_len, AllByRecursion}
use Rattle.std.proofs.lemmas.Bool.{ltb-true, ltb-false}
use Rattle.std.proofs.lemmas.Option.{cond_some, same_Some}
use Rattle.std.proofs.lemmas.List.{length-map}
use Rattle.vx_base.specs.Lists.{less, amend}

-- a step past an item that does not pass
remove_past : {X : Type 0} (x : X) (xs : List X) (n : ℕ) → remove (x ∷ xs) (1 + n) ≡ x ∷ remove xs n
remove_past x xs n = let e : 1 + n ≡ suc n = omega arith in rw e refl

get_past : {X : Type 0} (x : X) (xs : List X) (n : ℕ) (d : X) → slice_index_or (x ∷ xs) (1 + n) d ≡ slice_index_or xs n d
get_past x xs n d = let e : 1 + n ≡ suc n = omega arith in rw e refl

-- without the item at the first place that passes
remove_first : {X : Type 0} (p : X → Bool) (xs : List X) → position_or_len p xs < length xs → remove xs (position_or_len p xs) ≡ less p xs
remove_first p [] h = absurd (omega arith)
remove_first p (x ∷ xs) h =
    let P : Bool → Type 0 = λ b. cond (not b) (1 + position_or_len p xs) 0 < length (x ∷ xs) → remove (x ∷ xs) (cond (not b) (1 + position_or_len p xs) 0) ≡ cond b xs (x ∷ less p xs) in
    elim (p x) as P [
      | true ↦ λ _. refl
      | false ↦ λ within. remove_past x xs (position_or_len p xs) ∙ ap (λ ys. x ∷ ys) (remove_first p xs (omega arith))
    ] h

-- the item at the first place that passes
found_first : {X : Type 0} (p : X → Bool) (xs : List X) (r : X) → position_or_len p xs < length xs → r ≡ slice_index_or xs (position_or_len p xs) r → Some r ≡ find p xs
found_first p [] r h e = absurd (omega arith)
found_first p (x ∷ xs) r h e =
    let P : Bool → Type 0 = λ b. cond (not b) (1 + position_or_len p xs) 0 < length (x ∷ xs) → r ≡ slice_index_or (x ∷ xs) (cond (not b) (1 + position_or_len p xs) 0) r → Some r ≡ cond b (Some x) (find p xs) in
    elim (p x) as P [
      | true ↦ λ _ is. ap Some is
      | false ↦ λ within is. found_first p xs r (omega arith) (is ∙ get_past x xs (position_or_len p xs) r)
    ] h e

-- if none passes
none_first : {X : Type 0} (p : X → Bool) (xs : List X) → length xs ≤ position_or_len p xs → (None ≡ find p xs) × (xs ≡ less p xs)
none_first p [] h = (refl, refl)
none_first p (x ∷ xs) h =
    let P : Bool → Type 0 = λ b. length (x ∷ xs) ≤ cond (not b) (1 + position_or_len p xs) 0 → (None ≡ cond b (Some x) (find p xs)) × (x ∷ xs ≡ cond b xs (x ∷ less p xs)) in
    elim (p x) as P [
      | true ↦ λ beyond. absurd (omega arith)
      | false ↦ λ beyond. let rest = none_first p xs (omega arith) in (rest.0, ap (λ ys. x ∷ ys) rest.1)
    ] h

-- what a place that was looked for tells
pub none_place : (b : Bool) (n : ℕ) → None ≡ cond b (Some n) None → b ≡ false
none_place true n e = absurd (cc)
none_place false n e = refl

pub found_at : {X : Type 0} (p : X → Bool) (xs : List X) (i : ℕ) (r : X) → Some i ≡ position p xs → r ≡ slice_index_or xs i r → Some r ≡ find p xs
found_at p xs i r place is =
    let there = cond_some (nat_lt (position_or_len p xs) (length xs)) (position_or_len p xs) i (sym place) in
    found_first p xs r (ltb-true _ _ there.0) (is ∙ ap (λ n. slice_index_or xs n r) (sym there.1))

pub less_at : {X : Type 0} (p : X → Bool) (xs : List X) (i : ℕ) → Some i ≡ position p xs → remove xs i ≡ less p xs
less_at p xs i place =
    let there = cond_some (nat_lt (position_or_len p xs) (length xs)) (position_or_len p xs) i (sym place) in
    ap (remove xs) (sym there.1) ∙ remove_first p xs (ltb-true _ _ there.0)

pub none_at : {X : Type 0} (p : X → Bool) (xs : List X) → None ≡ position p xs → (None ≡ find p xs) × (xs ≡ less p xs)
none_at p xs place = none_first p xs (ltb-false _ _ (none_place (nat_lt (position_or_len p xs) (length xs)) (position_or_len p xs) place))

-- what is found passes
pub found_passes : {X : Type 0} (p : X → Bool) (xs : List X) (x : X) → find p xs ≡ Some x → p x ≡ true
found_passes p [] x e = absurd (cc)
found_passes p (y ∷ ys) x e =
    elim (p y) as (λ b. p y ≡ b → cond b (Some y) (find p ys) ≡ Some x → p x ≡ true) [
      | true ↦ λ is found. cc
      | false ↦ λ is found. found_passes p ys x found
    ] refl e

-- if none is found, none is taken out
pub less_none : {X : Type 0} (p : X → Bool) (xs : List X) → find p xs ≡ None → less p xs ≡ xs
less_none p [] e = refl
less_none p (y ∷ ys) e =
    elim (p y) as (λ b. cond b (Some y) (find p ys) ≡ None → cond b ys (y ∷ less p ys) ≡ y ∷ ys) [
      | true ↦ λ found. absurd (cc)
      | false ↦ λ found. ap (λ zs. y ∷ zs) (less_none p ys found)
    ] e

set_past : {X : Type 0} (x : X) (xs : List X) (n : ℕ) (y : X) → slice_set (x ∷ xs) (1 + n) y ≡ x ∷ slice_set xs n y
set_past x xs n y = let e : 1 + n ≡ suc n = omega arith in rw e refl

amend_first : {X : Type 0} (p : X → Bool) (g : X → X) (xs : List X) (d y : X) → position_or_len p xs < length xs → y ≡ g (slice_index_or xs (position_or_len p xs) d) → slice_set xs (position_or_len p xs) y ≡ amend p g xs
amend_first p g [] d y h e = absurd (omega arith)
amend_first p g (x ∷ xs) d y h e =
    let n = position_or_len p xs in
    let P : Bool → Type 0 = λ b. let at : ℕ = cond (not b) (1 + n) 0 in at < length (x ∷ xs) → y ≡ g (slice_index_or (x ∷ xs) at d) → slice_set (x ∷ xs) at y ≡ cond b (g x ∷ xs) (x ∷ amend p g xs) in
    elim (p x) as P [
      | true ↦ λ _ is. ap (λ z. z ∷ xs) is
      | false ↦ λ within is. set_past x xs n y ∙ ap (λ zs. x ∷ zs) (amend_first p g xs d y (omega arith) (is ∙ ap g (get_past x xs n d)))
    ] h e

-- the first that passes changed at its place
pub amend_at : {X : Type 0} (p : X → Bool) (g : X → X) (xs : List X) (i : ℕ) (d y : X) → Some i ≡ position p xs → y ≡ g (slice_index_or xs i d) → slice_set xs i y ≡ amend p g xs
amend_at p g xs i d y place is =
    let there = cond_some (nat_lt (position_or_len p xs) (length xs)) (position_or_len p xs) i (sym place) in
    ap (λ n. slice_set xs n y) (sym there.1) ∙ amend_first p g xs d y (ltb-true _ _ there.0) (is ∙ ap (λ n. g (slice_index_or xs n d)) (sym there.1))

pub amend_nowhere : {X : Type 0} (p : X → Bool) (g : X → X) (xs : List X) → None ≡ find p xs → xs ≡ amend p g xs
amend_nowhere p g [] e = refl
amend_nowhere p g (x ∷ xs) e =
    elim (p x) as (λ b. None ≡ cond b (Some x) (find p xs) → x ∷ xs ≡ cond b (g x ∷ xs) (x ∷ amend p g xs)) [
      | true ↦ λ found. absurd (cc)
      | false ↦ λ found. ap (λ ys. x ∷ ys) (amend_nowhere p g xs found)
    ] e

-- if none passes, none is changed
pub amend_none : {X : Type 0} (p : X → Bool) (g : X → X) (xs : List X) → None ≡ position p xs → xs ≡ amend p g xs
amend_none p g xs place = amend_nowhere p g xs (none_at p xs place).0

-- if the change leaves the one that is found as it was, it changes nothing
pub amend_same : {X : Type 0} (p : X → Bool) (g : X → X) (xs : List X) (x : X) → find p xs ≡ Some x → g x ≡ x → xs ≡ amend p g xs
amend_same p g [] x e same = refl
amend_same p g (y ∷ ys) x e same =
    elim (p y) as (λ b. cond b (Some y) (find p ys) ≡ Some x → y ∷ ys ≡ cond b (g y ∷ ys) (y ∷ amend p g ys)) [
      | true ↦ λ found. let is : g y ≡ y = cc in ap (λ z. z ∷ ys) (sym is)
      | false ↦ λ found. ap (λ zs. y ∷ zs) (amend_same p g ys x found same)
    ] e

pub amend_found : {A : Type 0} (P : A → Type 0) (p : A → Bool) (f : A → A) (xs : List A) (y : A) → find p xs ≡ Some y → P (f y) → AllByRecursion P xs → AllByRecursion P (amend p f xs)
amend_found P p f [] y e k h = tt
amend_found {A} P p f (x ∷ xs) y e k h = at (p x) e (λ g. amend_found P p f xs y g k h.1)
  where
    at : (b : Bool) → cond b (Some x) (find p xs) ≡ Some y → (find p xs ≡ Some y → AllByRecursion P (amend p f xs)) → AllByRecursion P (cond b (f x ∷ xs) (x ∷ amend p f xs))
    at true g m = (rw (same_Some x y g) k, h.1)
    at false g m = (h.0, m g)

-- a place is read off what is made of each

first_map : {A B : Type 0} (p : B → Bool) (f : A → B) (xs : List A) → position_or_len p (map f xs) ≡ position_or_len (λ x. p (f x)) xs
first_map p f [] = refl
first_map p f (x ∷ xs) = ap (λ n. cond (not (p (f x))) (1 + n) 0) (first_map p f xs)

pub place_map : {A B : Type 0} (p : B → Bool) (f : A → B) (xs : List A) → position (λ x. p (f x)) xs ≡ position p (map f xs)
place_map p f xs = rw (first_map p f xs, length-map xs f) refl
