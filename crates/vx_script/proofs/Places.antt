-- Where a name stands in a list.
use Rattle.std.proofs.Common.{◌≡◌, ℕ, ◌+◌, ◌<◌, Bool, true, false, cond, ◌||◌, nat_lt, List, [], ◌∷◌, length, Option, Some, None, is_some, position, refl, ap, ◌∙◌, unwrap_or}
use Rattle.std.specs.List.{list_any, position_from, position_or_len}
use Rattle.std.proofs.lemmas.Bool.{ltb-true}
use Rattle.std.proofs.lemmas.Iterator.Adapters.{position_from-zero}
use Rattle.vx_base.proofs.Bools.{either_by}

some_from : {A : Type 0} (p : A → Bool) (i : ℕ) (xs : List A) → is_some (position_from p i xs) ≡ list_any p xs
some_from p i [] = refl
some_from p i (x ∷ xs) = by (p x) (some_from p (i + 1) xs)
  where
    by : (t : Bool) → is_some (position_from p (i + 1) xs) ≡ list_any p xs → is_some (cond t (Some i) (position_from p (i + 1) xs)) ≡ t || list_any p xs
    by true h = refl
    by false h = h

-- there is a place if one passes
pub has_place : {A : Type 0} (p : A → Bool) (xs : List A) → is_some (position p xs) ≡ list_any p xs
has_place p xs = ap (λ (o : Option ℕ). is_some o) (position_from-zero p xs) ∙ some_from p 0 xs

-- a place that is there is below the length
pub placed : {A : Type 0} (p : A → Bool) (xs : List A) → is_some (position p xs) ≡ true → nat_lt (unwrap_or (position p xs) 0) (length xs) ≡ true
placed p xs =
    either_by (λ (o : Option ℕ). is_some o ≡ true → nat_lt (unwrap_or o 0) (length xs) ≡ true) (nat_lt (position_or_len p xs) (length xs))
    (Some (position_or_len p xs)) None (λ e h. e) (λ e h. cc)

-- a place that is there is that of the first that passes
pub first_placed : {A : Type 0} (p : A → Bool) (xs : List A) (k : ℕ) → position p xs ≡ Some k → (position_or_len p xs ≡ k) × (position_or_len p xs < length xs)
first_placed p xs k =
    either_by (λ (o : Option ℕ). o ≡ Some k → (position_or_len p xs ≡ k) × (position_or_len p xs < length xs)) (nat_lt (position_or_len p xs) (length xs))
    (Some (position_or_len p xs)) None (λ e h. (cc, ltb-true (position_or_len p xs) (length xs) e)) (λ e h. cc)
