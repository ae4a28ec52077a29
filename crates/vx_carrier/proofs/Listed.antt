-- What a test finds in a list, and what a change of the item found leaves.
use Rattle.std.proofs.Common.{◌≡◌, List, [], ◌∷◌, Bool, true, false, cond, Some, None, refl}
use Rattle.std.specs.List.{AllByRecursion, find}
use Rattle.vx_base.specs.Lists.{amend}
use Rattle.std.proofs.lemmas.Option.{same_Some}

-- if nothing passes, nothing is found
pub not_found : {A : Type 0} (p : A → Bool) (xs : List A) → AllByRecursion (λ x. p x ≡ false) xs → find p xs ≡ None
not_found p [] h = refl
not_found p (x ∷ xs) h = rw h.0 (not_found p xs h.1)

-- what is found and changed is found again
pub amended_found : {A : Type 0} (p : A → Bool) (f : A → A) (xs : List A) (y : A) → find p xs ≡ Some y → p (f y) ≡ true → find p (amend p f xs) ≡ Some (f y)
amended_found {A} p f [] y e k = absurd (let never : None ≡ Some y = e in cc)
amended_found {A} p f (x ∷ xs) y e k = at (p x) refl e (λ g. amended_found p f xs y g k)
  where
    at : (b : Bool) → p x ≡ b → cond b (Some x) (find p xs) ≡ Some y → (find p xs ≡ Some y → find p (amend p f xs) ≡ Some (f y)) → find p (cond b (f x ∷ xs) (x ∷ amend p f xs)) ≡ Some (f y)
    at true t g m = rw (same_Some x y g) (rw k refl)
    at false t g m = rw t (m g)

-- if nothing passes, what is changed so that it passes is found
pub amended_first : {A : Type 0} (q p : A → Bool) (f : A → A) (xs : List A) (y : A) → find p xs ≡ Some y → q (f y) ≡ true → AllByRecursion (λ x. q x ≡ false) xs → find q (amend p f xs) ≡ Some (f y)
amended_first {A} q p f [] y e k h = absurd (let never : None ≡ Some y = e in cc)
amended_first {A} q p f (x ∷ xs) y e k h = at (p x) e (λ g. amended_first q p f xs y g k h.1)
  where
    at : (b : Bool) → cond b (Some x) (find p xs) ≡ Some y → (find p xs ≡ Some y → find q (amend p f xs) ≡ Some (f y)) → find q (cond b (f x ∷ xs) (x ∷ amend p f xs)) ≡ Some (f y)
    at true g m = rw (same_Some x y g) (rw k refl)
    at false g m = rw h.0 (m g)
