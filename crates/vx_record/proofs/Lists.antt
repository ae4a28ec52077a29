-- Facts that hold of each of a list, and ids that rise.
use Rattle.std.proofs.Common.{◌≡◌, ◌≢◌, ℕ, zero, suc, ◌+◌, ◌<◌, ◌≤◌, List, [], ◌∷◌, ◌++◌, Bool, true, false, cond, ◌==◌, length, Option, Some, None, is_some, IfSome, get_or, set, refl, arith}
use Rattle.std.specs.List.{AllByRecursion, filter, find, list_any}
use Rattle.std.specs.Prelude.{option_map}
use Rattle.std.proofs.lemmas.Bool.{eq-eqb, eqb-true, or_parts}
use Rattle.vx_base.specs.Lists.{less, amend}
use Rattle.vx_record.specs.Sound.{AreOrdered}
pub use Rattle.vx_base.proofs.Any.{none_any}
pub use Rattle.vx_base.proofs.Bools.{either_by}

-- what holds of both holds of the one that is chosen
pub either : {A : Type 0} (P : A → Type 0) (b : Bool) (x y : A) → P x → P y → P (cond b x y)
either P true x y h k = h
either P false x y h k = k

pub all_weaker : {A : Type 0} (P Q : A → Type 0) → ((x : A) → P x → Q x) → (xs : List A) → AllByRecursion P xs → AllByRecursion Q xs
all_weaker P Q f [] h = tt
all_weaker P Q f (x ∷ xs) h = (f x h.0, all_weaker P Q f xs h.1)

pub all_both : {A : Type 0} (P Q : A → Type 0) (xs : List A) → AllByRecursion P xs → AllByRecursion Q xs → AllByRecursion (λ x. P x × Q x) xs
all_both P Q [] h k = tt
all_both P Q (x ∷ xs) h k = ((h.0, k.0), all_both P Q xs h.1 k.1)

pub all_append : {A : Type 0} (P : A → Type 0) (xs ys : List A) → AllByRecursion P xs → AllByRecursion P ys → AllByRecursion P (xs ++ ys)
all_append P [] ys h k = k
all_append P (x ∷ xs) ys h k = (h.0, all_append P xs ys h.1 k)

pub all_less : {A : Type 0} (P : A → Type 0) (p : A → Bool) (xs : List A) → AllByRecursion P xs → AllByRecursion P (less p xs)
all_less P p [] h = tt
all_less P p (x ∷ xs) h = either (AllByRecursion P) (p x) xs (x ∷ less p xs) h.1 (h.0, all_less P p xs h.1)

pub all_filter : {A : Type 0} (P : A → Type 0) (p : A → Bool) (xs : List A) → AllByRecursion P xs → AllByRecursion P (filter p xs)
all_filter P p [] h = tt
all_filter P p (x ∷ xs) h = either (AllByRecursion P) (p x) (x ∷ filter p xs) (filter p xs) (h.0, all_filter P p xs h.1) (all_filter P p xs h.1)

pub all_set : {A : Type 0} (P : A → Type 0) (xs : List A) (i : ℕ) (y d : A) → (P (get_or xs i d) → P y) → AllByRecursion P xs → AllByRecursion P (set xs i y)
all_set P [] i y d f h = tt
all_set P (x ∷ xs) zero y d f h = (f h.0, h.1)
all_set P (x ∷ xs) (suc i) y d f h = (h.0, all_set P xs i y d f h.1)

pub all_at : {A : Type 0} (P : A → Type 0) (xs : List A) (i : ℕ) (d : A) → AllByRecursion P xs → i < length xs → P (get_or xs i d)
all_at P [] i d h k = absurd (omega arith)
all_at P (x ∷ xs) zero d h k = h.0
all_at P (x ∷ xs) (suc i) d h k = all_at P xs i d h.1 (omega arith)

pub all_amend : {A : Type 0} (P : A → Type 0) (p : A → Bool) (f : A → A) → ((x : A) → P x → P (f x)) → (xs : List A) → AllByRecursion P xs → AllByRecursion P (amend p f xs)
all_amend P p f k [] h = tt
all_amend P p f k (x ∷ xs) h = either (AllByRecursion P) (p x) (f x ∷ xs) (x ∷ amend p f xs) (k x h.0, h.1) (h.0, all_amend P p f k xs h.1)

-- what is found has what all have, and passes the test
pub all_find : {A : Type 0} (P : A → Type 0) (p : A → Bool) (xs : List A) (x : A) → AllByRecursion P xs → find p xs ≡ Some x → P x
all_find P p [] x h e = cc
all_find P p (y ∷ ys) x h e =
    either_by (λ (o : Option _). o ≡ Some x → P x) (p y) (Some y) (find p ys) (λ t same. let is : y ≡ x = cc in rw (← is) h.0) (λ f same. all_find P p ys x h.1 same) e

pub all_get : {A : Type 0} (P : A → Type 0) (xs : List A) (i : ℕ) (d : A) → P d → AllByRecursion P xs → P (get_or xs i d)
all_get P [] i d e h = e
all_get P (x ∷ xs) zero d e h = h.0
all_get P (x ∷ xs) (suc i) d e h = all_get P xs i d e h.1

-- the same of an option
pub some_found : {A : Type 0} (P : A → Type 0) (p : A → Bool) (xs : List A) → AllByRecursion P xs → IfSome (find p xs) P
some_found P p [] h = tt
some_found P p (x ∷ xs) h = either (λ (o : Option _). IfSome o P) (p x) (Some x) (find p xs) h.0 (some_found P p xs h.1)

-- what both have together each has

pub all_first : {A : Type 0} (P : A → Type 0) (xs ys : List A) → AllByRecursion P (xs ++ ys) → AllByRecursion P xs
all_first P [] ys h = tt
all_first P (x ∷ xs) ys h = (h.0, all_first P xs ys h.1)

pub all_last : {A : Type 0} (P : A → Type 0) (xs ys : List A) → AllByRecursion P (xs ++ ys) → AllByRecursion P ys
all_last P [] ys h = h
all_last P (x ∷ xs) ys h = all_last P xs ys h.1

-- whether something is found

pub mapped_some : {A B : Type 0} (f : A → B) (o : Option A) → is_some (option_map f o) ≡ is_some o
mapped_some f None = refl
mapped_some f (Some x) = refl

pub found_any : {A : Type 0} (p : A → Bool) (xs : List A) (x : A) → find p xs ≡ Some x → list_any p xs ≡ true
found_any p [] x e = cc
found_any p (y ∷ ys) x e = let rest = found_any p ys x in grind arith

pub none_found : {A : Type 0} (p : A → Bool) (xs : List A) → find p xs ≡ None → AllByRecursion (λ x. p x ≡ false) xs
none_found p [] e = tt
none_found p (y ∷ ys) e = let rest = none_found p ys in grind arith

-- Tests.

pub none_passes : {A : Type 0} (p : A → Bool) (xs : List A) → list_any p xs ≡ false → AllByRecursion (λ x. p x ≡ false) xs
none_passes p [] h = tt
none_passes p (x ∷ xs) h = let both = or_parts (p x) (list_any p xs) h in (both.0, none_passes p xs both.1)

-- Ids.

pub ordered_from : {A : Type 0} (key : A → ℕ) (low lower high : ℕ) (xs : List A) → lower ≤ low → AreOrdered key low high xs → AreOrdered key lower high xs
ordered_from key low lower high [] k h = omega arith
ordered_from key low lower high (x ∷ xs) k h = (omega (arith, h.0), h.1)

pub ordered_below : {A : Type 0} (key : A → ℕ) (low high higher : ℕ) (xs : List A) → high ≤ higher → AreOrdered key low high xs → AreOrdered key low higher xs
ordered_below key low high higher [] k h = omega arith
ordered_below key low high higher (x ∷ xs) k h = (h.0, ordered_below key (key x + 1) high higher xs k h.1)

pub ordered_less : {A : Type 0} (key : A → ℕ) (p : A → Bool) (low high : ℕ) (xs : List A) → AreOrdered key low high xs → AreOrdered key low high (less p xs)
ordered_less key p low high [] h = h
ordered_less key p low high (x ∷ xs) h =
    either (AreOrdered key low high) (p x) xs (x ∷ less p xs) (ordered_from key (key x + 1) low high xs (omega (arith, h.0)) h.1) (h.0, ordered_less key p (key x + 1) high xs h.1)

pub ordered_amend : {A : Type 0} (key : A → ℕ) (p : A → Bool) (f : A → A) → ((x : A) → key (f x) ≡ key x) → (low high : ℕ) (xs : List A) → AreOrdered key low high xs → AreOrdered key low high (amend p f xs)
ordered_amend key p f same low high [] h = h
ordered_amend key p f same low high (x ∷ xs) h =
    either (AreOrdered key low high) (p x) (f x ∷ xs) (x ∷ amend p f xs) (rw (same x) h) (h.0, ordered_amend key p f same (key x + 1) high xs h.1)

-- one more, with the next id
pub ordered_more : {A : Type 0} (key : A → ℕ) (low high : ℕ) (xs : List A) (x : A) → key x ≡ high → AreOrdered key low high xs → AreOrdered key low (high + 1) (xs ++ x ∷ [])
ordered_more key low high [] x e h = (rw e h, omega arith)
ordered_more key low high (y ∷ ys) x e h = (h.0, ordered_more key (key y + 1) high ys x e h.1)

-- all ids are from low on
pub all_from : {A : Type 0} (key : A → ℕ) (low high : ℕ) (xs : List A) → AreOrdered key low high xs → AllByRecursion (λ x. low ≤ key x) xs
all_from key low high [] h = tt
all_from key low high (x ∷ xs) h = let rest = all_from key (key x + 1) high xs h.1 in grind (arith, all_weaker)

-- without the item of an id nothing has that id
pub removed : {A : Type 0} (key : A → ℕ) (id : ℕ) (low high : ℕ) (xs : List A) → AreOrdered key low high xs → AllByRecursion (λ x. key x ≢ id) (less (λ x. key x == id) xs)
removed key id low high [] h = tt
removed key id low high (x ∷ xs) h =
    either_by (AllByRecursion (λ y. key y ≢ id)) (key x == id) xs (x ∷ less (λ y. key y == id) xs)
    (λ e. all_weaker (λ y. key x + 1 ≤ key y) (λ y. key y ≢ id) (λ y k. let same : key x ≡ id = eqb-true _ _ e in omega (arith, k)) xs (all_from key (key x + 1) high xs h.1))
    (λ n. ((λ same. let yes : (key x == id) ≡ true = eq-eqb _ _ same in cc), removed key id (key x + 1) high xs h.1))
