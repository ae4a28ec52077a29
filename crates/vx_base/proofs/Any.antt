-- Whether an item of a list passes a test.
use Rattle.std.proofs.Common.{◌≡◌, List, [], ◌∷◌, ◌++◌, Bool, true, false, cond, ◌||◌, None, position, refl, sym, ◌∙◌, arith, Some, ◌&&◌, map, ap}
use Rattle.std.specs.List.{find, list_any, list_all}
use Rattle.std.proofs.lemmas.List.Folds.{list_any-append, list_all-append}
use Rattle.std.proofs.lemmas.Bool.{and_parts, and_from}
use Rattle.vx_base.proofs.Bools.{by_bool}
use Rattle.vx_base.proofs.First.{none_at}
use Rattle.vx_base.specs.Lists.{less}

-- none does, if none is found
pub none_any : {A : Type 0} (p : A → Bool) (xs : List A) → find p xs ≡ None → list_any p xs ≡ false
none_any p [] e = refl
none_any p (y ∷ ys) e = let rest = none_any p ys in grind arith

pub none_found : {A : Type 0} (p : A → Bool) (xs : List A) → list_any p xs ≡ false → find p xs ≡ None
none_found p [] h = refl
none_found p (x ∷ xs) h =
    by_bool (λ (b : Bool). (b || list_any p xs) ≡ false → cond b (Some x) (find p xs) ≡ None) (p x) (λ t k. absurd (let never : true ≡ false = k in cc)) (λ f k. none_found p xs k) h

pub no_position : {A : Type 0} (p : A → Bool) (xs : List A) → position p xs ≡ None → list_any p xs ≡ false
no_position p xs e = none_any p xs (sym (none_at p xs (sym e)).0)

-- nor of those that are left when one is taken out
pub none_less : {A : Type 0} (p q : A → Bool) (xs : List A) → list_any q xs ≡ false → list_any q (less p xs) ≡ false
none_less p q [] h = refl
none_less p q (x ∷ xs) h =
    by_bool (λ (b : Bool). (b || list_any q xs) ≡ false → list_any q (cond (p x) xs (x ∷ less p xs)) ≡ false) (q x)
    (λ t k. absurd (let never : true ≡ false = k in cc))
    (λ f k. elim (p x) as (λ (c : Bool). list_any q (cond c xs (x ∷ less p xs)) ≡ false) [ true ↦ k | false ↦ rw f (none_less p q xs k) ]) h

-- with one more item
pub any_more : {A : Type 0} (q : A → Bool) (xs : List A) (y : A) → list_any q (xs ++ y ∷ []) ≡ cond (q y) true (list_any q xs)
any_more q xs y = list_any-append q xs (y ∷ []) ∙ by_cases (list_any q xs) (q y)
  where
    by_cases : (a b : Bool) → (a || (b || false)) ≡ cond b true a
    by_cases true true = refl
    by_cases true false = refl
    by_cases false true = refl
    by_cases false false = refl

-- what all pass by one test they pass by a weaker one
pub all_weaker : {A : Type 0} (p q : A → Bool) → ((x : A) → p x ≡ true → q x ≡ true) → (xs : List A) → list_all p xs ≡ true → list_all q xs ≡ true
all_weaker p q k [] h = refl
all_weaker p q k (x ∷ xs) h =
    let parts = and_parts (p x) (list_all p xs) h in
    and_from (q x) (list_all q xs) (k x parts.0) (all_weaker p q k xs parts.1)

pub all_push : {A : Type 0} (p : A → Bool) (xs : List A) (x : A) → list_all p xs ≡ true → p x ≡ true → list_all p (xs ++ x ∷ []) ≡ true
all_push p xs x h k = list_all-append p xs (x ∷ []) ∙ and_from (list_all p xs) (p x && true) h (and_from (p x) true k refl)

pub any_map : {A B : Type 0} (p : B → Bool) (f : A → B) (xs : List A) → list_any p (map f xs) ≡ list_any (λ x. p (f x)) xs
any_map p f [] = refl
any_map p f (x ∷ xs) = ap (λ t. p (f x) || t) (any_map p f xs)

pub both_pass : {A : Type 0} (p : A → Bool) (xs ys : List A) → list_all p xs ≡ true → list_all p ys ≡ true → list_all p (xs ++ ys) ≡ true
both_pass p xs ys h k = list_all-append p xs ys ∙ rw (h, k) refl
