-- Lists without one item, with one more, and with no two items that are the same.
use Rattle.std.proofs.Common.{◌≡◌, List, [], ◌∷◌, ◌++◌, Bool, false, not, IsTrue, inl, inr, refl}
use Rattle.std.specs.List.{list_any, list_all}
use Rattle.std.proofs.lemmas.Bool.{cases_Bool, and_parts, and_from, or_cases, or_left, or_right, or_parts, or_from, not-true, not_from_false, false_from_ne_true, both_ways}
use Rattle.vx_base.specs.Lists.{less}
use Rattle.vx_clusters.specs.Sound.{are_apart}
use Rattle.vx_base.proofs.Any.{none_less}

pub all_less : {A : Type 0} (p q : A → Bool) (xs : List A) → IsTrue (list_all q xs) → IsTrue (list_all q (less p xs))
all_less p q [] all = all
all_less p q (x ∷ xs) all =
    let parts = and_parts (q x) (list_all q xs) all in
    elim (cases_Bool (p x)) [
      | inl passes ↦ rw passes parts.1
      | inr fails ↦ rw fails (and_from _ _ parts.0 (all_less p q xs parts.1))
    ]

pub apart_less : {A : Type 0} (same : A → A → Bool) (p : A → Bool) (xs : List A) → IsTrue (are_apart same xs) → IsTrue (are_apart same (less p xs))
apart_less same p [] apart = apart
apart_less same p (x ∷ xs) apart =
    let parts = and_parts (not (list_any (same x) xs)) (are_apart same xs) apart in
    elim (cases_Bool (p x)) [
      | inl passes ↦ rw passes parts.1
      | inr fails ↦ rw fails (and_from _ _ (not_from_false _ (none_less p (same x) xs (not-true _ parts.0))) (apart_less same p xs parts.1))
    ]

-- what no item passes, no item passes that asks more
pub none_stronger : {A : Type 0} (q r : A → Bool) → ((x : A) → IsTrue (r x) → IsTrue (q x)) → (xs : List A) → list_any q xs ≡ false → list_any r xs ≡ false
none_stronger q r more [] none = refl
none_stronger q r more (x ∷ xs) none =
    let parts = or_parts (q x) (list_any q xs) none in
    or_from _ _ (false_from_ne_true _ (λ passes. both_ways _ parts.0 (more x passes))) (none_stronger q r more xs parts.1)

pub any_push : {A : Type 0} (q : A → Bool) (xs : List A) (y : A) → IsTrue (list_any q xs) → IsTrue (list_any q (xs ++ y ∷ []))
any_push q [] y h = absurd (both_ways false refl h)
any_push q (x ∷ xs) y h = elim (or_cases (q x) (list_any q xs) h) [ inl here ↦ or_left (q x) (list_any q (xs ++ y ∷ [])) here | inr below ↦ or_right (q x) (list_any q (xs ++ y ∷ [])) (any_push q xs y below) ]

-- the item at the end
pub any_last : {A : Type 0} (q : A → Bool) (xs : List A) (y : A) → IsTrue (q y) → IsTrue (list_any q (xs ++ y ∷ []))
any_last q [] y passes = or_left (q y) false passes
any_last q (x ∷ xs) y passes = or_right (q x) (list_any q (xs ++ y ∷ [])) (any_last q xs y passes)

none_push : {A : Type 0} (q : A → Bool) (xs : List A) (y : A) → list_any q xs ≡ false → q y ≡ false → list_any q (xs ++ y ∷ []) ≡ false
none_push q [] y none fails = or_from _ _ fails refl
none_push q (x ∷ xs) y none fails =
    let parts = or_parts (q x) (list_any q xs) none in
    or_from _ _ parts.0 (none_push q xs y parts.1 fails)

pub all_push : {A : Type 0} (q : A → Bool) (xs : List A) (y : A) → IsTrue (list_all q xs) → IsTrue (q y) → IsTrue (list_all q (xs ++ y ∷ []))
all_push q [] y all passes = and_from _ _ passes refl
all_push q (x ∷ xs) y all passes =
    let parts = and_parts (q x) (list_all q xs) all in
    and_from _ _ parts.0 (all_push q xs y parts.1 passes)

pub all_weaker : {A : Type 0} (q r : A → Bool) → ((x : A) → IsTrue (q x) → IsTrue (r x)) → (xs : List A) → IsTrue (list_all q xs) → IsTrue (list_all r xs)
all_weaker q r more [] all = refl
all_weaker q r more (x ∷ xs) all =
    let parts = and_parts (q x) (list_all q xs) all in
    and_from _ _ (more x parts.0) (all_weaker q r more xs parts.1)

pub apart_push : {A : Type 0} (same : A → A → Bool) (xs : List A) (y : A) → IsTrue (are_apart same xs) → list_any (λ x. same x y) xs ≡ false → IsTrue (are_apart same (xs ++ y ∷ []))
apart_push same [] y apart none = refl
apart_push same (x ∷ xs) y apart none =
    let parts = and_parts (not (list_any (same x) xs)) (are_apart same xs) apart in
    let nones = or_parts (same x y) (list_any (λ z. same z y) xs) none in
    and_from _ _ (not_from_false _ (none_push (same x) xs y (not-true _ parts.0) nones.0)) (apart_push same xs y parts.1 nones.1)
