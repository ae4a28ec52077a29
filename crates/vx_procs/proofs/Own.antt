-- Lists in which no two have one id: what is found is the first with its id.
use Rattle.std.proofs.Common.{◌≡◌, List, [], ◌∷◌, Bool, true, false, cond, not, ◌==◌, eq-eqb, IsTrue, Some, ap, sym, refl, ◌∙◌}
use Rattle.std.specs.List.{find, list_any}
use Rattle.std.proofs.lemmas.Bool.{and_from, and_parts, not-true, or_parts, not_from_false}
use Rattle.vx_base.proofs.Any.{none_less}
use Rattle.vx_base.specs.Lists.{less}
use Rattle.vx_record.specs.Types.{Id}
use Rattle.vx_record.proofs.Lists.{either}
use Rattle.vx_procs.specs.Words.{have_own}

-- what does not hold of any does not hold of the one that is found
none_found : {A : Type 0} (p g : A → Bool) (xs : List A) (q : A) → list_any g xs ≡ false → find p xs ≡ Some q → g q ≡ false
none_found p g [] q none found = absurd (cc)
none_found p g (x ∷ xs) q none found =
    let parts = or_parts (g x) (list_any g xs) none in
    elim (p x) as (λ b. cond b (Some x) (find p xs) ≡ Some q → g q ≡ false) [
      | true ↦ λ is. let same : x ≡ q = cc in ap g (sym same) ∙ parts.0
      | false ↦ λ more. none_found p g xs q parts.1 more
    ] found

-- none comes to share an id if one goes
pub own_less : {A : Type 0} (id : A → Id) (p : A → Bool) (xs : List A) → IsTrue (have_own id xs) → IsTrue (have_own id (less p xs))
own_less id p [] own = refl
own_less {A = A} id p (x ∷ xs) own =
    let same : A → Bool = λ y. (id x).0 == (id y).0 in
    let parts = and_parts (not (list_any same xs)) (have_own id xs) own in
    either (λ ys. IsTrue (have_own id ys)) (p x) xs (x ∷ less p xs) parts.1
    (and_from (not (list_any same (less p xs))) (have_own id (less p xs)) (not_from_false _ (none_less p same xs (not-true _ parts.0))) (own_less id p xs parts.1))

-- the list without what is found is the list without the first with its id
pub less_own : {A : Type 0} (id : A → Id) (p : A → Bool) (xs : List A) (q : A) → IsTrue (have_own id xs) → find p xs ≡ Some q → less (λ y. (id y).0 == (id q).0) xs ≡ less p xs
less_own id p [] q own found = refl
less_own id p (x ∷ xs) q own found =
    let parts = and_parts (not (list_any (λ y. (id x).0 == (id y).0) xs)) (have_own id xs) own in
    elim (p x) as (λ b. cond b (Some x) (find p xs) ≡ Some q → cond ((id x).0 == (id q).0) xs (x ∷ less (λ y. (id y).0 == (id q).0) xs) ≡ cond b xs (x ∷ less p xs)) [
      | true ↦ λ is.
          let same : x ≡ q = cc in
          let here : ((id x).0 == (id q).0) ≡ true = eq-eqb (id x).0 (id q).0 (ap (λ y. (id y).0) same) in
          rw here refl
      | false ↦ λ more.
          let other : ((id x).0 == (id q).0) ≡ false = none_found p (λ y. (id x).0 == (id y).0) xs q (not-true _ parts.0) more in
          rw other (ap (λ ys. x ∷ ys) (less_own id p xs q parts.1 more))
    ] found

-- and what is found is the first with its id
pub find_own : {A : Type 0} (id : A → Id) (p : A → Bool) (xs : List A) (q : A) → IsTrue (have_own id xs) → find p xs ≡ Some q → find (λ y. (id y).0 == (id q).0) xs ≡ Some q
find_own id p [] q own e = absurd (cc)
find_own id p (x ∷ xs) q own e =
    let parts = and_parts (not (list_any (λ y. (id x).0 == (id y).0) xs)) (have_own id xs) own in
    elim (p x) as (λ b. cond b (Some x) (find p xs) ≡ Some q → cond ((id x).0 == (id q).0) (Some x) (find (λ y. (id y).0 == (id q).0) xs) ≡ Some q) [
      | true ↦ λ is.
          let same : x ≡ q = cc in
          let here : ((id x).0 == (id q).0) ≡ true = eq-eqb (id x).0 (id q).0 (ap (λ y. (id y).0) same) in
          rw here (ap Some same)
      | false ↦ λ more.
          let other : ((id x).0 == (id q).0) ≡ false = none_found p (λ y. (id x).0 == (id y).0) xs q (not-true _ parts.0) more in
          rw other (find_own id p xs q parts.1 more)
    ] e
