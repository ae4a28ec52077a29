-- Tests, and what is chosen by them.
use Rattle.std.proofs.Common.{◌≡◌, Bool, true, false, cond, refl}

pub by_bool : (P : Bool → Type 0) (b : Bool) → (b ≡ true → P true) → (b ≡ false → P false) → P b
by_bool P true f g = f refl
by_bool P false f g = g refl

-- with the test's outcome
pub either_by : {A : Type 0} (P : A → Type 0) (b : Bool) (x y : A) → (b ≡ true → P x) → (b ≡ false → P y) → P (cond b x y)
either_by P true x y h k = h refl
either_by P false x y h k = k refl

pub either_same : {A : Type 0} (b : Bool) (x : A) → cond b x x ≡ x
either_same true x = refl
either_same false x = refl

pub both_mapped : {A B : Type 0} (f : A → B) (b : Bool) (x y : A) → f (cond b x y) ≡ cond b (f x) (f y)
both_mapped f true x y = refl
both_mapped f false x y = refl
