-- Where the contents of units are.
use Rattle.std.proofs.Common.{◌≡◌, ℕ, ◌<◌, zero, suc, List, [], ◌∷◌, false, length, map, slice_index_or, Option, None, ap, refl, sym, subst, ◌∙◌}
use Rattle.std.specs.List.{AllByRecursion}
use Rattle.vx_record.specs.Types.{UnitNo}
use Rattle.vx_units.specs.Leases.{Stand, Home, is_out}
use Rattle.vx_record.proofs.Lists.{all_at}
use Rattle.vx_procs.specs.Again.{stand_in}
use Rattle.vx_procs.specs.Kernel.{AreIn, Kernel}
use Rattle.vx_procs.specs.Units.{Ending, IsIn, Kept, stand_of}
use Rattle.vx_procs.specs.View.{ending_of, kernel}
use Rattle.vx_procs.specs.declared.procs.Core.TheInside.{Inside}

-- a unit of a list whose units are in
pub in_there : (ks : List Kept) (i : ℕ) (k : Kept) → AllByRecursion IsIn ks → i < length ks → k ≡ slice_index_or ks i k → IsIn k
in_there ks i k all within is = subst IsIn (sym is) (all_at IsIn ks i k all within)

-- where the contents of one unit are
pub stand_here : (es : List (Option Ending)) (i : ℕ) → slice_index_or (map stand_of es) i Home ≡ stand_of (slice_index_or es i None)
stand_here [] i = refl
stand_here (e ∷ es) zero = refl
stand_here (e ∷ es) (suc i) = stand_here es i

-- all units are in

all_from : (ks : List Kept) → ((i : ℕ) → is_out (slice_index_or (map stand_of (map ending_of ks)) i Home) ≡ false) → AllByRecursion IsIn ks
all_from [] h = tt
all_from (k ∷ ks) h = (h zero, all_from ks (λ i. h (suc i)))

all_in : (ks : List Kept) → ((u : UnitNo) → is_out (slice_index_or (map stand_of (map ending_of ks)) u.0 Home) ≡ false) → AllByRecursion IsIn ks
all_in ks h = all_from ks (λ i. h (record { 0 = i }))

pub in_all : (ks : List Kept) → AllByRecursion IsIn ks → (u : UnitNo) → is_out (slice_index_or (map stand_of (map ending_of ks)) u.0 Home) ≡ false
in_all ks all u = go ks all u.0
  where
    go : (xs : List Kept) → AllByRecursion IsIn xs → (i : ℕ) → is_out (slice_index_or (map stand_of (map ending_of xs)) i Home) ≡ false
    go [] h i = refl
    go (x ∷ xs) h zero = h.0
    go (x ∷ xs) h (suc i) = go xs h.1 i

-- all units of an executive are in
pub all_units : {R : Type 0} (c : Inside R) (k : Kernel) → kernel c ≡ k → AreIn k → AllByRecursion IsIn c.units.items
all_units c k view h = all_in c.units.items (subst AreIn (sym view) h)

pub units_in : {R : Type 0} (c : Inside R) (k : Kernel) → kernel c ≡ k → AllByRecursion IsIn c.units.items → AreIn k
units_in c k view h = subst AreIn view (in_all c.units.items h)

-- a copy of units that are in
pub in_again : (ks ms : List Kept) → AllByRecursion IsIn ks → map stand_in ms ≡ map stand_in ks → (u : UnitNo) → is_out (slice_index_or (map stand_of (map ending_of ms)) u.0 Home) ≡ false
in_again ks ms h same u =
    subst (λ (xs : List Stand). is_out (slice_index_or xs u.0 Home) ≡ false) (stands_in ks ∙ (sym same ∙ sym (stands_in ms))) (in_all ks h u)
  where
    stands_in : (xs : List Kept) → map stand_of (map ending_of xs) ≡ map stand_in xs
    stands_in [] = refl
    stands_in (k ∷ xs) = ap (λ (ys : List Stand). stand_in k ∷ ys) (stands_in xs)

pub units_again : (ks ms : List Kept) → AllByRecursion IsIn ks → map stand_in ms ≡ map stand_in ks → AllByRecursion IsIn ms
units_again ks ms h same = all_in ms (in_again ks ms h same)
