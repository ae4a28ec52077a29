-- A search among places whose ids rise.
use Rattle.std.proofs.Common.{◌≡◌, ◌≢◌, ℕ, ◌+◌, ◌<◌, ◌≤◌, List, Bool, true, false, Some, None, length, get_or, refl, ap, arith, position, nat_lt, ltb-true, ltb-false, subst}
use Rattle.vx_record.specs.Types.{Id}
use Rattle.vx_reqs.specs.Places.{Place, holds, Rises}
use Rattle.vx_reqs.proofs.Rising.{rises_at, rises_between, is_other, place_first, place_none}
use Rattle.vx_record.specs.Finish.{this_request}

pub below_middle : (xs : List Place) (next n m : ℕ) (i : Id) → Rises 0 xs next → m < length xs → ((d : Place) → i ≡ (get_or xs m d).id) → i.0 < n → (k : ℕ) (d : Place) → k < m + 1 → (get_or xs k d).id.0 < n
below_middle xs next n m i rises within is less k d lt =
    grind (arith, ap (λ (j : Id). j.0) (is d), less, lt, rises_between 0 xs next rises k m d, λ (same : k ≡ m). ap (λ (j : ℕ). (get_or xs j d).id.0) same)

pub above_middle : (xs : List Place) (next n m : ℕ) (i : Id) → Rises 0 xs next → m < length xs → ((d : Place) → i ≡ (get_or xs m d).id) → n ≤ i.0 → (k : ℕ) (d : Place) → m ≤ k → k < length xs → n ≤ (get_or xs k d).id.0
above_middle xs next n m i rises within is le k d from lt =
    grind (arith, ap (λ (j : Id). j.0) (is d), le, from, lt, rises_between 0 xs next rises m k d, λ (same : k ≡ m). ap (λ (j : ℕ). (get_or xs j d).id.0) same)

-- the request with an id stands at no place with another one
pub others_fail : (id : Id) (xs : List Place) (next : ℕ) → Rises 0 xs next → (k : ℕ) (d : Place) → k < length xs → (get_or xs k d).id.0 ≢ id.0 → holds (this_request id) (get_or xs k d) ≡ false
others_fail id xs next rises k d lt differs = is_other id (get_or xs k d) (rises_at 0 xs next rises k d lt).0 differs

module _ (p : Place → Bool) (xs : List Place) (n i : ℕ) (fails : (k : ℕ) (d : Place) → k < length xs → (get_or xs k d).id.0 ≢ n → p (get_or xs k d) ≡ false) (below : (k : ℕ) (d : Place) → k < i → (get_or xs k d).id.0 < n) where
  -- the place that alone may pass does
  pub among_some : (d : Place) → i < length xs → p (get_or xs i d) ≡ true → Some i ≡ position p xs
  among_some d within passes = place_first p xs i d within (λ k lt. fails k d (omega (arith, lt, within)) (λ same. omega (arith, same, below k d lt))) passes

  -- it does not
  pub among_none : (next : ℕ) → Rises 0 xs next → ((k : ℕ) (d : Place) → i ≤ k → k < length xs → n ≤ (get_or xs k d).id.0) → (i < length xs → (d : Place) → p (get_or xs i d) ≡ false) → None ≡ position p xs
  among_none next rises above here = place_none p xs (λ k d lt.
      elim (nat_lt k i) as (λ b. nat_lt k i ≡ b → p (get_or xs k d) ≡ false) [
        | true ↦ λ e. let low = below k d (ltb-true k i e) in fails k d lt (λ same. omega (arith, same, low))
        | false ↦ λ e. elim (nat_lt i k) as (λ b. nat_lt i k ≡ b → p (get_or xs k d) ≡ false) [
          | true ↦ λ f.
              let beyond = ltb-true i k f in
              let more = rises_between 0 xs next rises i k d beyond lt in
              let least = above i d (omega arith) (omega (arith, beyond, lt)) in
              fails k d lt (λ same. omega (arith, same, more, least))
          | false ↦ λ f.
              let same : i ≡ k = omega (arith, ltb-false k i e, ltb-false i k f) in
              subst (λ (j : ℕ). p (get_or xs j d) ≡ false) same (here (omega (arith, same, lt)) d)
        ] refl
      ] refl)
