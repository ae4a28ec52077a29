-- Lists of what runs come to, level by level. The private functions cite these, and no public contract does.
use Rattle.std.specs.Prelude.{◌≡◌, ℕ, zero, suc, ◌+◌, ◌*◌, min, List, [], ◌∷◌, ◌++◌, Bool, true, false, cond, ◌==◌, ◌||◌, Option, Some, None, map, filter, flat_map}
use Rattle.std.specs.List.{range_with_len}
use Rattle.vx_explore.specs.declared.found.Found.{Found}

-- the sum of a measure over all runs
abbrev pub total : {K : Type 0} → (K → ℕ) → List (Found K) → ℕ
total f [] = 0
total f (x ∷ xs) = x.ways * f x.what + total f xs

-- the first that passes a test, with its picks
abbrev pub first : {K : Type 0} → (K → Bool) → List (Found K) → Option (K × List ℕ)
first q [] = None
first q (x ∷ xs) = cond (q x.what) (Some (x.what, x.picks)) (first q xs)

-- no measure, capped at m, and no test tells the two apart
pub record Like {K : Type 0} (m : ℕ) (xs ys : List (Found K)) : Type 0 where
  pub totals : (f : K → ℕ) → min (total f xs) m ≡ min (total f ys) m
  pub firsts : (q : K → Bool) → first q xs ≡ first q ys

-- an entry, with the runs of another that comes to the same
abbrev pub raised : {K : Type 0} → ℕ → Found K → Found K → Found K
raised m x y = record { what = y.what; ways = min (y.ways + x.ways) m; picks = y.picks }

-- a state to which one run comes
abbrev pub one_at : {S : Type 0} → List ℕ → S → Found S
one_at p s = record { what = s; ways = 1; picks = p }

-- One step of the machine.

module _ {S : Type 0} (enabled : S → ℕ) (after : S → ℕ → S) where
  abbrev pub one_after : Found S → ℕ → Found S
  one_after x i = record { what = after x.what i; ways = x.ways; picks = x.picks ++ i ∷ [] }

  -- the places of the enabled events
  abbrev pub open_to : S → List ℕ
  open_to s = range_with_len 0 (enabled s)

  abbrev pub all_after : List (Found S) → List (Found S)
  all_after xs = flat_map (λ x. map (one_after x) (open_to x.what)) xs

  -- what k steps lead to, once for each run
  abbrev pub walks : ℕ → List (Found S) → List (Found S)
  walks zero xs = xs
  walks (suc k) xs = all_after (walks k xs)

-- How the runs end that stop here: all of them at the limit, and before it those with no enabled event.

abbrev pub stops : {S : Type 0} → (S → ℕ) → Bool → S → Bool
stops enabled last s = last || (enabled s == 0)

abbrev pub end_at : {S E : Type 0} → (S → E) → Found S → Found E
end_at ending_of x = record { what = ending_of x.what; ways = x.ways; picks = x.picks }

abbrev pub ends : {S E : Type 0} → (S → ℕ) → (S → E) → Bool → List (Found S) → List (Found E)
ends enabled ending_of last xs = map (end_at ending_of) (filter (λ x. stops enabled last x.what) xs)

-- k is the limit n
abbrev pub is_limit : ℕ → ℕ → Bool
is_limit zero zero = true
is_limit zero (suc k) = false
is_limit (suc n) zero = false
is_limit (suc n) (suc k) = is_limit n k

module _ {S E : Type 0} (enabled : S → ℕ) (after : S → ℕ → S) (ending_of : S → E) where
  -- the endings of the runs of fewer than k steps, of all runs of at most n
  abbrev pub ends_below : ℕ → S → ℕ → List (Found E)
  ends_below n s zero = []
  ends_below n s (suc k) = ends_below n s k ++ ends enabled ending_of (is_limit n k) (walks enabled after k (one_at [] s ∷ []))

-- The rows so far.

module _ {E : Type 0} (same : E → E → Bool) where
  -- 1 if the endings are the same
  abbrev pub is : E → E → ℕ
  is e d = cond (same d e) 1 0

  -- each row counts the runs with its ending, capped at m
  abbrev pub Counted : ℕ → List (Found E) → List (Found E) → Type 0
  Counted m xs [] = Unit {0}
  Counted m xs (r ∷ rows) = (r.ways ≡ min (total (is r.what) xs) m) × Counted m xs rows

  -- no two rows have the same ending
  abbrev pub AreApart : List (Found E) → Type 0
  AreApart [] = Unit {0}
  AreApart (r ∷ rows) = (first (λ d. same d r.what) rows ≡ None) × AreApart rows

  -- the rows sum these up: each ending once, in the order of the first, with its picks and the number of runs
  pub record Tells (m : ℕ) (rows xs : List (Found E)) : Type 0 where
    pub firsts : (q : E → Bool) → first q rows ≡ first q xs
    pub counted : Counted m xs rows
    pub apart : AreApart rows
