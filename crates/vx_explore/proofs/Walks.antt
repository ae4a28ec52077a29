-- The runs of k steps: the definition adds steps in front, the code at the end.
use Rattle.std.proofs.Common.{◌≡◌, ℕ, zero, suc, ◌<◌, ◌≤◌, List, [], ◌∷◌, ◌++◌, length, Bool, true, false, cond, refl, sym, ap, ◌∙◌, arith, append-nil, append_assoc, eqb-true}
use Rattle.std.specs.Prelude.{◌==◌, map, filter, flat_map}
use Rattle.std.specs.List.{range_with_len}
use Rattle.std.proofs.Math.Dec.{eqb-suc-zero, eqb-zero-suc, eqb-suc-suc}
use Rattle.std.proofs.lemmas.List.{map-append}
use Rattle.std.proofs.lemmas.List.Concat.{flat_map-append}
use Rattle.std.proofs.lemmas.List.Elements.{filter-append}
use Rattle.vx_explore.specs.declared.found.Found.{Found}
use Rattle.vx_explore.specs.Runs.{Run, no_steps, step_before, runs, of_length, shortest_first}
use Rattle.vx_explore.specs.Alike.{one_after, open_to, all_after, walks, one_at, stops, end_at, ends, is_limit, ends_below}

-- a run as what it comes to, with these picks in front
abbrev pub as_found : {S : Type 0} → List ℕ → Run S → Found S
as_found p r = record { what = r.last; ways = 1; picks = p ++ r.picks }

pub is_limit_self : (n : ℕ) → is_limit n n ≡ true
is_limit_self zero = refl
is_limit_self (suc n) = is_limit_self n

pub is_limit_below : (n k : ℕ) → k < n → is_limit n k ≡ false
is_limit_below zero k h = absurd (omega arith)
is_limit_below (suc n) zero h = refl
is_limit_below (suc n) (suc k) h = is_limit_below n k (omega arith)

module _ {S : Type 0} where
  of_length-append : (k : ℕ) (xs ys : List (Run S)) → of_length k (xs ++ ys) ≡ of_length k xs ++ of_length k ys
  of_length-append k xs ys = filter-append (λ r. length r.picks == k) xs ys

  of_length_zero-step_before : (i : ℕ) (rs : List (Run S)) → of_length 0 (map (step_before i) rs) ≡ []
  of_length_zero-step_before i [] = refl
  of_length_zero-step_before i (r ∷ rs) = rw (eqb-suc-zero (length r.picks)) (of_length_zero-step_before i rs)

  of_length_suc-step_before : (k i : ℕ) (rs : List (Run S)) → of_length (suc k) (map (step_before i) rs) ≡ map (step_before i) (of_length k rs)
  of_length_suc-step_before k i [] = refl
  of_length_suc-step_before k i (r ∷ rs) =
      ap (λ b. cond b (step_before i r ∷ of_length (suc k) (map (step_before i) rs)) (of_length (suc k) (map (step_before i) rs))) (eqb-suc-suc (length r.picks) k)
      ∙ ap (λ others. cond (length r.picks == k) (step_before i r ∷ others) others) (of_length_suc-step_before k i rs)
      ∙ at_head (length r.picks == k) (of_length k rs)
    where
      at_head : (b : Bool) (others : List (Run S)) → cond b (step_before i r ∷ map (step_before i) others) (map (step_before i) others) ≡ map (step_before i) (cond b (r ∷ others) others)
      at_head true others = refl
      at_head false others = refl

  as_found-step_before : (p : List ℕ) (i : ℕ) (rs : List (Run S)) → map (as_found p) (map (step_before i) rs) ≡ map (as_found (p ++ i ∷ [])) rs
  as_found-step_before p i [] = refl
  as_found-step_before p i (r ∷ rs) =
      ap (λ picks. record { what = r.last; ways = 1; picks = picks } ∷ map (as_found p) (map (step_before i) rs)) (sym (append_assoc p (i ∷ []) r.picks))
      ∙ ap (λ others. as_found (p ++ i ∷ []) r ∷ others) (as_found-step_before p i rs)

module _ {S : Type 0} (enabled : S → ℕ) (after : S → ℕ → S) where
  -- what is reached in k steps, the first step first
  abbrev walks_on : ℕ → List (Found S) → List (Found S)
  walks_on zero xs = xs
  walks_on (suc k) xs = walks_on k (all_after enabled after xs)

  walks_on_more : (k : ℕ) (xs : List (Found S)) → walks_on k (all_after enabled after xs) ≡ all_after enabled after (walks_on k xs)
  walks_on_more zero xs = refl
  walks_on_more (suc k) xs = walks_on_more k (all_after enabled after xs)

  walks_on_is : (k : ℕ) (xs : List (Found S)) → walks_on k xs ≡ walks enabled after k xs
  walks_on_is zero xs = refl
  walks_on_is (suc k) xs = walks_on_more k xs ∙ ap (all_after enabled after) (walks_on_is k xs)

  walks_on-nil : (k : ℕ) → walks_on k [] ≡ []
  walks_on-nil zero = refl
  walks_on-nil (suc k) = walks_on-nil k

  walks_on-append : (k : ℕ) (xs ys : List (Found S)) → walks_on k (xs ++ ys) ≡ walks_on k xs ++ walks_on k ys
  walks_on-append zero xs ys = refl
  walks_on-append (suc k) xs ys =
      ap (walks_on k) (flat_map-append (λ x. map (one_after enabled after x) (open_to enabled after x.what)) xs ys)
      ∙ walks_on-append k (all_after enabled after xs) (all_after enabled after ys)

  abbrev stopping : Bool → List (Found S) → List (Found S)
  stopping last xs = filter (λ x. stops enabled last x.what) xs

  -- the runs that begin with each of these picks
  abbrev runs_behind : ℕ → S → List ℕ → List (Run S)
  runs_behind n s is = flat_map (λ i. map (step_before i) (runs enabled after n (after s i))) is

  of_length_zero-runs_behind : (n : ℕ) (s : S) (is : List ℕ) → of_length 0 (runs_behind n s is) ≡ []
  of_length_zero-runs_behind n s [] = refl
  of_length_zero-runs_behind n s (i ∷ is) =
      of_length-append 0 (map (step_before i) (runs enabled after n (after s i))) (runs_behind n s is)
      ∙ ap (λ rs. rs ++ of_length 0 (runs_behind n s is)) (of_length_zero-step_before i (runs enabled after n (after s i)))
      ∙ of_length_zero-runs_behind n s is

  of_length_suc-runs_behind : (n k : ℕ) (last : Bool) (s : S) (p is : List ℕ)
      → ((i : ℕ) → map (as_found (p ++ i ∷ [])) (of_length k (runs enabled after n (after s i))) ≡ stopping last (walks_on k (one_at (p ++ i ∷ []) (after s i) ∷ [])))
      → map (as_found p) (of_length (suc k) (runs_behind n s is)) ≡ stopping last (walks_on k (map (one_after enabled after (one_at p s)) is))
  of_length_suc-runs_behind n k last s p [] here = sym (ap (stopping last) (walks_on-nil k))
  of_length_suc-runs_behind n k last s p (i ∷ is) here =
      ap (map (as_found p)) (of_length-append (suc k) (map (step_before i) (runs enabled after n (after s i))) (runs_behind n s is))
      ∙ map-append (as_found p) (of_length (suc k) (map (step_before i) (runs enabled after n (after s i)))) (of_length (suc k) (runs_behind n s is))
      ∙ ap (λ rs. map (as_found p) rs ++ map (as_found p) (of_length (suc k) (runs_behind n s is))) (of_length_suc-step_before k i (runs enabled after n (after s i)))
      ∙ ap (λ xs. xs ++ map (as_found p) (of_length (suc k) (runs_behind n s is))) (as_found-step_before p i (of_length k (runs enabled after n (after s i))) ∙ here i)
      ∙ ap (λ xs. stopping last (walks_on k (one_at (p ++ i ∷ []) (after s i) ∷ [])) ++ xs) (of_length_suc-runs_behind n k last s p is here)
      ∙ sym (ap (stopping last) (walks_on-append k (one_at (p ++ i ∷ []) (after s i) ∷ []) (map (one_after enabled after (one_at p s)) is))
      ∙ filter-append (λ x. stops enabled last x.what) (walks_on k (one_at (p ++ i ∷ []) (after s i) ∷ [])) (walks_on k (map (one_after enabled after (one_at p s)) is)))

  -- the runs of k steps are the walks of k steps that stop there
  of_length-runs : (n k : ℕ) (s : S) (p : List ℕ) → k ≤ n
      → map (as_found p) (of_length k (runs enabled after n s)) ≡ stopping (is_limit n k) (walks_on k (one_at p s ∷ []))
  of_length-runs zero zero s p h = ap (λ picks. record { what = s; ways = 1; picks = picks } ∷ []) (append-nil p)
  of_length-runs zero (suc k) s p h = absurd (omega arith)
  of_length-runs (suc n) zero s p h = at_count (enabled s == 0)
    where
      at_count : (b : Bool) → map (as_found p) (of_length 0 (cond b (no_steps s ∷ []) (runs_behind n s (range_with_len 0 (enabled s))))) ≡ cond b (one_at p s ∷ []) []
      at_count true = ap (λ picks. record { what = s; ways = 1; picks = picks } ∷ []) (append-nil p)
      at_count false = ap (map (as_found p)) (of_length_zero-runs_behind n s (range_with_len 0 (enabled s)))
  of_length-runs (suc n) (suc k) s p h = at_count (λ i. of_length-runs n k (after s i) (p ++ i ∷ []) (omega arith)) (enabled s == 0) refl
    where
      at_count : ((i : ℕ) → map (as_found (p ++ i ∷ [])) (of_length k (runs enabled after n (after s i))) ≡ stopping (is_limit n k) (walks_on k (one_at (p ++ i ∷ []) (after s i) ∷ [])))
          → (b : Bool) → (enabled s == 0) ≡ b
          → map (as_found p) (of_length (suc k) (cond b (no_steps s ∷ []) (runs_behind n s (range_with_len 0 (enabled s)))))
          ≡ stopping (is_limit n k) (walks_on k (map (one_after enabled after (one_at p s)) (range_with_len 0 (enabled s)) ++ []))
      at_count here true e =
          ap (λ b. map (as_found p) (cond b (no_steps s ∷ []) [])) (eqb-zero-suc k)
          ∙ sym (ap (λ c. stopping (is_limit n k) (walks_on k (map (one_after enabled after (one_at p s)) (range_with_len 0 c) ++ []))) (eqb-true (enabled s) 0 e)
          ∙ ap (stopping (is_limit n k)) (walks_on-nil k))
      at_count here false e =
          of_length_suc-runs_behind n k (is_limit n k) s p (range_with_len 0 (enabled s)) here
          ∙ sym (ap (λ xs. stopping (is_limit n k) (walks_on k xs)) (append-nil (map (one_after enabled after (one_at p s)) (range_with_len 0 (enabled s)))))

-- The endings of all runs, the shortest first.

module _ {S E : Type 0} (enabled : S → ℕ) (after : S → ℕ → S) (ending_of : S → E) where
  -- the endings, an entry for each run
  abbrev pub endings : List (Run S) → List (Found E)
  endings rs = map (end_at ending_of) (map (as_found []) rs)

  endings-of_length : (n k : ℕ) (s : S) → k ≤ n → endings (of_length k (runs enabled after n s)) ≡ ends enabled ending_of (is_limit n k) (walks enabled after k (one_at [] s ∷ []))
  endings-of_length n k s h =
      ap (map (end_at ending_of)) (of_length-runs enabled after n k s [] h
      ∙ ap (λ xs. filter (λ x. stops enabled (is_limit n k) x.what) xs) (walks_on_is enabled after k (one_at [] s ∷ [])))

  endings-append : (rs ts : List (Run S)) → endings (rs ++ ts) ≡ endings rs ++ endings ts
  endings-append rs ts = ap (map (end_at ending_of)) (map-append (as_found []) rs ts) ∙ map-append (end_at ending_of) (map (as_found []) rs) (map (as_found []) ts)

  pub endings-shortest : (n k : ℕ) (s : S) → k ≤ n → endings (shortest_first k (runs enabled after n s)) ≡ ends_below enabled after ending_of n s (suc k)
  endings-shortest n zero s h = endings-of_length n 0 s h
  endings-shortest n (suc k) s h =
      endings-append (shortest_first k (runs enabled after n s)) (of_length (suc k) (runs enabled after n s))
      ∙ ap (λ xs. xs ++ endings (of_length (suc k) (runs enabled after n s))) (endings-shortest n k s (omega arith))
      ∙ ap (λ xs. ends_below enabled after ending_of n s (suc k) ++ xs) (endings-of_length n (suc k) s h)
