-- The loop over the levels.
use Rattle.std.proofs.Common.{length, get_or, ◌≤◌, inl, inr, ◌≡◌, ℕ, zero, suc, ◌+◌, ◌-◌, ◌<◌, List, [], ◌∷◌, ◌++◌, Bool, true, false, refl, ap, ◌∙◌, subst, arith, add-one, append-nil, zero-add}
use Rattle.std.specs.Prelude.{All, Contains}
use Rattle.std.proofs.lemmas.Bool.{cases_eq, cases_lt}
use Rattle.std.proofs.Math.Nat.{suc-add}
use Rattle.vx_explore.specs.declared.found.Found.{Found}
use Rattle.vx_explore.specs.Alike.{Like, Tells, all_after, ends, ends_below, is_limit, one_at, walks}
use Rattle.vx_explore.specs.Index.{AreNext, whats}
use Rattle.vx_explore.specs.Runs.{AreTooMany, IsCrowded, Leads, runs, shortest_first, summary}
use Rattle.vx_explore.proofs.Adding.{led_next}
use Rattle.vx_explore.proofs.Counted.{length-le_from_among}
use Rattle.vx_explore.proofs.Indexed.{length-whats}
use Rattle.vx_explore.proofs.Finding.{Like-refl, Like-trans, Like-append, Like-all_after, Like-ends}
use Rattle.vx_explore.proofs.Telling.{Tells-Like, Tells-same, Tells-told}
use Rattle.vx_explore.proofs.Walks.{is_limit_self, is_limit_below, endings-shortest}

module _ {S E : Type 0} (enabled : S → ℕ) (after : S → ℕ → S) (ending_of : S → E) (same : E → E → Bool) (m n most : ℕ) (first : S) where
  -- the level after k steps, and the rows of the levels before it
  pub record Explores (rows : List (Found E)) (level : List (Found S)) (k : ℕ) : Type 0 where
    pub like : Like m level (walks enabled after k (one_at [] first ∷ []))
    pub tells : Tells same m rows (ends_below enabled after ending_of n first k)
    pub led : All (Leads enabled after k first) (whats level)
    pub few : length level ≤ most
    pub all : (t : S) → Leads enabled after k first t → Contains (whats level) t
    pub before : (j : ℕ) (ss : List S) → j < k → AreTooMany enabled after most j first ss → ⊥

  -- no more different states than the level has
  not_many : (rows : List (Found E)) (level : List (Found S)) (k : ℕ) → Explores rows level k → (ss : List S) → AreTooMany enabled after most k first ss → ⊥
  not_many rows level k e ss t =
      let among : length ss ≤ length (whats level) = length-le_from_among (whats level) ss t.different (λ i d h. e.all (get_or ss i d) (t.led i d h)) in
      let len = length-whats level in
      let more = t.more in
      let few = e.few in
      omega arith

  -- the rows with this level
  tells_level : (rows rows' : List (Found E)) (level : List (Found S)) (k : ℕ) (last : Bool) → is_limit n k ≡ last → Explores rows level k
      → ((xs : List (Found E)) → Tells same m rows xs → Tells same m rows' (xs ++ ends enabled ending_of last level))
      → Tells same m rows' (ends_below enabled after ending_of n first (suc k))
  tells_level rows rows' level k last at_limit e tell =
      rw at_limit (Tells-Like same (tell (ends_below enabled after ending_of n first k) e.tells)
      (Like-append (Like-refl (ends_below enabled after ending_of n first k)) (Like-ends enabled ending_of last e.like)))

  pub Explores-more : {origin : S → S} (rows rows' : List (Found E)) (level next : List (Found S)) (k : ℕ) → k < n → Explores rows level k
      → ((xs : List (Found E)) → Tells same m rows xs → Tells same m rows' (xs ++ ends enabled ending_of false level))
      → Like m next (all_after enabled after level)
      → length next ≤ most
      → AreNext enabled after origin (whats level) (whats next)
      → Explores rows' next (k + 1)
  Explores-more {origin} rows rows' level next k below e tell like few states = rw add-one (record {
    like = Like-trans like (Like-all_after enabled after e.like);
    tells = tells_level rows rows' level k false (is_limit_below n k below) e tell;
    led = led_next enabled after origin states k first e.led;
    few = few;
    all = λ t (u, i, there, h, is_it). subst (Contains (whats next)) is_it (states.there u i (e.all u there) h);
    before = before;
  })
    where
      before : (j : ℕ) (ss : List S) → j < suc k → AreTooMany enabled after most j first ss → ⊥
      before j ss h t =
          elim (cases_eq j k) [
            | inl here ↦ not_many rows level k e ss (subst (λ i. AreTooMany enabled after most i first ss) here t)
            | inr other ↦ e.before j ss (omega arith) t
          ]

  -- if a level is empty, the rows stay as they are
  tells_rest : (rows : List (Found E)) (k d : ℕ) → Like m [] (walks enabled after k (one_at [] first ∷ [])) → Tells same m rows (ends_below enabled after ending_of n first k)
      → Like m [] (walks enabled after (d + k) (one_at [] first ∷ [])) × Tells same m rows (ends_below enabled after ending_of n first (d + k))
  tells_rest rows k zero like tells = rw (zero-add k) (like, tells)
  tells_rest rows k (suc d) like tells =
      let here = tells_rest rows k d like tells in
      rw suc-add (
        Like-all_after enabled after here.0,
        Tells-Like same here.1 (rw (append-nil (ends_below enabled after ending_of n first (d + k))) at
            (Like-append (Like-refl (ends_below enabled after ending_of n first (d + k))) (Like-ends enabled ending_of (is_limit n (d + k)) here.0))),
      )

  -- and more steps lead nowhere
  none_led : (rows : List (Found E)) (k d : ℕ) → Explores rows [] k → (t : S) → Leads enabled after (d + k) first t → ⊥
  none_led rows k zero e t led = let h : Contains (whats {S = S} []) t = e.all t (rw (zero-add k) at led) in let below = h.1 in omega arith
  none_led rows k (suc d) e t led = let before : Leads enabled after (suc (d + k)) first t = rw (suc-add d k) at led in none_led rows k d e before.0 before.2

  pub few_last : (rows : List (Found E)) (level : List (Found S)) (k : ℕ) → k ≡ n → Explores rows level k → ¬ IsCrowded enabled after n most first
  few_last rows level k is_n e (j, ss, within, t) =
      elim (cases_eq j k) [
        | inl here ↦ not_many rows level k e ss (subst (λ i. AreTooMany enabled after most i first ss) here t)
        | inr other ↦ e.before j ss (omega arith) t
      ]

  pub few_early : (rows : List (Found E)) (k : ℕ) → Explores rows [] k → ¬ IsCrowded enabled after n most first
  few_early rows k e (j, ss, within, t) =
      elim (cases_lt j k) [
        | inl lower ↦ e.before j ss lower t
        | inr upper ↦
            let more = t.more in
            let is_j : (j - k) + k ≡ j = omega arith in
            none_led rows k (j - k) e (get_or ss 0 first) (rw is_j (t.led 0 first (omega arith)))
      ]

module _ {S E : Type 0} (enabled : S → ℕ) (after : S → ℕ → S) (ending_of : S → E) (same : E → E → Bool) (itself : (e : E) → same e e ≡ true) (equal : (d e : E) → same d e ≡ true → d ≡ e) (n most : ℕ) (first : S) where
  told_is : (rows : List (Found E)) → Tells same 18446744073709551615 rows (ends_below enabled after ending_of n first (suc n)) → rows ≡ summary ending_of same (shortest_first n (runs enabled after n first))
  told_is rows t =
      let plain = rw (endings-shortest enabled after ending_of n n first (omega arith)) at (Tells-told same itself equal enabled after ending_of (shortest_first n (runs enabled after n first))) in
      Tells-same same itself equal t plain

  pub told_last : (rows rows' : List (Found E)) (level : List (Found S)) (k : ℕ) → k ≡ n → Explores enabled after ending_of same 18446744073709551615 n most first rows level k
      → ((xs : List (Found E)) → Tells same 18446744073709551615 rows xs → Tells same 18446744073709551615 rows' (xs ++ ends enabled ending_of true level))
      → rows' ≡ summary ending_of same (shortest_first n (runs enabled after n first))
  told_last rows rows' level k is_n e tell =
      told_is rows' (subst (λ j. Tells same 18446744073709551615 rows' (ends_below enabled after ending_of n first (suc j))) is_n
      (tells_level enabled after ending_of same 18446744073709551615 n most first rows rows' level k true (ap (is_limit n) is_n ∙ is_limit_self n) e tell))

  pub told_early : (rows : List (Found E)) (k : ℕ) → k < n → Explores enabled after ending_of same 18446744073709551615 n most first rows [] k
      → rows ≡ summary ending_of same (shortest_first n (runs enabled after n first))
  told_early rows k below e =
      let d_is : (suc n - k) + k ≡ suc n = omega arith in
      told_is rows (rw d_is at (tells_rest enabled after ending_of same 18446744073709551615 n most first rows k (suc n - k) e.like e.tells).1)

-- One state is too many if none is allowed.
pub too_many : {S : Type 0} (enabled : S → ℕ) (after : S → ℕ → S) (n most : ℕ) (first : S) → most ≡ 0 → IsCrowded enabled after n most first
too_many enabled after n most first none = (
  0,
  first ∷ [],
  omega arith,
  record {
    more = omega (arith, none);
    different = λ i j d below within. absurd (omega arith);
    led = at;
  },
)
  where
    at : All (Leads enabled after 0 first) (first ∷ [])
    at zero d within = refl
    at (suc i) d within = absurd (omega arith)
