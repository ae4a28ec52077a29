-- A machine that is seen through a view, as long as steps are left: its runs are those of the machine that is seen.
use Rattle.std.proofs.Common.{◌≡◌, ◌≢◌, ℕ, zero, suc, ◌+◌, ◌-◌, ◌<◌, List, [], ◌∷◌, ◌++◌, length, get_or, Bool, true, false, cond, refl, sym, ap, subst, ◌∙◌, arith, map, zero-add}
use Rattle.std.specs.Prelude.{◌==◌, flat_map}
use Rattle.std.specs.List.{AllByRecursion, range_with_len}
use Rattle.std.proofs.lemmas.List.{map-append, get_or-map, length-map}
use Rattle.std.proofs.lemmas.List.Elements.{All-from_recursion, recursion_from_All}
use Rattle.vx_explore.specs.Runs.{IsCrowded, Leads, Run, no_steps, runs, step_before}

module _ {S T : Type 0} (enabled : S → ℕ) (after : S → ℕ → S) (seen_enabled : T → ℕ) (seen_after : T → ℕ → T) (view : S → T) where
  -- a run as it is seen
  abbrev pub seen_run : Run S → Run T
  seen_run r = record { picks = r.picks; last = view r.last }

  -- The view is right if steps are left.
  pub record IsViewed (HasLeft : ℕ → S → Type 0) : Type 1 where
    pub count : (n : ℕ) (s : S) → HasLeft (suc n) s → enabled s ≡ seen_enabled (view s)
    pub step : (s : S) (i : ℕ) → view (after s i) ≡ seen_after (view s) i
    pub left : (n : ℕ) (s : S) (i : ℕ) → HasLeft (suc n) s → HasLeft n (after s i)

  seen-step_before : (i : ℕ) (rs : List (Run S)) → map seen_run (map (step_before i) rs) ≡ map (step_before i) (map seen_run rs)
  seen-step_before i [] = refl
  seen-step_before i (r ∷ rs) = ap (λ others. step_before i (seen_run r) ∷ others) (seen-step_before i rs)

  seen-flat_map : (f : ℕ → List (Run S)) (g : ℕ → List (Run T)) → ((i : ℕ) → map seen_run (f i) ≡ g i) → (is : List ℕ)
      → map seen_run (flat_map (λ i. map (step_before i) (f i)) is) ≡ flat_map (λ i. map (step_before i) (g i)) is
  seen-flat_map f g same [] = refl
  seen-flat_map f g same (i ∷ is) =
      map-append seen_run (map (step_before i) (f i)) (flat_map (λ i. map (step_before i) (f i)) is)
      ∙ ap (λ rs. rs ++ map seen_run (flat_map (λ i. map (step_before i) (f i)) is)) (seen-step_before i (f i) ∙ ap (λ rs. map (step_before i) rs) (same i))
      ∙ ap (λ rs. map (step_before i) (g i) ++ rs) (seen-flat_map f g same is)

  module _ (HasLeft : ℕ → S → Type 0) (v : IsViewed HasLeft) where
    pub seen-runs : (n : ℕ) (s : S) → HasLeft n s → map seen_run (runs enabled after n s) ≡ runs seen_enabled seen_after n (view s)
    seen-runs zero s h = refl
    seen-runs (suc n) s h = rw (v.count n s h) (at_count (λ i. seen-runs n (after s i) (v.left n s i h)) (seen_enabled (view s)) (seen_enabled (view s) == 0))
      where
        at_count : ((i : ℕ) → map seen_run (runs enabled after n (after s i)) ≡ runs seen_enabled seen_after n (view (after s i))) → (c : ℕ) (b : Bool)
            → map seen_run (cond b (no_steps s ∷ []) (flat_map (λ i. map (step_before i) (runs enabled after n (after s i))) (range_with_len 0 c)))
            ≡ cond b (no_steps (view s) ∷ []) (flat_map (λ i. map (step_before i) (runs seen_enabled seen_after n (seen_after (view s) i))) (range_with_len 0 c))
        at_count same c true = refl
        at_count same c false =
            seen-flat_map (λ i. runs enabled after n (after s i)) (λ i. runs seen_enabled seen_after n (seen_after (view s) i))
            (λ i. same i ∙ ap (runs seen_enabled seen_after n) (v.step s i)) (range_with_len 0 c)

    suc_moved : (k m : ℕ) → suc k + m ≡ k + suc m
    suc_moved k m = omega arith

    -- Steps lead to what is seen, and to nothing else.

    pub leads_seen : (k m : ℕ) (s u : S) → HasLeft (k + m) s → Leads enabled after k s u → Leads seen_enabled seen_after k (view s) (view u) × HasLeft m u
    leads_seen zero m s u h led = (ap view led, subst (HasLeft m) led (rw zero-add at h))
    leads_seen (suc k) m s u h (w, i, led, within, is_u) =
        let there = leads_seen k (suc m) s w (rw suc_moved at h) led in (
          (view w, i, there.0, rw (← v.count m w there.1) within, sym (v.step w i) ∙ ap view is_u),
          subst (HasLeft m) is_u (v.left m w i there.1),
        )

    pub leads_from_seen : (k m : ℕ) (s : S) (t : T) → HasLeft (k + m) s → Leads seen_enabled seen_after k (view s) t
        → (u : S) × Leads enabled after k s u × HasLeft m u × (view u ≡ t)
    leads_from_seen zero m s t h led = (s, refl, rw zero-add at h, led)
    leads_from_seen (suc k) m s t h (w, i, led, within, is_t) =
        let there = leads_from_seen k (suc m) s w (rw suc_moved at h) led in
        let u = there.0 in (
          after u i,
          (u, i, there.1, rw (v.count m u there.2, there.3) within, refl),
          v.left m u i there.2,
          v.step u i ∙ ap (λ x. seen_after x i) there.3 ∙ is_t,
        )

    -- More different states than are allowed are more in the view too, if it tells apart what as many steps lead to.

    pub crowded_seen : (n most : ℕ) (s : S) → HasLeft n s
        → ((k : ℕ) (u w : S) → Leads enabled after k s u → Leads enabled after k s w → view u ≡ view w → u ≡ w)
        → IsCrowded enabled after n most s → IsCrowded seen_enabled seen_after n most (view s)
    crowded_seen n most s h apart (k, ss, within, t) = (
      k,
      map view ss,
      within,
      record {
        more = rw length-map t.more;
        different = λ i j d below inside. different i j d below (rw length-map at inside);
        led = λ i d inside. led i d (rw length-map at inside);
      },
    )
      where
        left : HasLeft (k + (n - k)) s
        left = subst (λ m. HasLeft m s) (omega arith) h

        led_at : (i : ℕ) → i < length ss → Leads enabled after k s (get_or ss i s)
        led_at i inside = t.led i s inside

        led : (i : ℕ) (d : T) → i < length ss → Leads seen_enabled seen_after k (view s) (get_or (map view ss) i d)
        led i d inside = rw (get_or-map view ss i s d inside) (leads_seen k (n - k) s (get_or ss i s) left (led_at i inside)).0

        different : (i j : ℕ) (d : T) → i < j → j < length ss → get_or (map view ss) i d ≢ get_or (map view ss) j d
        different i j d below inside same =
            let first : i < length ss = omega arith in
            t.different i j s below inside
            (apart k (get_or ss i s) (get_or ss j s) (led_at i first) (led_at j inside)
            (sym (get_or-map view ss i s d first) ∙ same ∙ get_or-map view ss j s d inside))

    -- what is behind these states
    behind : (k m : ℕ) (s : S) → HasLeft (k + m) s → (ts : List T) → AllByRecursion (Leads seen_enabled seen_after k (view s)) ts
        → (us : List S) × AllByRecursion (Leads enabled after k s) us × (map view us ≡ ts)
    behind k m s h [] led = ([], tt, refl)
    behind k m s h (t ∷ ts) led =
        let here = leads_from_seen k m s t h led.0 in
        let rest = behind k m s h ts led.1 in
        (here.0 ∷ rest.0, (here.1, rest.1), ap (λ x. x ∷ map view rest.0) here.3 ∙ ap (λ xs. t ∷ xs) rest.2)

    pub crowded_behind : (n most : ℕ) (s : S) → HasLeft n s → IsCrowded seen_enabled seen_after n most (view s) → IsCrowded enabled after n most s
    crowded_behind n most s h (k, ts, within, t) =
        let there = behind k (n - k) s (subst (λ m. HasLeft m s) (omega arith) h) ts (recursion_from_All (Leads seen_enabled seen_after k (view s)) ts t.led) in (
          k,
          there.0,
          within,
          record {
            more = rw (← there.2, length-map) at t.more;
            different = λ i j d below inside same. different there.0 there.2 i j d below inside same;
            led = All-from_recursion (Leads enabled after k s) there.0 there.1;
          },
        )
      where
        different : (us : List S) → map view us ≡ ts → (i j : ℕ) (d : S) → i < j → j < length us → get_or us i d ≢ get_or us j d
        different us is_ts i j d below inside same =
            let first : i < length us = omega arith in
            let len : length us ≡ length ts = sym (length-map us view) ∙ ap length is_ts in
            t.different i j (view d) below (omega arith)
            (ap (λ xs. get_or xs i (view d)) (sym is_ts) ∙ get_or-map view us i d (view d) first ∙ ap view same
            ∙ sym (get_or-map view us j d (view d) inside) ∙ ap (λ xs. get_or xs j (view d)) is_ts)
