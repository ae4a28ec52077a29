-- Each run of the machine that has ended has a row, and each row is such a run's.
use Rattle.std.proofs.Common.{◌≡◌, ℕ, zero, suc, ◌+◌, ◌<◌, ◌≤◌, List, [], ◌∷◌, length, Some, refl, sym, ap, subst, ◌∙◌, map, arith, inl, inr, ◌⊎◌, eq-eqb, zero-add}
use Rattle.std.specs.Prelude.{Contains, flat_map, slice_get}
use Rattle.std.specs.List.{AllByRecursion, range_with_len}
use Rattle.std.proofs.lemmas.Bool.{cases_eq, ne_eqb}
use Rattle.std.proofs.lemmas.List.{get_or-map, length-map}
use Rattle.std.proofs.lemmas.List.Elements.{Contains-append_left, Contains-append_right}
use Rattle.std.proofs.lemmas.Option.{slice_get_read}
use Rattle.vx_record.specs.Types.{End, Event, Rec, System}
use Rattle.vx_record.specs.Events.{enabled, step}
use Rattle.vx_record.specs.Runs.{AreSteps, after, after_from, end_of, first}
use Rattle.vx_record.specs.State.{State}
use Rattle.vx_explore.specs.Runs.{Run, no_steps, row_of, shortest_first, step_before}
use Rattle.vx_endings.specs.declared.ending.RunEnding.{RunEnding}
use Rattle.vx_endings.specs.Endings.{ending_at, endings, is_same, trailer_text}
use Rattle.vx_endings.specs.EndsSo.{EndsSo, IsWitnessed}
use Rattle.vx_endings.specs.Interleavings.{after_event, after_place, all_runs, event_count, runs_from}
use Rattle.vx_record.specs.Picked.{picked_from}
use Rattle.vx_endings.specs.Same.{same_is_equal}
use Rattle.vx_endings.proofs.Chosen.{IsChosen, all_chosen}
use Rattle.vx_endings.proofs.Rows.{all_shortest, all_summary, contains_first, contains_shortest, contains_summary}
use Rattle.vx_endings.proofs.Stopped.{ended_at, none_enabled, stopped_at}
use Rattle.vx_record.proofs.Lists.{all_weaker}

contains_map : {A B : Type 0} (f : A → B) (xs : List A) (x : A) → Contains xs x → Contains (map f xs) (f x)
contains_map f xs x h = (h.0, rw (length-map xs f) h.1, get_or-map f xs h.0 x (f x) h.1 ∙ ap f h.2)

contains_range : {A : Type 0} (f : ℕ → List A) (a k i : ℕ) (y : A) → a ≤ i → i < a + k → Contains (f i) y → Contains (flat_map f (range_with_len a k)) y
contains_range f a zero i y above below h = absurd (omega arith)
contains_range f a (suc k) i y above below h =
    elim (cases_eq i a) [
      | inl same ↦ Contains-append_left (f a) (flat_map f (range_with_len (a + 1) k)) y (subst (λ j. Contains (f j) y) same h)
      | inr other ↦ Contains-append_right (f a) (flat_map f (range_with_len (a + 1) k)) y (contains_range f (a + 1) k i y (omega arith) (omega arith) h)
    ]

-- A run of the machine is among all runs.

abbrev stop_at : List ℕ → State → Run State
stop_at ps s = record { picks = ps; last = s }

-- the places of the run's events
record IsAmong (n : ℕ) (s : State) (recs : List Rec) (ps : List ℕ) : Type 0 where
  count : length ps ≡ length recs
  among : Contains (runs_from n s) (stop_at ps (after_from s recs))

among_none : (n : ℕ) (s : State) → enabled s ≡ [] → Contains (runs_from (suc n) s) (no_steps s)
among_none n s none =
    rw (eq-eqb (event_count s) 0 (ap (λ (es : List Event). length es) none)) (contains_first (no_steps s) [])

among_more : (n : ℕ) (s : State) (i : ℕ) (r : Run State) → i < length (enabled s) → Contains (runs_from n (after_place s i)) r → Contains (runs_from (suc n) s) (step_before i r)
among_more n s i r within h =
    rw (ne_eqb (event_count s) 0 (λ none. omega arith))
    (contains_range (λ i. map (step_before i) (runs_from n (after_place s i))) 0 (event_count s) i (step_before i r) (omega arith) (omega arith)
    (contains_map (step_before i) (runs_from n (after_place s i)) r h))

among : (limit taken n : ℕ) (s : State) (recs : List Rec) (end : End) → taken + n ≡ limit → length recs ≤ n → AreSteps s recs
    → end_of limit (taken + length recs) (after_from s recs) ≡ Some end → (ps : List ℕ) × IsAmong n s recs ps
among limit taken zero s [] end left few steps ended = ([], record { count = refl; among = contains_first (no_steps s) [] })
among limit taken zero s (r ∷ recs) end left few steps ended = absurd (omega arith)
among limit taken (suc n) s [] end left few steps ended =
    ([], record { count = refl; among = among_none n s (none_enabled limit (taken + 0) s end (omega arith) ended) })
among limit taken (suc n) s (r ∷ recs) end left few steps ended =
    let e = r.event in
    let there = steps.0.enabled in
    let i = there.0 in
    let is_e : slice_get (enabled s) i ≡ Some e = slice_get_read (enabled s) (length (enabled s)) i e refl there.1 (sym there.2) in
    let counted : (taken + 1) + length recs ≡ taken + suc (length recs) = omega arith in
    let rest = among limit (taken + 1) n (step s e).after recs end (omega arith) (omega arith) steps.1 (rw counted ended) in (
      i ∷ rest.0,
      record {
        count = ap suc rest.1.count;
        among = among_more n s i (stop_at rest.0 (after_from (step s e).after recs)) there.1
            (subst (λ o. Contains (runs_from n (after_event s o)) (stop_at rest.0 (after_from (step s e).after recs))) (sym is_e) rest.1.among);
      },
    )

-- the run that makes these records, among all runs with the shortest first
pub record IsRunOf (system : System) (limit : ℕ) (recs : List Rec) (ending : RunEnding) (r : Run State) : Type 0 where
  pub count : length r.picks ≡ length recs
  pub ends : ending_at r.last ≡ ending
  pub there : Contains (shortest_first limit (all_runs system limit)) r

pub run_of : (system : System) (limit : ℕ) (recs : List Rec) (ending : RunEnding) → EndsSo system limit recs ending → (r : Run State) × IsRunOf system limit recs ending r
run_of system limit recs ending e =
    let there = among limit 0 limit (first system) recs ending.end (omega arith) e.within e.run.steps (rw zero-add e.ended) in
    let r = stop_at there.0 (after system recs) in (
      r,
      record {
        count = there.1.count;
        ends = ap (λ x. record { end = x; trailer = trailer_text (after system recs) }) (ended_at limit (length recs) (after system recs) ending.end e.ended)
            ∙ ap (λ x. record { end = ending.end; trailer = x }) (sym e.trailer);
        there = contains_shortest limit (all_runs system limit) r (let count = there.1.count in let within = e.within in omega arith) there.1.among;
      },
    )

-- each run that has ended has a row
pub every_run_told : (system : System) (limit : ℕ) (recs : List Rec) (ending : RunEnding) → EndsSo system limit recs ending
    → Contains (map (λ row. row.what) (endings system limit)) ending
every_run_told system limit recs ending e =
    let run = run_of system limit recs ending e in
    subst (Contains (map (λ row. row.what) (endings system limit))) run.1.ends
    (contains_summary ending_at is_same same_is_equal (shortest_first limit (all_runs system limit)) run.0 run.1.there)

-- Each row is a run's.

witnessed : (system : System) (limit : ℕ) (all : List (Run State)) (r : Run State) → limit ≤ 100000 → IsChosen limit (first system) r → IsWitnessed system limit (row_of ending_at is_same all r)
witnessed system limit all r few c = record {
  ends = record {
    run = record { few = let count = c.count in let within = c.within in omega arith; steps = c.steps };
    within = let count = c.count in let within = c.within in omega arith;
    ended = ap (end_of limit (length recs)) c.last ∙ ap (λ n. end_of limit n r.last) c.count ∙ stopped_at limit (length r.picks) r.last stops;
    trailer = ap trailer_text (sym c.last);
  };
  count = c.count;
}
  where
    recs : List Rec
    recs = picked_from limit (first system) r.picks

    stops : (limit ≤ length r.picks) ⊎ (enabled r.last ≡ [])
    stops = elim c.stops [ inl full ↦ inl (omega arith) | inr none ↦ inr none ]

pub every_row_witnessed : (system : System) (limit : ℕ) → limit ≤ 100000 → AllByRecursion (IsWitnessed system limit) (endings system limit)
every_row_witnessed system limit few =
    let all = shortest_first limit (all_runs system limit) in
    all_summary ending_at is_same (IsWitnessed system limit) all
    (all_weaker (IsChosen limit (first system)) (λ r. IsWitnessed system limit (row_of ending_at is_same all r)) (λ r c. witnessed system limit all r few c) all
    (all_shortest (IsChosen limit (first system)) limit (all_runs system limit) (all_chosen limit (first system))))
