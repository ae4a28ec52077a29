-- Each run is the one that its places choose.
use Rattle.std.proofs.Common.{◌≡◌, ℕ, zero, suc, ◌+◌, ◌≤◌, List, [], ◌∷◌, length, Bool, true, false, cond, Option, Some, None, refl, ap, map, arith, inl, inr, ◌⊎◌, eqb-true}
use Rattle.std.specs.Prelude.{◌==◌, flat_map, slice_get}
use Rattle.std.specs.List.{AllByRecursion, range_with_len}
use Rattle.std.proofs.lemmas.Option.{get_or_from_slice_get, slice_get_within}
use Rattle.std.proofs.lemmas.List.{nil_from_length}
use Rattle.vx_record.specs.Types.{Event}
use Rattle.vx_record.specs.Events.{enabled, step}
use Rattle.vx_record.specs.Runs.{AreSteps, after_from, record_of}
use Rattle.vx_record.specs.State.{State}
use Rattle.vx_explore.specs.Runs.{Run, no_steps, step_before}
use Rattle.vx_endings.specs.Interleavings.{after_event, after_place, event_count, runs_from}
use Rattle.vx_record.specs.Picked.{follow, picked_from}
use Rattle.vx_record.proofs.Lists.{all_append}

-- the records that the run's places choose are those of a run of the machine that stops where the run does
pub record IsChosen (n : ℕ) (s : State) (r : Run State) : Type 0 where
  pub steps : AreSteps s (picked_from n s r.picks)
  pub last : after_from s (picked_from n s r.picks) ≡ r.last
  pub count : length (picked_from n s r.picks) ≡ length r.picks
  pub within : length r.picks ≤ n
  pub stops : (length r.picks ≡ n) ⊎ (enabled r.last ≡ [])

-- if nothing is enabled
chosen_none : (n : ℕ) (s : State) → enabled s ≡ [] → IsChosen (suc n) s (no_steps s)
chosen_none n s none = record {
  steps = rw is_empty tt;
  last = rw is_empty refl;
  count = rw is_empty refl;
  within = omega arith;
  stops = inr none;
}
  where
    is_empty : picked_from (suc n) s [] ≡ []
    is_empty = ap (λ es. follow s [] (slice_get es 0) (λ t qs e. record_of t e ∷ picked_from n (step t e).after qs)) none

-- one record more at the front
chosen_more : (n : ℕ) (s : State) (i : ℕ) (e : Event) → slice_get (enabled s) i ≡ Some e → (r : Run State) → IsChosen n (step s e).after r → IsChosen (suc n) s (step_before i r)
chosen_more n s i e there r c = record {
  steps = rw is_more (record { enabled = (i, slice_get_within (enabled s) i e there, get_or_from_slice_get (enabled s) i e e there); answer = refl; effects = refl }, c.steps);
  last = rw is_more c.last;
  count = rw is_more (ap suc c.count);
  within = let within = c.within in omega arith;
  stops = at c.stops;
}
  where
    is_more : picked_from (suc n) s (i ∷ r.picks) ≡ record_of s e ∷ picked_from n (step s e).after r.picks
    is_more = ap (λ o. follow s (i ∷ r.picks) o (λ t qs e. record_of t e ∷ picked_from n (step t e).after qs)) there

    at : (length r.picks ≡ n) ⊎ (enabled r.last ≡ []) → (suc (length r.picks) ≡ suc n) ⊎ (enabled r.last ≡ [])
    at (inl full) = inl (ap suc full)
    at (inr none) = inr none

chosen_each : (n : ℕ) (s : State) (i : ℕ) (e : Event) → slice_get (enabled s) i ≡ Some e → (rs : List (Run State)) → AllByRecursion (IsChosen n (step s e).after) rs
    → AllByRecursion (IsChosen (suc n) s) (map (step_before i) rs)
chosen_each n s i e there [] a = tt
chosen_each n s i e there (r ∷ rs) a = (chosen_more n s i e there r a.0, chosen_each n s i e there rs a.1)

past_end : {A : Type 0} (xs : List A) (i : ℕ) → slice_get xs i ≡ None → length xs ≤ i
past_end [] i past = omega arith
past_end (x ∷ xs) zero past = absurd (cc)
past_end (x ∷ xs) (suc i) past = let rest = past_end xs i past in omega arith

-- behind each of these places
chosen_behind : (n : ℕ) (s : State) → ((t : State) → AllByRecursion (IsChosen n t) (runs_from n t)) → (i k : ℕ) → i + k ≡ length (enabled s)
    → AllByRecursion (IsChosen (suc n) s) (flat_map (λ i. map (step_before i) (runs_from n (after_place s i))) (range_with_len i k))
chosen_behind n s rest i zero within = tt
chosen_behind n s rest i (suc k) within =
    all_append (IsChosen (suc n) s) (map (step_before i) (runs_from n (after_place s i)))
    (flat_map (λ i. map (step_before i) (runs_from n (after_place s i))) (range_with_len (i + 1) k))
    (at (slice_get (enabled s) i) refl) (chosen_behind n s rest (i + 1) k (omega arith))
  where
    at : (o : Option Event) → slice_get (enabled s) i ≡ o → AllByRecursion (IsChosen (suc n) s) (map (step_before i) (runs_from n (after_event s o)))
    at None past = absurd (let none = past_end (enabled s) i past in omega arith)
    at (Some e) there = chosen_each n s i e there (runs_from n (step s e).after) (rest (step s e).after)

pub all_chosen : (n : ℕ) (s : State) → AllByRecursion (IsChosen n s) (runs_from n s)
all_chosen zero s = (record { steps = tt; last = refl; count = refl; within = omega arith; stops = inl refl }, tt)
all_chosen (suc n) s = at (λ t. all_chosen n t) (event_count s == 0) refl
  where
    at : ((t : State) → AllByRecursion (IsChosen n t) (runs_from n t)) → (b : Bool) → (event_count s == 0) ≡ b
        → AllByRecursion (IsChosen (suc n) s) (cond b (no_steps s ∷ []) (flat_map (λ i. map (step_before i) (runs_from n (after_place s i))) (range_with_len 0 (event_count s))))
    at rest true none = (chosen_none n s (nil_from_length (enabled s) (eqb-true (event_count s) 0 none)), tt)
    at rest false some = chosen_behind n s rest 0 (event_count s) (omega arith)
