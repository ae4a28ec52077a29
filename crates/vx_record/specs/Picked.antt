-- The run that a list of places chooses: each record takes the enabled event at the next place, and behind the last place the first.
use Rattle.std.specs.Prelude.{◌≡◌, ℕ, zero, suc, ◌+◌, List, [], ◌∷◌, Option, None, Some, length, slice_get}
use Rattle.vx_record.specs.Types.{Event, Rec, System}
use Rattle.vx_record.specs.State.{State}
use Rattle.vx_record.specs.Events.{enabled, step}
use Rattle.vx_record.specs.Runs.{after, end_after, first, record_of}
use Rattle.vx_base.specs.Lists.{rest}

abbrev pub next_place : List ℕ → ℕ
next_place [] = 0
next_place (p ∷ ps) = p

-- the rest of the run from a record on, if the event is there
abbrev pub follow : State → List ℕ → Option Event → (State → List ℕ → Event → List Rec) → List Rec
follow s ps None go = []
follow s ps (Some e) go = go s (rest ps) e

-- at most n records more; it stops before a place that is not there
abbrev pub picked_from : ℕ → State → List ℕ → List Rec
picked_from zero s ps = []
picked_from (suc n) s ps = follow s ps (slice_get (enabled s) (next_place ps)) (λ t qs e. record_of t e ∷ picked_from n (step t e).after qs)

abbrev pub picked : System → List ℕ → ℕ → List Rec
picked system places limit = picked_from limit (first system) places

-- The run has not ended behind these records, but record n, the next, has no event at its place: m events are enabled there.
pub record IsMissing (system : System) (places : List ℕ) (limit n m : ℕ) : Type 0 where
  pub going : end_after system (picked system places limit) limit ≡ None
  pub next : n ≡ length (picked system places limit) + 1
  pub count : m ≡ length (enabled (after system (picked system places limit)))
