use Rattle.std.proofs.Common.{ℕ, ◌<◌, ◌≤◌, ◌-◌, length, get_or}
use Rattle.vx_reqs.specs.Places.{Place}
use Rattle.vx_reqs.proofs.found.first_from.Given as goal

-- the ids before `low` are below the number, and those from `high` on are not
abbrev pub invariant-loop-low : goal.invariant-loop-low
invariant-loop-low g l = record {
  order : l.low ≤ l.high;
  within : l.high ≤ length l.places.items;
  below : (k : ℕ) (d : Place) → k < l.low → (get_or l.places.items k d).id.0 < l.number;
  above : (k : ℕ) (d : Place) → l.high ≤ k → k < length l.places.items → l.number ≤ (get_or l.places.items k d).id.0;
}

abbrev pub decreases-loop-low : goal.decreases-loop-low
decreases-loop-low g l = l.high - l.low
