use Rattle.std.proofs.Common.{◌≡◌, ℕ, ◌<◌, ◌-◌, false, length, get_or}
use Rattle.vx_reqs.specs.Places.{Place, holds}
use Rattle.vx_reqs.specs.Sought.{is_sought}
use Rattle.vx_reqs.proofs.found.place_from.Given as goal

-- none of those that were passed is of the kind
abbrev pub invariant-loop-at : goal.invariant-loop-at
invariant-loop-at g l = (k : ℕ) (d : Place) → k < l.at → k < length l.places.items → holds (is_sought l.sought) (get_or l.places.items k d) ≡ false

abbrev pub decreases-loop-at : goal.decreases-loop-at
decreases-loop-at g l = length l.places.items - l.at
