use Rattle.std.proofs.Common.{◌≡◌, ◌-◌, ◌++◌, drop, length}
use Rattle.vx_reqs.specs.Places.{live}
use Rattle.vx_reqs.proofs.snapshot.put_away.Given as goal

abbrev pub invariant-loop-at : goal.invariant-loop-at
invariant-loop-at g l = l.requests.items ++ live (drop l.at l.places.items) ≡ live l.places.items

abbrev pub decreases-loop-at : goal.decreases-loop-at
decreases-loop-at g l = length l.places.items - l.at
