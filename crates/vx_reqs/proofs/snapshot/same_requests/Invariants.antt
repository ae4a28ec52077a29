use Rattle.std.proofs.Common.{◌≡◌, ◌↔◌, ◌-◌, drop, length}
use Rattle.vx_reqs.specs.Places.{live}
use Rattle.vx_reqs.proofs.snapshot.same_requests.Given as goal

abbrev pub invariant-loop-at : goal.invariant-loop-at
invariant-loop-at g l = (l.requests ≡ live l.places.items) ↔ (l.left ≡ live (drop l.at l.places.items))

abbrev pub decreases-loop-at : goal.decreases-loop-at
decreases-loop-at g l = length l.places.items - l.at
