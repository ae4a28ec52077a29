use Rattle.std.proofs.Common.{◌≡◌, drop}
use Rattle.vx_judge.specs.Readers.{counted_wait, least_of, lesser}
use Rattle.vx_judge.proofs.readers.least.Given as goal

abbrev pub invariant-loop-id : goal.invariant-loop-id
invariant-loop-id l = lesser l.found (least_of (counted_wait l.lives l.requests l.name) (drop l.id-index l.ids)) ≡ least_of (counted_wait l.lives l.requests l.name) l.ids
