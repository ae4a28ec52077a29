use Rattle.std.proofs.Common.{◌≡◌, ◌++◌, drop}
use Rattle.vx_timers.specs.Places.{entries}
use Rattle.vx_timers.proofs.snapshot.put_away.Given as goal

abbrev pub invariant-loop-place : goal.invariant-loop-place
invariant-loop-place g l = l.dues.items ++ entries (drop l.place-index l.places) ≡ entries l.places
