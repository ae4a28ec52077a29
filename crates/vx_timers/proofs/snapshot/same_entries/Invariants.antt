use Rattle.std.proofs.Common.{◌≡◌, ◌↔◌, drop}
use Rattle.vx_timers.specs.Places.{entries}
use Rattle.vx_timers.proofs.snapshot.same_entries.Given as goal

abbrev pub invariant-loop-place : goal.invariant-loop-place
invariant-loop-place g l = (l.dues ≡ entries l.places) ↔ (l.left ≡ entries (drop l.place-index l.places))
