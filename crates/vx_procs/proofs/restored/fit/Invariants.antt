use Rattle.std.proofs.Common.{◌≤◌, ◌-◌, length}
use Rattle.vx_procs.proofs.restored.fit.Given as goal

abbrev pub invariant-loop-alloc : goal.invariant-loop-alloc
invariant-loop-alloc g l = length l.procs.items ≤ length l.kept

abbrev pub decreases-loop-alloc : goal.decreases-loop-alloc
decreases-loop-alloc g l = length l.kept - length l.procs.items
