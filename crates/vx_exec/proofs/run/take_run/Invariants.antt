use Rattle.std.proofs.Common.{◌-◌}
use Rattle.vx_exec.proofs.Runs.{Taking}
use Rattle.vx_exec.proofs.run.take_run.Given as goal

abbrev pub invariant-steps : goal.invariant-steps
invariant-steps g l = Taking l.fn.exec l.exec l.fn.seed l.next.x l.recs

abbrev pub decreases-steps : goal.decreases-steps
decreases-steps g l = l.exec.limit - l.exec.taken
