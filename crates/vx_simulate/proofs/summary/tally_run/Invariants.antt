use Rattle.std.proofs.Common.{◌-◌}
use Rattle.vx_simulate.proofs.Summing.{Tallying}
use Rattle.vx_simulate.proofs.summary.tally_run.Given as goal

abbrev pub invariant-steps : goal.invariant-steps
invariant-steps l = Tallying l.fn.exec l.exec l.fn.seed l.next.x l.tally

abbrev pub decreases-steps : goal.decreases-steps
decreases-steps l = l.exec.limit - l.exec.taken
