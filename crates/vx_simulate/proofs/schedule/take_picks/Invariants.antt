use Rattle.std.proofs.Common.{◌-◌}
use Rattle.vx_simulate.proofs.Following.{Following}
use Rattle.vx_simulate.proofs.schedule.take_picks.Given as goal

abbrev pub invariant-steps : goal.invariant-steps
invariant-steps g l = Following l.fn.exec l.exec l.fn.places l.left l.recs

abbrev pub decreases-steps : goal.decreases-steps
decreases-steps g l = l.exec.limit - l.exec.taken
