use Rattle.std.proofs.Common.{length}
use Rattle.vx_timers.specs.Seen.{passes}
use Rattle.vx_procs.proofs.Ended.{IsEnding}
use Rattle.vx_procs.proofs.timers.drop_timers.Given as goal

abbrev pub invariant-timers : goal.invariant-timers
invariant-timers g l = IsEnding (passes l.which) l.fn.core l.core

abbrev pub decreases-timers : goal.decreases-timers
decreases-timers g l = length l.core.state.timers
