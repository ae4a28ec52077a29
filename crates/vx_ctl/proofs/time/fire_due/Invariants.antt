use Rattle.std.proofs.Common.{length}
use Rattle.std.specs.List.{filter}
use Rattle.vx_record.specs.Timers.{is_due}
use Rattle.vx_ctl.proofs.Ticking.{IsFiring}
use Rattle.vx_ctl.proofs.time.fire_due.Given as goal

abbrev pub invariant-due : goal.invariant-due
invariant-due g l = IsFiring l.now l.fn.core l.core

abbrev pub decreases-due : goal.decreases-due
decreases-due g l = length (filter (is_due l.now) l.core.state.timers)
