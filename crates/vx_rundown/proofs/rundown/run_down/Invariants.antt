use Rattle.std.proofs.Common.{length}
use Rattle.vx_record.specs.Rundown.{run_down}
use Rattle.vx_rundown.specs.Steps.{modes_from}
use Rattle.vx_rundown.proofs.Modes.{IsRunning}
use Rattle.vx_rundown.proofs.rundown.run_down.Given as goal

abbrev pub invariant-modes : goal.invariant-modes
invariant-modes g l = IsRunning l.p (run_down l.p (modes_from l.fn.outermost) l.fn.core.state) l.fn.core (modes_from l.next) l.core

abbrev pub decreases-modes : goal.decreases-modes
decreases-modes g l = length (modes_from l.next)
