use Rattle.std.proofs.Common.{map}
use Rattle.vx_procs.specs.Processes.{process}
use Rattle.vx_procs.specs.Summaries.{AreSeen}
use Rattle.vx_procs.proofs.seen.look.Given as goal

abbrev pub invariant-loop-place : goal.invariant-loop-place
invariant-loop-place g l = AreSeen l.seen.items (map process l.procs)
