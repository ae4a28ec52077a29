use Rattle.vx_procs.specs.Summaries.{AreRight}
use Rattle.vx_procs.proofs.table.refresh.Given as goal

abbrev pub invariant-loop-b : goal.invariant-loop-b
invariant-loop-b g l = AreRight l.seen.items l.summaries.items l.procs
