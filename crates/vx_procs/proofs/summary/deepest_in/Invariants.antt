use Rattle.std.proofs.Common.{◌≡◌, drop, map}
use Rattle.vx_procs.specs.Processes.{process}
use Rattle.vx_procs.specs.Words.{deeper, deepest}
use Rattle.vx_procs.proofs.summary.deepest_in.Given as goal

abbrev pub invariant-loop-place : goal.invariant-loop-place
invariant-loop-place g l = deeper l.most (deepest (map process (drop l.place l.procs))) ≡ deepest (map process l.procs)
