use Rattle.std.proofs.Common.{◌≡◌, ◌*◌, drop, map}
use Rattle.vx_procs.specs.Processes.{process}
use Rattle.vx_procs.specs.Words.{deeper, deepest}
use Rattle.vx_procs.proofs.table.Procs.deepest.Given as goal

abbrev pub invariant-loop-b : goal.invariant-loop-b
invariant-loop-b g l = deeper l.most (deepest (drop (32 * l.b) (map process l.self.items))) ≡ deepest (map process l.self.items)
