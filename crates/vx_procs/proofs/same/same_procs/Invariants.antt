use Rattle.std.proofs.Common.{◌≡◌, ◌↔◌, drop, map}
use Rattle.vx_procs.specs.Snapshots.{process_in}
use Rattle.vx_procs.specs.View.{process}
use Rattle.vx_procs.proofs.same.same_procs.Given as goal

abbrev pub invariant-loop-i : goal.invariant-loop-i
invariant-loop-i g l = (map process_in l.kept ≡ map process l.procs) ↔ (map process_in (drop l.i l.kept) ≡ map process (drop l.i l.procs))
