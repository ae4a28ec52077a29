use Rattle.std.proofs.Common.{◌≡◌, length, map, take}
use Rattle.vx_procs.specs.Again.{AreWider}
use Rattle.vx_procs.specs.Snapshots.{books_in, process_in}
use Rattle.vx_procs.specs.View.{books_of, process}
use Rattle.vx_procs.proofs.restored.restore_all.Given as goal

abbrev pub invariant-loop-i : goal.invariant-loop-i
invariant-loop-i g l = record {
  long : length l.procs.items ≡ length l.kept;
  procs : map process (take l.i l.procs.items) ≡ map process_in (take l.i l.kept);
  books : AreWider (map books_in (take l.i l.kept)) (map books_of (take l.i l.procs.items));
}
