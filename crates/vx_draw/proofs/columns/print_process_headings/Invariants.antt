use Rattle.std.proofs.Common.{◌≡◌, ◌+◌, ◌++◌, drop}
use Rattle.vx_draw.specs.Columns.{process_cells}
use Rattle.vx_draw.proofs.columns.print_process_headings.Given as goal

abbrev pub invariant-loop-i : goal.invariant-loop-i
invariant-loop-i l = l.out ++ process_cells (1 + l.i) (drop l.i l.names) ≡ l.fn.out ++ process_cells 1 l.names
