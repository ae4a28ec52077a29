use Rattle.std.proofs.Common.{◌≡◌, ◌++◌, take}
use Rattle.vx_draw.specs.Columns.{unit_cells}
use Rattle.vx_draw.proofs.columns.print_unit_headings.Given as goal

abbrev pub invariant-loop-unit : goal.invariant-loop-unit
invariant-loop-unit l = l.out ≡ l.fn.out ++ unit_cells (take l.unit-index l.units)
