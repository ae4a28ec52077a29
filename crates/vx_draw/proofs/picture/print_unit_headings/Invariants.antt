use Rattle.std.proofs.Common.{◌≡◌, ◌++◌, drop}
use Rattle.vx_draw.specs.Picture.{unit_headings}
use Rattle.vx_draw.proofs.picture.print_unit_headings.Given as goal

abbrev pub invariant-loop-i : goal.invariant-loop-i
invariant-loop-i l = l.out ++ unit_headings l.places l.until l.i (drop l.i l.units) ≡ l.fn.out ++ unit_headings l.places l.until 0 l.units
