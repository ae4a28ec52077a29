use Rattle.std.proofs.Common.{◌≡◌, ◌++◌, drop}
use Rattle.vx_draw.specs.Picture.{box_headings}
use Rattle.vx_draw.proofs.picture.print_box_headings.Given as goal

abbrev pub invariant-loop-i : goal.invariant-loop-i
invariant-loop-i l = l.out ++ box_headings l.places l.until l.i (drop l.i l.boxes) ≡ l.fn.out ++ box_headings l.places l.until 0 l.boxes
