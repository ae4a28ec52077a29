use Rattle.std.proofs.Common.{◌≡◌, ◌++◌, take}
use Rattle.vx_draw.specs.Shapes.{escaped}
use Rattle.vx_draw.proofs.shapes.print_escaped.Given as goal

abbrev pub invariant-loop-b : goal.invariant-loop-b
invariant-loop-b l = l.out ≡ l.fn.out ++ escaped (take l.b-index l.text)
