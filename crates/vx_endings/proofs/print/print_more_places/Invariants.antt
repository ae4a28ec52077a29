use Rattle.std.proofs.Common.{◌≡◌, ◌++◌, take}
use Rattle.vx_endings.specs.Text.{more_places}
use Rattle.vx_endings.proofs.print.print_more_places.Given as goal

abbrev pub invariant-loop-place : goal.invariant-loop-place
invariant-loop-place l = l.out ≡ l.fn.out ++ more_places (take l.place-index l.places)
