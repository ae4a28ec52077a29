use Rattle.std.proofs.Common.{◌≡◌, ◌++◌, take}
use Rattle.std.specs.List.{flat_map}
use Rattle.vx_script.specs.Script.{ended_lines, image_lines}
use Rattle.vx_script.proofs.print.print_images.Given as goal

abbrev pub invariant-loop-image : goal.invariant-loop-image
invariant-loop-image l = l.out ≡ l.fn.out ++ ended_lines (flat_map image_lines (take l.image-index l.images))
