use Rattle.std.proofs.Common.{◌≡◌, ◌++◌, map, take}
use Rattle.vx_script.specs.Script.{ended_lines, label_line}
use Rattle.vx_script.proofs.print_image.print_labels.Given as goal

abbrev pub invariant-loop-label : goal.invariant-loop-label
invariant-loop-label l = l.out ≡ l.fn.out ++ ended_lines (map label_line (take l.label-index l.labels))
