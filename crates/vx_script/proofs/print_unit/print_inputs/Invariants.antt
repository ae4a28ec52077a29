use Rattle.std.proofs.Common.{◌≡◌, ◌++◌, map, take}
use Rattle.vx_script.specs.Script.{ended_lines, input_line}
use Rattle.vx_script.proofs.print_unit.print_inputs.Given as goal

abbrev pub invariant-loop-bytes : goal.invariant-loop-bytes
invariant-loop-bytes l = l.out ≡ l.fn.out ++ ended_lines (map (input_line l.name) (take l.bytes-index l.inputs))
