use Rattle.std.proofs.Common.{◌≡◌, ◌++◌, take}
use Rattle.std.specs.List.{flat_map}
use Rattle.vx_script.specs.Script.{ended_lines, unit_lines}
use Rattle.vx_script.proofs.print.print_units.Given as goal

abbrev pub invariant-loop-unit : goal.invariant-loop-unit
invariant-loop-unit l = l.out ≡ l.fn.out ++ ended_lines (flat_map unit_lines (take l.unit-index l.units))
