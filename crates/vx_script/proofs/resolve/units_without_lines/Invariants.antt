use Rattle.std.proofs.Common.{◌≡◌, [], map, take}
use Rattle.vx_script.specs.Resolving.{unit_of}
use Rattle.vx_script.specs.Steps.{with_inputs}
use Rattle.vx_script.proofs.resolve.units_without_lines.Given as goal

abbrev pub invariant-loop-unit : goal.invariant-loop-unit
invariant-loop-unit l = l.units.items ≡ map (unit_of (with_inputs [] l.parts)) (take l.unit-index l.parts.units)
