use Rattle.std.proofs.Common.{◌≡◌, map}
use Rattle.vx_script.specs.Resolving.{unit_of}
use Rattle.vx_script.specs.Steps.{with_inputs}
use Rattle.vx_script.proofs.resolve.units_of.Given as goal

abbrev pub invariant-loop-input : goal.invariant-loop-input
invariant-loop-input l = l.units.items ≡ map (unit_of (with_inputs l.yielded l.parts)) l.parts.units
