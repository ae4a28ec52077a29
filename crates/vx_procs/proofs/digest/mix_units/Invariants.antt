use Rattle.std.proofs.Common.{◌≡◌, drop, map}
use Rattle.vx_procs.specs.Digest.{mix_units}
use Rattle.vx_procs.specs.View.{unit_of}
use Rattle.vx_procs.proofs.digest.mix_units.Given as goal

abbrev pub invariant-loop-unit : goal.invariant-loop-unit
invariant-loop-unit l = mix_units l.mixed (map unit_of (drop l.unit-index l.units)) ≡ mix_units l.digest (map unit_of l.units)
