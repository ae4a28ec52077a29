use Rattle.std.proofs.Common.{◌≡◌, map, take}
use Rattle.vx_procs.specs.Again.{asked_in, stand_in}
use Rattle.vx_procs.specs.View.{unit_of}
use Rattle.vx_procs.proofs.snapshot.duplicate_units.Given as goal

abbrev pub invariant-loop-unit : goal.invariant-loop-unit
invariant-loop-unit l = record {
  units : map unit_of l.copy.items ≡ map unit_of (take l.unit-index l.units);
  asked : map asked_in l.copy.items ≡ map asked_in (take l.unit-index l.units);
  stands : map stand_in l.copy.items ≡ map stand_in (take l.unit-index l.units);
}
