use Rattle.std.proofs.Common.{◌↔◌, drop}
use Rattle.std.specs.List.{AllByRecursion}
use Rattle.vx_procs.specs.Units.{IsIn}
use Rattle.vx_procs.proofs.leases.are_in.Given as goal

abbrev pub invariant-loop-unit : goal.invariant-loop-unit
invariant-loop-unit l = AllByRecursion IsIn l.units ↔ AllByRecursion IsIn (drop l.unit-index l.units)
