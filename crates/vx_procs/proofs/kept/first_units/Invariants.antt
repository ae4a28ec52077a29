use Rattle.std.proofs.Common.{◌≡◌, ◌++◌, drop, map}
use Rattle.std.specs.List.{AllByRecursion}
use Rattle.vx_image.specs.Units.{first_unit}
use Rattle.vx_procs.specs.Units.{IsIn}
use Rattle.vx_procs.specs.View.{unit_of}
use Rattle.vx_procs.proofs.kept.first_units.Given as goal

abbrev pub invariant-loop-decl : goal.invariant-loop-decl
invariant-loop-decl l = record {
  units : map unit_of l.units.items ++ map first_unit (drop l.decl-index l.decls) ≡ map first_unit l.decls;
  home : AllByRecursion IsIn l.units.items;
}
