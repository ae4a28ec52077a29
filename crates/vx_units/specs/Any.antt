-- A unit of either kind, seen as a unit.
use Rattle.vx_units.specs.declared.any.AnyUnit.{AnyUnit}
use Rattle.vx_units.specs.declared.any.AnyUnit.TheVariants.{Line, Block}
use Rattle.vx_units.specs.Units.{Serving}

abbrev pub seen : AnyUnit → Serving
seen (Line unit) = unit
seen (Block unit) = unit
