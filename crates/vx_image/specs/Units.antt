-- Units as a script declares them.
use Rattle.std.specs.Prelude.{◌*◌, [], ◌==◌, if◌then◌else◌, replicate}
use Rattle.vx_base.specs.Pieces.{Contents, Lines, Blocks, DeviceUnit}
use Rattle.vx_image.specs.declared.unit.UnitDecl.{UnitDecl}

-- what a unit holds first: a line unit the lines of its declaration, a block unit zeros
abbrev pub first_contents : UnitDecl → Contents
first_contents u = if u.blocks == 0 then Lines u.inputs [] else Blocks (replicate (u.blocks * 512) 0)

abbrev pub first_unit : UnitDecl → DeviceUnit
first_unit u = record { contents = first_contents u; faults = u.faults; services = 0 }
