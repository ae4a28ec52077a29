-- Pending services of a block unit as the code keeps them.
use Rattle.std.specs.Prelude.{ℕ, ◌+◌, ◌≤◌, ◌<◌, List, ◌++◌, length, take, drop, Option, Some, None}
use Rattle.vx_base.specs.Pieces.{DeviceUnit, Blocks}
use Rattle.vx_units.specs.declared.block.BlockPending.{BlockPending}
use Rattle.vx_units.specs.declared.block.BlockPending.TheVariants.{Idle, Counted, Wrote}

abbrev pub block_unit : List ℕ → List ℕ → ℕ → DeviceUnit
block_unit bytes faults services = record { contents = Blocks bytes; faults = faults; services = services }

-- what a pending service makes of a unit
abbrev pub block_pending : BlockPending → List ℕ → List ℕ → ℕ → Option DeviceUnit
block_pending Idle bytes faults services = None
block_pending Counted bytes faults services = Some (block_unit bytes faults (services + 1))
block_pending (Wrote at piece) bytes faults services = Some (block_unit (take at bytes ++ piece ++ drop (at + length piece) bytes) faults (services + 1))

-- what a pending service needs: its place within the unit, and a count that can rise
abbrev pub BlockStands : BlockPending → ℕ → ℕ → Type 0
BlockStands Idle len services = Unit {0}
BlockStands Counted len services = services < 4294967295
BlockStands (Wrote at piece) len services = (at + length piece ≤ len) × (services < 4294967295)
