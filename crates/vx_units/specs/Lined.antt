-- Pending services of a line unit as the code keeps them.
use Rattle.std.specs.Prelude.{ℕ, ◌+◌, ◌<◌, List, [], ◌∷◌, ◌++◌, drop, Option, Some, None}
use Rattle.vx_base.specs.Pieces.{DeviceUnit, Lines}
use Rattle.vx_units.specs.declared.line.LinePending.{LinePending}
use Rattle.vx_units.specs.declared.line.LinePending.TheVariants as line

abbrev pub line_unit : List (List ℕ) → List (List ℕ) → List ℕ → ℕ → DeviceUnit
line_unit inputs outputs faults services = record { contents = Lines inputs outputs; faults = faults; services = services }

abbrev pub line_pending : LinePending → List (List ℕ) → List (List ℕ) → List ℕ → ℕ → Option DeviceUnit
line_pending line.Idle inputs outputs faults services = None
line_pending line.Counted inputs outputs faults services = Some (line_unit inputs outputs faults (services + 1))
line_pending line.Took inputs outputs faults services = Some (line_unit (drop 1 inputs) outputs faults (services + 1))
line_pending (line.Gave bytes) inputs outputs faults services = Some (line_unit inputs (outputs ++ bytes ∷ []) faults (services + 1))

-- how many lines a pending service was given
abbrev pub given : LinePending → ℕ
given (line.Gave bytes) = 1
given _ = 0

-- what a pending service of a line unit needs: the line that it took, room for the one that it was given, a count above
abbrev pub LineStands : LinePending → ℕ → ℕ → ℕ → ℕ → Type 0
LineStands line.Idle left kept room services = Unit {0}
LineStands line.Counted left kept room services = services < 4294967295
LineStands line.Took left kept room services = (0 < left) × (services < 4294967295)
LineStands (line.Gave bytes) left kept room services = (kept < room) × (services < 4294967295)
