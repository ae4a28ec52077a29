-- The table's rows, and their laws.
use Rattle.std.specs.Prelude.{◌≢◌, ◌≤◌, Bool, true, not, ◌&&◌, IsTrue, List, [], ◌∷◌, All, AllPairs, length, nat_le, Option, None, Some, bytes_eq}
use Rattle.std.specs.List.{list_all}
use Rattle.vx_base.specs.declared.service.Param.{Param}
use Rattle.vx_base.specs.declared.service.Param.TheVariants as param
use Rattle.vx_base.specs.Services.{ServiceRow, service_name, has_right_default, label_or_none, mode_or_kernel, value_or}
use Rattle.vx_table.specs.declared.slot.Slot.{Slot}
use Rattle.vx_table.specs.declared.slot.Slot.TheVariants as slot
use Rattle.vx_table.specs.declared.table.Row.{Row}

-- the argument that a service takes there
abbrev pub param_of : Slot → Param
param_of (slot.Required kind) = param.Required kind
param_of (slot.Number n) = value_or n
param_of slot.Mode = mode_or_kernel
param_of slot.Label = label_or_none

-- the arguments up to the first place that has none
abbrev pub params_in : List (Option Slot) → List Param
params_in [] = []
params_in (None ∷ more) = []
params_in (Some s ∷ more) = param_of s ∷ params_in more

abbrev pub row_of : Row → ServiceRow
row_of r = record { service = r.service; params = params_in r.params }

-- the test of one row: at most nine arguments, and each default is of its argument's kind
abbrev pub is_row : ServiceRow → Bool
is_row r = nat_le (length r.params) 9 && list_all has_right_default r.params

-- the test of two rows: their names differ
abbrev pub are_apart : ServiceRow → ServiceRow → Bool
are_apart r s = not (bytes_eq (service_name r.service) (service_name s.service))

-- the test of all rows, which goes over them: each row, and each with all below it
abbrev pub is_table : List ServiceRow → Bool
is_table [] = true
is_table (r ∷ rows) = is_row r && (list_all (are_apart r) rows && is_table rows)

-- the laws of a table's rows
pub record HasLaws (rows : List ServiceRow) : Type 0 where
  -- no two rows have one name
  pub names : AllPairs (λ r s. service_name r.service ≢ service_name s.service) rows
  -- what stands for an argument that is left out is of the argument's kind
  pub defaults : All (λ r. IsTrue (list_all has_right_default r.params)) rows
  -- a service takes at most nine arguments
  pub lengths : All (λ r. length r.params ≤ 9) rows
