use Rattle.std.proofs.Common.{◌≢◌, List, ℕ, All, take}
use Rattle.vx_base.specs.declared.cond.CondRow.{CondRow}
use Rattle.vx_base.specs.Cond.{name_of}
use Rattle.vx_base.proofs.cond.CondTable.with_name.Given as goal

-- a row has another name
abbrev pub IsOther : List ℕ → CondRow → Type 0
IsOther text row = name_of row.cond ≢ text

abbrev pub invariant-loop-row : goal.invariant-loop-row
invariant-loop-row g l = All (IsOther l.text) (take l.row-index l.row-items)
