-- A list with room that was made before.
use Rattle.std.specs.Prelude.{ℕ, ◌+◌, ◌≤◌, List, length}

-- the items, and how many there is room for in all
pub record Roomy (T : Type 0) : Type 0 where
  pub items : List T
  pub capacity : ℕ

-- there is room for n more
abbrev pub HasSpace : {T : Type 0} → Roomy T → ℕ → Type 0
HasSpace r n = length r.items + n ≤ r.capacity

-- other items, in the same room
abbrev pub with_items : {T : Type 0} → Roomy T → List T → Roomy T
with_items r items = record r { items = items }
