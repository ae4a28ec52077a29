-- The log of one event.
use Rattle.std.specs.Prelude.{ℕ, List, ◌++◌}
use Rattle.vx_base.specs.Roomy.{Roomy, HasSpace, with_items}
use Rattle.vx_base.specs.declared.effects.Effect.{Effect}

-- the effects so far, and how many there is room for in all
abbrev pub Log : Type 0
Log = Roomy Effect

-- there is room for n more
abbrev pub HasRoom : Log → ℕ → Type 0
HasRoom log n = HasSpace log n

-- with more effects at the end
abbrev pub logged : Log → List Effect → Log
logged log more = with_items log (log.items ++ more)
