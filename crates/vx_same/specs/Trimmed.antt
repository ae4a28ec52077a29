-- Lists of a fixed length without the end, if that is all alike.
use Rattle.std.specs.Prelude.{ℕ, ◌-◌, List, [], ◌∷◌, ◌++◌, Option, Some, None, drop, length, replicate}

-- so many items: the given ones, and others behind them that are all alike
abbrev pub filled_to : {A : Type 0} → ℕ → A → List A → List A
filled_to n rest items = items ++ replicate (n - length items) rest

-- a list after its first so many items were made alike, and then others laid over its start
abbrev pub laid_over : {A : Type 0} → ℕ → A → List A → List A → List A
laid_over used rest first items = first ++ drop (length first) (replicate used rest ++ drop used items)

-- a missing item in front of others, or nothing if no other is left
abbrev pub none_before : {A : Type 0} → List (Option A) → List (Option A)
none_before [] = []
none_before (x ∷ xs) = None ∷ x ∷ xs

-- without the missing items behind the last one that is there
abbrev pub trimmed : {A : Type 0} → List (Option A) → List (Option A)
trimmed [] = []
trimmed (None ∷ xs) = none_before (trimmed xs)
trimmed (Some x ∷ xs) = Some x ∷ trimmed xs
