-- Words on lists that the structures and the machine share.
use Rattle.std.specs.Prelude.{ℕ, List, [], ◌∷◌, ◌++◌, Bool, false, if◌then◌else◌, drop, length, ◌+◌, Option, Some, None}
use Rattle.vx_base.specs.Flags.{one}

-- the first item, if there is one
abbrev pub first : {A : Type 0} → List A → Option A
first [] = None
first (x ∷ xs) = Some x

-- there is one, and it passes
abbrev pub is_some_and : {A : Type 0} → (A → Bool) → Option A → Bool
is_some_and p None = false
is_some_and p (Some a) = p a

-- the items behind the first
abbrev pub rest : {A : Type 0} → List A → List A
rest [] = []
rest (x ∷ xs) = xs

-- the list without the first that passes
abbrev pub less : {A : Type 0} → (A → Bool) → List A → List A
less p [] = []
less p (x ∷ xs) = if p x then xs else x ∷ less p xs

-- the list with the first that passes changed by f
abbrev pub amend : {A : Type 0} → (A → Bool) → (A → A) → List A → List A
amend p f [] = []
amend p f (x ∷ xs) = if p x then f x ∷ xs else x ∷ amend p f xs

-- bytes written over the start of others
abbrev pub overlaid : List ℕ → List ℕ → List ℕ
overlaid piece bytes = piece ++ drop (length piece) bytes

-- how many of a list pass
abbrev pub tally : {A : Type 0} → (A → Bool) → List A → ℕ
tally p [] = 0
tally p (x ∷ xs) = one (p x) + tally p xs

-- what a list comes to, each item counted as f says
abbrev pub total : {A : Type 0} → (A → ℕ) → List A → ℕ
total f [] = 0
total f (x ∷ xs) = f x + total f xs
