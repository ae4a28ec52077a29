-- The mailboxes of records, which have a column each.
use Rattle.std.specs.Prelude.{ℕ, List, [], ◌∷◌, ◌++◌, bytes_eq, fold, position, Option, Some, None}
use Rattle.vx_base.specs.declared.effects.Effect.{Effect}
use Rattle.vx_base.specs.declared.effects.Effect.TheVariants as effect
use Rattle.vx_base.specs.declared.record.Rec.{Rec}

-- the place of a name among others, from 0
abbrev pub place_of : List (List ℕ) → List ℕ → Option ℕ
place_of names name = position (λ other. bytes_eq name other) names

abbrev pub unless_placed : Option ℕ → List (List ℕ) → List ℕ → List (List ℕ)
unless_placed (Some i) names name = names
unless_placed None names name = names ++ name ∷ []

-- names, and another if it is not among them
abbrev pub with_name : List (List ℕ) → List ℕ → List (List ℕ)
with_name names name = unless_placed (place_of names name) names name

abbrev pub with_effect : List (List ℕ) → Effect → List (List ℕ)
with_effect names (effect.Mbx name bit) = with_name names name
with_effect names _ = names

abbrev pub with_effects : List (List ℕ) → List Effect → List (List ℕ)
with_effects names effects = fold with_effect names effects

-- the names of mailboxes, in the order in which they were made first
abbrev pub box_names : List (List ℕ) → List Rec → List (List ℕ)
box_names names recs = fold (λ before rec. with_effects before rec.effects) names recs
