-- The names of the columns of a picture.
use Rattle.std.specs.Prelude.{ℕ, Bool, true, false, List, [], ◌∷◌, ◌++◌, flat_map, if◌then◌else◌}
use Rattle.std.specs.List.{list_any}
use Rattle.vx_base.specs.declared.effects.Effect.{Effect}
use Rattle.vx_base.specs.declared.effects.Effect.TheVariants as effect
use Rattle.vx_base.specs.declared.record.Rec.{Rec}
use Rattle.vx_image.specs.declared.decl.ProcDecl.{ProcDecl}
use Rattle.vx_image.specs.declared.system.System.{System}

-- the name of a process that is there from the start
abbrev pub started_name : ProcDecl → List (List ℕ)
started_name decl = if decl.start then decl.name ∷ [] else []

abbrev pub started_names : List ProcDecl → List (List ℕ)
started_names decls = flat_map started_name decls

-- the name of the process that an effect made
abbrev pub new_name : Effect → List (List ℕ)
new_name (effect.New p name) = name ∷ []
new_name _ = []

abbrev pub effects_names : List Effect → List (List ℕ)
effects_names effects = flat_map new_name effects

abbrev pub new_names : List Rec → List (List ℕ)
new_names recs = flat_map (λ rec. effects_names rec.effects) recs

-- the names of all processes, by their numbers from 1
abbrev pub process_names : System → List Rec → List (List ℕ)
process_names system recs = started_names system.decls ++ new_names recs

abbrev pub is_cluster : Effect → Bool
is_cluster (effect.Cef group name bit) = true
is_cluster _ = false

abbrev pub has_cluster : List Effect → Bool
has_cluster effects = list_any is_cluster effects

-- whether records have a common cluster
abbrev pub has_clusters : List Rec → Bool
has_clusters recs = list_any (λ rec. has_cluster rec.effects) recs
