-- What every change of the common clusters keeps.
use Rattle.std.specs.Prelude.{List, [], ◌∷◌, Bool, true, ◌&&◌, not, IsTrue}
use Rattle.std.specs.List.{list_any, list_all}
use Rattle.vx_base.specs.Clusters.{Common, is_cluster, is_association}
use Rattle.vx_base.specs.Pieces.{Cluster, Association}

-- no item is the same as a later one
abbrev pub are_apart : {A : Type 0} → (A → A → Bool) → List A → Bool
are_apart same [] = true
are_apart same (x ∷ xs) = not (list_any (same x) xs) && are_apart same xs

-- of one group and name
abbrev pub is_same_cluster : Cluster → Cluster → Bool
is_same_cluster x y = is_cluster x.group x.name y

-- of one process and number
abbrev pub is_same_association : Association → Association → Bool
is_same_association x y = is_association x.p x.k y

abbrev pub has_cluster : List Cluster → Association → Bool
has_cluster clusters a = list_any (is_cluster a.group a.name) clusters

pub record IsSound (c : Common) : Type 0 where
  -- each association's cluster stands
  pub standing : IsTrue (list_all (has_cluster c.clusters) c.associations)
  -- clusters differ by group or name
  pub clusters : IsTrue (are_apart is_same_cluster c.clusters)
  -- associations differ by process or number
  pub associations : IsTrue (are_apart is_same_association c.associations)
