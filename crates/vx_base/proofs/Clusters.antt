-- The table of clusters and associations.
use Rattle.std.proofs.Common.{◌≡◌, ℕ, List, true, false, not, ◌&&◌, if◌then◌else◌, Option, Some, None, refl}
use Rattle.std.specs.List.{find}
use Rattle.vx_base.specs.Clusters.{Common, unchanged, gone, is_cluster, is_used, swept, swept_at}
use Rattle.vx_base.specs.Pieces.{Cluster}

-- to take out a cluster that nobody uses leaves the associations as they are
pub swept_keeps : (c : Common) (group : ℕ) (name : List ℕ) → (swept c group name).after.associations ≡ c.associations
swept_keeps c group name = elim (is_used c group name) as (λ b. (if b then unchanged c else swept_at c (find (is_cluster group name) c.clusters)).after.associations ≡ c.associations) [ true ↦ refl | false ↦ at (find (is_cluster group name) c.clusters) ]
  where
    at : (o : Option Cluster) → (swept_at c o).after.associations ≡ c.associations
    at None = refl
    at (Some cl) = elim (cl.permanent && not cl.marked) as (λ b. (if b then unchanged c else gone c cl.group cl.name).after.associations ≡ c.associations) [ true ↦ refl | false ↦ refl ]
