-- Common event flag clusters: who has which associated, and what associating, dissociating and marking do.
use Rattle.std.specs.Prelude.{ℕ, ◌/◌, List, [], ◌∷◌, ◌++◌, Bool, true, false, ◌&&◌, ◌==◌, not, nat_le, if◌then◌else◌, Option, Some, None, bytes_eq}
use Rattle.std.specs.List.{find, list_any}
use Rattle.vx_base.specs.Lists.{less, amend}
use Rattle.vx_base.specs.Pieces.{Cluster, Association}
use Rattle.vx_base.specs.declared.effects.Effect.{Effect}
use Rattle.vx_base.specs.declared.effects.Effect.TheVariants.{Cef, Clu}
use Rattle.vx_base.specs.declared.number.Pid.{Pid}

-- the common clusters, and who has them associated
pub record Common : Type 0 where
  pub clusters : List Cluster
  pub associations : List Association

-- a change of them: its effects, and what they are after it
pub record Change : Type 0 where
  pub effects : List Effect
  pub after : Common

abbrev pub unchanged : Common → Change
unchanged c = record { effects = []; after = c }

-- one change, and then another on what it leaves
abbrev pub followed : Change → (Common → Change) → Change
followed a f = record { effects = a.effects ++ (f a.after).effects; after = (f a.after).after }

-- a flag's cluster, by its number: 2 for the flags 64 to 95, 3 for 96 to 127
abbrev pub cluster_number : ℕ → ℕ
cluster_number efn = efn / 32

-- it is the number of a flag of a common cluster
abbrev pub is_common : ℕ → Bool
is_common efn = nat_le 64 efn && nat_le efn 127

abbrev pub is_cluster : ℕ → List ℕ → Cluster → Bool
is_cluster group name cl = cl.group == group && bytes_eq cl.name name

-- it is what process p has as its cluster k
abbrev pub is_association : Pid → ℕ → Association → Bool
is_association p k a = a.p.0 == p.0 && a.k == k

-- it is of the cluster of this group and name
abbrev pub is_user : ℕ → List ℕ → Association → Bool
is_user group name a = a.group == group && bytes_eq a.name name

abbrev pub stands : Common → ℕ → List ℕ → Bool
stands c group name = list_any (is_cluster group name) c.clusters

-- somebody has it associated
abbrev pub is_used : Common → ℕ → List ℕ → Bool
is_used c group name = list_any (is_user group name) c.associations

-- Each change has one effect.

-- a new cluster, with all flags clear
abbrev pub made : Common → ℕ → List ℕ → Bool → Change
made c group name permanent = record {
  effects = Cef group name true ∷ [];
  after = record c { clusters = c.clusters ++ record { group = group; name = name; permanent = permanent; marked = false; flags = 0 } ∷ [] };
}

abbrev pub gone : Common → ℕ → List ℕ → Change
gone c group name = record { effects = Cef group name false ∷ []; after = record c { clusters = less (is_cluster group name) c.clusters } }

abbrev pub joined : Common → Pid → ℕ → ℕ → List ℕ → Change
joined c p k group name = record {
  effects = Clu p k (Some (group, name)) ∷ [];
  after = record c { associations = c.associations ++ record { p = p; k = k; group = group; name = name } ∷ [] };
}

abbrev pub parted : Common → Pid → ℕ → Change
parted c p k = record { effects = Clu p k None ∷ []; after = record c { associations = less (is_association p k) c.associations } }

-- $DACEFC: the association goes, and then the cluster if nobody has it and it is temporary or marked.

abbrev pub swept_at : Common → Option Cluster → Change
swept_at c None = unchanged c
swept_at c (Some cl) = if cl.permanent && not cl.marked then unchanged c else gone c cl.group cl.name

abbrev pub swept : Common → ℕ → List ℕ → Change
swept c group name = if is_used c group name then unchanged c else swept_at c (find (is_cluster group name) c.clusters)

abbrev pub dissociated_at : Common → Pid → ℕ → Option Association → Change
dissociated_at c p k None = unchanged c
dissociated_at c p k (Some a) = followed (parted c p k) (λ d. swept d a.group a.name)

abbrev pub dissociated : Common → Pid → ℕ → Change
dissociated c p k = dissociated_at c p k (find (is_association p k) c.associations)

-- $ASCEFC: nothing if p has that cluster there already; else what it has there goes, the cluster is made if it is
-- new, and p has it.

abbrev pub has_already : ℕ → List ℕ → Option Association → Bool
has_already group name None = false
has_already group name (Some a) = is_user group name a

abbrev pub made_where_new : Common → ℕ → List ℕ → Bool → Change
made_where_new c group name permanent = if stands c group name then unchanged c else made c group name permanent

abbrev pub associated : Common → Pid → ℕ → ℕ → List ℕ → Bool → Change
associated c p k group name permanent =
    if has_already group name (find (is_association p k) c.associations) then unchanged c else
    followed (followed (dissociated c p k) (λ d. made_where_new d group name permanent)) (λ e. joined e p k group name)

-- $DLCEFC: a permanent cluster is marked, and goes if nobody has it; nothing else is changed.

abbrev pub with_mark : Cluster → Cluster
with_mark cl = record cl { marked = true }

abbrev pub marked_at : Common → Option Cluster → Change
marked_at c None = unchanged c
marked_at c (Some cl) =
    if not cl.permanent then unchanged c else (
    if is_used c cl.group cl.name then record { effects = []; after = record c { clusters = amend (is_cluster cl.group cl.name) with_mark c.clusters } } else
    gone c cl.group cl.name)

abbrev pub marked : Common → ℕ → List ℕ → Change
marked c group name = marked_at c (find (is_cluster group name) c.clusters)
