-- What the calls on the common event flag clusters answer and leave, in the words of `vx_base`.
use Rattle.std.specs.Prelude.{◌≡◌, ℕ, List, [], Bool, false, ◌&&◌, not, if◌then◌else◌, Option, Some, None, Result, Ok, Err, slice_index_or, slice_set, position}
use Rattle.std.specs.List.{find}
use Rattle.vx_base.specs.Clusters.{Common, Change, unchanged, cluster_number, is_cluster, is_common, is_association, stands, associated, dissociated, marked}
use Rattle.vx_base.specs.Flags.{with_flag}
use Rattle.vx_base.specs.Log.{Log, logged}
use Rattle.vx_base.specs.Pieces.{Cluster, Association}
use Rattle.vx_base.specs.declared.number.Pid.{Pid}
use Rattle.vx_clusters.specs.declared.fail.AscFail.{AscFail}
use Rattle.vx_clusters.specs.declared.fail.AscFail.TheVariants.{IllEfc, NoPriv}

-- the clusters and who has them associated, and how many of both there is room for in all
pub record Shared : Type 0 where
  pub common : Common
  pub cluster_capacity : ℕ
  pub association_capacity : ℕ

abbrev pub none : Shared
none = record { common = record { clusters = []; associations = [] }; cluster_capacity = 0; association_capacity = 0 }

abbrev pub with_clusters : Shared → List Cluster → Shared
with_clusters s clusters = record s { common = record s.common { clusters = clusters } }

-- $ASCEFC: ILLEFC if the flag is of no common cluster; NOPRIV for a permanent cluster that is not there, without the
-- privilege
abbrev pub associate_refusal : Common → ℕ → ℕ → List ℕ → Bool → Bool → Option AscFail
associate_refusal c group efn name permanent may =
    if not (is_common efn) then Some IllEfc else (
    if permanent && (not may && not (stands c group name)) then Some NoPriv else None)

-- $DACEFC
abbrev pub dissociate_refusal : ℕ → Option AscFail
dissociate_refusal efn = if is_common efn then None else Some IllEfc

-- $DLCEFC
abbrev pub mark_refusal : Bool → Option AscFail
mark_refusal may = if may then None else Some NoPriv

abbrev pub answer : Option AscFail → Result (Unit {0}) AscFail
answer None = Ok tt
answer (Some fail) = Err fail

-- a change, and none if there is a refusal
abbrev pub unless : Option AscFail → Common → Change → Change
unless None c change = change
unless (Some fail) c change = unchanged c

abbrev pub associate : Common → Pid → ℕ → ℕ → List ℕ → Bool → Bool → Change
associate c p group efn name permanent may =
    unless (associate_refusal c group efn name permanent may) c (associated c p (cluster_number efn) group name permanent)

abbrev pub dissociate : Common → Pid → ℕ → Change
dissociate c p efn = unless (dissociate_refusal efn) c (dissociated c p (cluster_number efn))

abbrev pub mark : Common → ℕ → List ℕ → Bool → Change
mark c group name may = unless (mark_refusal may) c (marked c group name)

-- a change is made: its effects are logged, it leaves what it says, and no room is lost
pub record Does (change : Change) (before after : Shared) (log_before log_after : Log) : Type 0 where
  pub logs : log_after ≡ logged log_before change.effects
  pub leaves : after ≡ record before { common = change.after }

-- where the cluster stands that a process has associated as its cluster k
abbrev pub place_of : Common → Option Association → Option ℕ
place_of c None = None
place_of c (Some a) = position (is_cluster a.group a.name) c.clusters

-- where the cluster of a flag stands that a process has associated
abbrev pub resolved : Common → Pid → ℕ → Option ℕ
resolved c p efn = if is_common efn then place_of c (find (is_association p (cluster_number efn)) c.associations) else None

-- what stands at no place
abbrev pub no_cluster : Cluster
no_cluster = record { group = 0; name = []; permanent = false; marked = false; flags = 0 }

abbrev pub cluster_at : Common → ℕ → Cluster
cluster_at c place = slice_index_or c.clusters place no_cluster

-- a flag of the cluster at a place set or cleared
abbrev pub with_flag_at : Common → ℕ → ℕ → Bool → Common
with_flag_at c place n on =
    record c { clusters = slice_set c.clusters place (record (cluster_at c place) { flags = with_flag (cluster_at c place).flags n on }) }
