-- The common cluster at the place of its group and name is the one that the machine finds by them.
use Rattle.std.proofs.Common.{◌≡◌, ℕ, ◌<◌, List, Bool, Some, None, length, position, slice_index_or, slice_set, refl, ap}
use Rattle.std.specs.List.{find}
use Rattle.std.proofs.lemmas.List.{get_or_default}
use Rattle.vx_base.specs.Clusters.{is_cluster}
use Rattle.vx_base.specs.Flags.{with_flag}
use Rattle.vx_base.specs.Lists.{amend}
use Rattle.vx_record.specs.Types.{Cluster}
use Rattle.vx_base.proofs.First.{amend_at, amend_none, found_at, none_at}
use Rattle.vx_clusters.specs.Clusters.{no_cluster}
use Rattle.vx_record.specs.Flags.{cluster_flags, with_cluster_flag}

pub flags_there : (cs : List Cluster) (group : ℕ) (name : List ℕ) (i : ℕ) → Some i ≡ position (is_cluster group name) cs → i < length cs → (slice_index_or cs i no_cluster).flags ≡ cluster_flags (find (is_cluster group name) cs)
flags_there cs group name i place within =
    let cl : Cluster = slice_index_or cs i no_cluster in
    ap cluster_flags (found_at (is_cluster group name) cs i cl place (get_or_default cs i no_cluster cl within))

pub flags_nowhere : (cs : List Cluster) (group : ℕ) (name : List ℕ) → None ≡ position (is_cluster group name) cs → 0 ≡ cluster_flags (find (is_cluster group name) cs)
flags_nowhere cs group name place = ap cluster_flags (none_at (is_cluster group name) cs place).0

pub put_there : (cs : List Cluster) (group : ℕ) (name : List ℕ) (n i : ℕ) (on : Bool) → Some i ≡ position (is_cluster group name) cs → slice_set cs i (record (slice_index_or cs i no_cluster) { flags = with_flag (slice_index_or cs i no_cluster).flags n on }) ≡ amend (is_cluster group name) (with_cluster_flag n on) cs
put_there cs group name n i on place = amend_at (is_cluster group name) (with_cluster_flag n on) cs i no_cluster _ place refl

pub put_nowhere : (cs : List Cluster) (group : ℕ) (name : List ℕ) (n : ℕ) (on : Bool) → None ≡ position (is_cluster group name) cs → cs ≡ amend (is_cluster group name) (with_cluster_flag n on) cs
put_nowhere cs group name n on place = amend_none (is_cluster group name) (with_cluster_flag n on) cs place
