-- How many effects a change has at most.
use Rattle.std.proofs.Common.{◌≤◌, ◌+◌, ℕ, List, [], Bool, true, false, ◌&&◌, not, if◌then◌else◌, Option, Some, None, length, length-append, arith}
use Rattle.std.specs.List.{find}
use Rattle.vx_base.specs.Clusters.{Common, Change, unchanged, followed, is_cluster, is_association, stands, is_used, made, gone, parted, swept_at, swept, dissociated_at, dissociated, has_already, made_where_new, joined, associated, with_mark, marked_at, cluster_number}
use Rattle.vx_base.specs.Lists.{amend}
use Rattle.vx_base.specs.Pieces.{Association, Cluster}
use Rattle.vx_base.specs.declared.number.Pid.{Pid}
use Rattle.vx_clusters.specs.Clusters.{associate, dissociate, associate_refusal, dissociate_refusal, unless}
use Rattle.vx_clusters.specs.declared.fail.AscFail.{AscFail}

-- of two changes
choice : (n : ℕ) (b : Bool) (x y : Change) → length x.effects ≤ n → length y.effects ≤ n → length (if b then x else y).effects ≤ n
choice n true x y few few_else = few
choice n false x y few few_else = few_else

refused_few : (n : ℕ) (o : Option AscFail) (c : Common) (change : Change) → length change.effects ≤ n → length (unless o c change).effects ≤ n
refused_few n None c change few = few
refused_few n (Some fail) c change few = omega arith

followed_few : (m n : ℕ) (a : Change) (f : Common → Change) → length a.effects ≤ m → length (f a.after).effects ≤ n → length (followed a f).effects ≤ m + n
followed_few m n a f few few_more = omega (arith, length-append a.effects (f a.after).effects)

swept_at_few : (c : Common) (o : Option Cluster) → length (swept_at c o).effects ≤ 1
swept_at_few c None = omega arith
swept_at_few c (Some cl) = choice 1 (cl.permanent && not cl.marked) (unchanged c) (gone c cl.group cl.name) (omega arith) (omega arith)

swept_few : (c : Common) (group : ℕ) (name : List ℕ) → length (swept c group name).effects ≤ 1
swept_few c group name = choice 1 (is_used c group name) (unchanged c) (swept_at c (find (is_cluster group name) c.clusters)) (omega arith) (swept_at_few c (find (is_cluster group name) c.clusters))

dissociated_at_few : (c : Common) (p : Pid) (k : ℕ) (o : Option Association) → length (dissociated_at c p k o).effects ≤ 2
dissociated_at_few c p k None = omega arith
dissociated_at_few c p k (Some a) = followed_few 1 1 (parted c p k) (λ d. swept d a.group a.name) (omega arith) (swept_few (parted c p k).after a.group a.name)

pub dissociate_few : (c : Common) (p : Pid) (efn : ℕ) → length (dissociate c p efn).effects ≤ 2
dissociate_few c p efn =
    let k = cluster_number efn in
    refused_few 2 (dissociate_refusal efn) c (dissociated c p k) (dissociated_at_few c p k (find (is_association p k) c.associations))

made_few : (c : Common) (group : ℕ) (name : List ℕ) (permanent : Bool) → length (made_where_new c group name permanent).effects ≤ 1
made_few c group name permanent = choice 1 (stands c group name) (unchanged c) (made c group name permanent) (omega arith) (omega arith)

associated_few : (c : Common) (p : Pid) (k group : ℕ) (name : List ℕ) (permanent : Bool) → length (associated c p k group name permanent).effects ≤ 4
associated_few c p k group name permanent =
    let first : Change = dissociated c p k in
    let second : Change = followed first (λ d. made_where_new d group name permanent) in
    choice 4 (has_already group name (find (is_association p k) c.associations)) (unchanged c) (followed second (λ e. joined e p k group name)) (omega arith)
    (followed_few 3 1 second (λ e. joined e p k group name)
    (followed_few 2 1 first (λ d. made_where_new d group name permanent) (dissociated_at_few c p k (find (is_association p k) c.associations)) (made_few first.after group name permanent))
    (omega arith))

pub associate_few : (c : Common) (p : Pid) (group efn : ℕ) (name : List ℕ) (permanent may : Bool) → length (associate c p group efn name permanent may).effects ≤ 4
associate_few c p group efn name permanent may =
    refused_few 4 (associate_refusal c group efn name permanent may) c (associated c p (cluster_number efn) group name permanent) (associated_few c p (cluster_number efn) group name permanent)

marked_at_few : (c : Common) (o : Option Cluster) → length (marked_at c o).effects ≤ 1
marked_at_few c None = omega arith
marked_at_few c (Some cl) =
    let kept : Change = record { effects = []; after = record c { clusters = amend (is_cluster cl.group cl.name) with_mark c.clusters } } in
    choice 1 (not cl.permanent) (unchanged c) (if is_used c cl.group cl.name then kept else gone c cl.group cl.name) (omega arith)
    (choice 1 (is_used c cl.group cl.name) kept (gone c cl.group cl.name) (omega arith) (omega arith))
