-- Services on common clusters, as the calls on them answer and leave.
use Rattle.std.proofs.Common.{◌≡◌, ℕ, List, Bool, true, false, ◌&&◌, ◌==◌, not, if◌then◌else◌, Some, None, refl}
use Rattle.vx_base.specs.Clusters.{Change, associated, cluster_number, dissociated, is_common, marked, stands}
use Rattle.vx_base.specs.declared.cond.Cond.TheVariants.{Normal, IllEfc, NoPriv}
use Rattle.vx_record.specs.Types.{Pid}
use Rattle.vx_clusters.specs.Clusters.{answer, unless}
use Rattle.vx_clusters.specs.declared.fail.AscFail.TheVariants as fail
use Rattle.vx_record.specs.Flags.{ascefc, dacefc, dlcefc}
use Rattle.vx_record.specs.Parts.{answered, commonly, refused}
use Rattle.vx_record.specs.State.{State, process_at}
use Rattle.vx_procs.specs.Cells.{association_part, association_refusal, dissociation_part, dissociation_refusal, mark_part, mark_refusal}
use Rattle.vx_ctl.specs.Answers.{cond_of_clusters}

-- by the tests of $ASCEFC: whether the flag is of a common cluster, the cluster stands, perm is 0, and PRMCEB is held
associated_by : (s : State) (common there none may : Bool) (change : Change) →
    (let refusal = if not common then Some fail.IllEfc else (if not none && (not may && not there) then Some fail.NoPriv else None) in
    answered (cond_of_clusters (answer refusal)) (commonly s (unless refusal s.common change))
    ≡ (if not common then refused s IllEfc else (if not there && (not none && not may) then refused s NoPriv else answered Normal (commonly s change))))
associated_by s false there none may change = refl
associated_by s true true true may change = refl
associated_by s true true false true change = refl
associated_by s true true false false change = refl
associated_by s true false true may change = refl
associated_by s true false false true change = refl
associated_by s true false false false change = refl

pub associates : (s : State) (p : Pid) (efn : ℕ) (name : List ℕ) (perm : ℕ) → answered (cond_of_clusters (answer (association_refusal s p efn name (not (perm == 0))))) (association_part s p efn name (not (perm == 0))) ≡ ascefc s p efn name perm
associates s p efn name perm =
    let pr = process_at s p in
    associated_by s (is_common efn) (stands s.common pr.group name) (perm == 0) pr.privs.prmceb (associated s.common p (cluster_number efn) pr.group name (not (perm == 0)))

dissociated_by : (s : State) (common : Bool) (change : Change) →
    (let refusal = if common then None else Some fail.IllEfc in
    answered (cond_of_clusters (answer refusal)) (commonly s (unless refusal s.common change))
    ≡ (if not common then refused s IllEfc else answered Normal (commonly s change)))
dissociated_by s true change = refl
dissociated_by s false change = refl

pub dissociates : (s : State) (p : Pid) (efn : ℕ) → answered (cond_of_clusters (answer (dissociation_refusal efn))) (dissociation_part s p efn) ≡ dacefc s p efn
dissociates s p efn = dissociated_by s (is_common efn) (dissociated s.common p (cluster_number efn))

marked_by : (s : State) (may : Bool) (change : Change) →
    (let refusal = if may then None else Some fail.NoPriv in
    answered (cond_of_clusters (answer refusal)) (commonly s (unless refusal s.common change))
    ≡ (if not may then refused s NoPriv else answered Normal (commonly s change)))
marked_by s true change = refl
marked_by s false change = refl

pub marks : (s : State) (p : Pid) (name : List ℕ) → answered (cond_of_clusters (answer (mark_refusal s p))) (mark_part s p name) ≡ dlcefc s p name
marks s p name = let pr = process_at s p in marked_by s pr.privs.prmceb (marked s.common pr.group name)
