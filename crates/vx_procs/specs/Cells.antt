-- Event flags that are there, and what calls on common clusters do.
use Rattle.std.specs.Prelude.{ℕ, ◌<◌, List, Bool, Option}
use Rattle.vx_record.specs.Types.{Cell, Pid}
use Rattle.vx_base.specs.declared.effects.Cell.TheVariants.{Local, Common}
use Rattle.vx_clusters.specs.Clusters as clusters
use Rattle.vx_clusters.specs.declared.fail.AscFail.{AscFail}
use Rattle.vx_record.specs.Parts.{Part, commonly}
use Rattle.vx_record.specs.State.{State, IsProcess, process_at}

-- the process of a local flag is there, and the number is one of its cluster's flags
abbrev pub IsCell : State → Cell → Type 0
IsCell s (Local p n) = IsProcess s p × (n < 64)
IsCell s (Common group name n) = n < 32

-- $ASCEFC: a process associates the cluster of its group and a name

abbrev pub association_refusal : State → Pid → ℕ → List ℕ → Bool → Option AscFail
association_refusal s p efn name permanent = clusters.associate_refusal s.common (process_at s p).group efn name permanent (process_at s p).privs.prmceb

abbrev pub association_part : State → Pid → ℕ → List ℕ → Bool → Part
association_part s p efn name permanent = commonly s (clusters.associate s.common p (process_at s p).group efn name permanent (process_at s p).privs.prmceb)

-- $DACEFC

abbrev pub dissociation_refusal : ℕ → Option AscFail
dissociation_refusal efn = clusters.dissociate_refusal efn

abbrev pub dissociation_part : State → Pid → ℕ → Part
dissociation_part s p efn = commonly s (clusters.dissociate s.common p efn)

-- $DLCEFC

abbrev pub mark_refusal : State → Pid → Option AscFail
mark_refusal s p = clusters.mark_refusal (process_at s p).privs.prmceb

abbrev pub mark_part : State → Pid → List ℕ → Part
mark_part s p name = commonly s (clusters.mark s.common (process_at s p).group name (process_at s p).privs.prmceb)
