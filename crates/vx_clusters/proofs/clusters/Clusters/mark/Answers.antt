use Rattle.vx_clusters.proofs.Sound.{marked_keeps}
use Rattle.vx_clusters.proofs.clusters.Clusters.mark.Goals as goal

pub invariant_of-self : goal.invariant_of-self
invariant_of-self c = rw c.mark.ensures.leaves (marked_keeps c.self.inside.table.common c.args.group c.args.name c.self.invariant)
