use Rattle.vx_clusters.proofs.Sound.{dissociated_keeps}
use Rattle.vx_clusters.proofs.clusters.Clusters.dissociate.Goals as goal

pub invariant_of-self : goal.invariant_of-self
invariant_of-self c = rw c.dissociate.ensures.does.leaves (dissociated_keeps c.self.inside.table.common c.args.p c.in_ok-k.k c.self.invariant)
