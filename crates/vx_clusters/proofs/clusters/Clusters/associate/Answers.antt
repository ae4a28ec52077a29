use Rattle.vx_clusters.proofs.Sound.{associated_keeps}
use Rattle.vx_clusters.proofs.clusters.Clusters.associate.Goals as goal

pub invariant_of-self : goal.invariant_of-self
invariant_of-self c = rw c.associate.ensures.leaves (associated_keeps c.self.inside.table.common c.args.p c.in_ok-k.k c.args.ask.group c.args.ask.name c.args.ask.permanent c.self.invariant)
