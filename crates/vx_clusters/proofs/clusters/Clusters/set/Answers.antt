use Rattle.std.proofs.Common.{true}
use Rattle.vx_clusters.proofs.Sound.{flag_keeps}
use Rattle.vx_clusters.proofs.clusters.Clusters.set.Goals as goal

pub invariant_of-self : goal.invariant_of-self
invariant_of-self c = rw c.set.ensures.after (flag_keeps c.self.inside.table.common c.args.place c.args.n true c.self.invariant)
