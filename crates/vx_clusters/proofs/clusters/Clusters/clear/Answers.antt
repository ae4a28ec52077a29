use Rattle.std.proofs.Common.{false}
use Rattle.vx_clusters.proofs.Sound.{flag_keeps}
use Rattle.vx_clusters.proofs.clusters.Clusters.clear.Goals as goal

pub invariant_of-self : goal.invariant_of-self
invariant_of-self c = rw c.clear.ensures.after (flag_keeps c.self.inside.table.common c.args.place c.args.n false c.self.invariant)
