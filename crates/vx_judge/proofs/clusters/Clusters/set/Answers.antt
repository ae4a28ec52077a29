use Rattle.std.proofs.Common.{◌&&◌, nat_eq, Some, None, ap, refl}
use Rattle.std.specs.HashMap.{get}
use Rattle.vx_laws.specs.Values.{cluster_by}
use Rattle.vx_judge.specs.Pairs.{pair_eq}
use Rattle.vx_judge.proofs.Joining.{joined_on}
use Rattle.vx_judge.proofs.clusters.Clusters.set.Goals as goal

pub returns-in_ok-insert-in-Some : goal.returns-in_ok-insert-in-Some
returns-in_ok-insert-in-Some c = λ past are q k.
    rw c.in-Some.is (joined_on (nat_eq c.args.p.0 q.0 && nat_eq c.args.k k) (get pair_eq c.insert.new.self (q.0, k)) (get pair_eq c.args.self.now.map (q.0, k)) (Some c.joined.result) (Some c.in-Some.cluster) (cluster_by past q k)
    (c.in_ok-insert-in-Some.ensures.updates.0 (q.0, k)) (ap Some c.joined.ensures) (are q k))

pub returns-in-None : goal.returns-in-None
returns-in-None c = λ past are q k.
    rw c.in-None.is (joined_on (nat_eq c.args.p.0 q.0 && nat_eq c.args.k k) (get pair_eq c.remove.new.self (q.0, k)) (get pair_eq c.args.self.now.map (q.0, k)) None None (cluster_by past q k)
    (c.remove.ensures.updates.0 (q.0, k)) refl (are q k))
