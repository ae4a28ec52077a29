use Rattle.std.proofs.Common.{◌≡◌, List, map, take}
use Rattle.vx_laws.specs.Items.{Item, Did, later}
use Rattle.vx_laws.specs.Values.{cluster_by}
use Rattle.vx_judge.proofs.values.cluster_behind.Given as goal

abbrev pub invariant-loop-effect : goal.invariant-loop-effect
invariant-loop-effect l = (past : List Item) → l.fn.first ≡ cluster_by past l.p l.k → l.cluster ≡ cluster_by (later past (map Did (take l.effect-index l.effects))) l.p l.k
