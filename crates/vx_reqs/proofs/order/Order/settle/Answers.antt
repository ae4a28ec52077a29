use Rattle.std.proofs.Common.{◌∙◌, sym}
use Rattle.vx_reqs.proofs.Ordered.{settled_some, settled_none}
use Rattle.vx_reqs.proofs.order.Order.settle.Goals as goal

pub returns-in-Some : goal.returns-in-Some
returns-in-Some c = λ places is ordered rising. settled_some c.args.u c.in-Some.id places c.args.self.now.next c.args.self.now.from _ c.args.self.now.served (sym c.in-Some.is ∙ is) c.put.ensures.here c.put.ensures.others (ordered rising)

pub returns-in-None : goal.returns-in-None
returns-in-None c = λ places is ordered rising. settled_none c.args.u places c.args.self.now.next c.args.self.now.from _ c.args.self.now.served (sym c.in-None.is ∙ is) c.put-in-None.ensures.others (ordered rising)
