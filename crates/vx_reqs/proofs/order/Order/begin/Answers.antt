use Rattle.std.proofs.Common.{◌∙◌, sym, subst, List}
use Rattle.vx_base.specs.Queues.{waits_for}
use Rattle.vx_reqs.specs.Places.{Place, IsOrdered, changed, holds}
use Rattle.vx_reqs.proofs.Ordered.{begun_order, none_of}
use Rattle.vx_reqs.proofs.order.Order.begin.Goals as goal
use Rattle.vx_record.specs.Requests.{taken_up}
use Rattle.vx_base.proofs.First.{amend_nowhere}

pub returns-in-Some : goal.returns-in-Some
returns-in-Some c = λ places none is ordered rising. begun_order c.args.u c.in-Some.id places c.args.self.now.next c.args.self.now.from c.args.self.now.served _ none (sym c.in-Some.is ∙ is) c.put.ensures.here c.put.ensures.others (ordered rising)

pub returns-in-None : goal.returns-in-None
returns-in-None c = λ places none is ordered rising.
    subst (λ (xs : List Place). IsOrdered c.args.self.now.next c.args.self.now.from c.args.self.now.served xs) (amend_nowhere (holds (waits_for c.args.u)) (changed taken_up) places (none_of _ (sym c.in-None.is ∙ is))) (ordered rising)
