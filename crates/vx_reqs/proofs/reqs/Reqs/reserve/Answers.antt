use Rattle.std.proofs.Common.{◌∙◌, List, ap, arith, length, subst, sym}
use Rattle.vx_reqs.specs.Places.{Place, AreFrom, IsOrdered, live}
use Rattle.vx_reqs.proofs.Live.{live_kept, on_err, on_ok, same_room}
use Rattle.vx_reqs.proofs.Ordered.{ordered_kept}
use Rattle.vx_reqs.proofs.Waiting.{reads_kept}
use Rattle.vx_reqs.proofs.reqs.Reqs.reserve.Goals as goal

pub invariant_of-self : goal.invariant_of-self
invariant_of-self g c =
    let places = c.self.inside.places.items in
    let order = c.self.inside.order in
    let from = c.self.inside.reads.from in
    record {
      order = λ rising. subst (λ (xs : List Place). IsOrdered order.next order.from order.served xs) (sym c.reserve.ensures.items) (ordered_kept places order.next order.from order.served (c.self.invariant.order rising));
      waiting = subst (λ (xs : List Place). AreFrom from xs) (sym c.reserve.ensures.items) (reads_kept places from c.self.invariant.waiting);
    }

pub returns-clause-items : goal.returns-clause-items
returns-clause-items g c = rw (← c.self.view_is) (ap live c.reserve.ensures.items ∙ live_kept c.self.inside.places.items)

pub returns-clause-ok : goal.returns-clause-ok
returns-clause-ok g c = on_ok c.reserve.result _ _ (λ room. omega (arith, room, ap length (ap live c.reserve.ensures.items ∙ live_kept c.self.inside.places.items))) c.reserve.ensures.room

pub returns-clause-err : goal.returns-clause-err
returns-clause-err g c = rw (← c.self.view_is) (on_err c.reserve.result _ _ (λ kept. same_room (ap live c.reserve.ensures.items ∙ live_kept c.self.inside.places.items) kept) c.reserve.ensures.kept)
