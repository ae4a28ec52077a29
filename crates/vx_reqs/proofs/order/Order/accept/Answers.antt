use Rattle.std.proofs.Common.{◌≡◌, ◌&&◌, true, nat_le, sym, ◌∙◌, leb-true}
use Rattle.std.proofs.lemmas.Bool.{and_parts}
use Rattle.vx_reqs.proofs.Ordered.{accepted}
use Rattle.vx_reqs.proofs.order.Order.accept.Goals as goal

pub returns : goal.returns
returns c = λ places r same on unserved ordered rising.
    let order = c.args.self.now in
    let both : (order.rising && nat_le order.next c.args.id.0) ≡ true = sym c.goes_on-self.ensures ∙ rising in
    accepted places r c.args.id c.args.device order.next order.from _ order.served same on unserved (leb-true order.next c.args.id.0 (and_parts order.rising (nat_le order.next c.args.id.0) both).1) c.lower.ensures.here c.lower.ensures.all (ordered (and_parts order.rising (nat_le order.next c.args.id.0) both).0)
