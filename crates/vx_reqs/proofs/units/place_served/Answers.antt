use Rattle.std.proofs.Common.{get_or}
use Rattle.vx_reqs.proofs.Numbers.{keep_at}
use Rattle.vx_reqs.proofs.units.place_served.Goals as goal

pub place_among-requires-clause-others : goal.place_among-requires-clause-others
place_among-requires-clause-others g c = λ k d lt differs. (keep_at c.args.u (get_or c.args.order.now.from c.args.u.0 0) (get_or c.args.order.now.served c.args.u.0 0) c.args.places.now.items ((c.requires c.if-order.true).units c.args.u c.if-u-lt32.true) k d lt).serves differs
