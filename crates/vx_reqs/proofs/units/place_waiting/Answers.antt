use Rattle.std.proofs.Common.{get_or}
use Rattle.vx_reqs.proofs.Numbers.{keep_at}
use Rattle.vx_reqs.proofs.units.place_waiting.Goals as goal

pub place_from-requires : goal.place_from-requires
place_from-requires g c = λ k d lt within. (keep_at c.args.u (get_or c.args.order.now.from c.args.u.0 0) (get_or c.args.order.now.served c.args.u.0 0) c.args.places.now.items ((c.requires c.if-order.true).units c.args.u c.if-u-lt32.true) k d within).waits (c.first_from-first.ensures.below k d lt)
