use Rattle.vx_reqs.proofs.Among.{others_fail}
use Rattle.vx_reqs.proofs.found.place_of_id.Goals as goal

pub place_among-requires-clause-others : goal.place_among-requires-clause-others
place_among-requires-clause-others g c = others_fail c.args.id c.args.places.now.items c.args.order.now.next (c.requires c.if-order.true).rises
