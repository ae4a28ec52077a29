use Rattle.vx_carrier.proofs.Seats.{seat_took}
use Rattle.vx_carrier.proofs.executive.Executive.turn.Goals as goal

pub returns-clause-took : goal.returns-clause-took
returns-clause-took g c =
    let e = c.enter-desk.ensures in
    seat_took g.J.Naming.plan c.args.seat.now.me.0 c.enter-desk.new.seat.me.0 c.leave.new.seat.me.0 c.take-turn.result c.enter-desk.result.recs c.take-turn.new.self.recs c.show.ensures.run e.seen.0 e.seen.1 e.kept c.take-turn.ensures c.leave.ensures.adds
