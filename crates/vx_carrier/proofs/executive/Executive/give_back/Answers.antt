use Rattle.vx_carrier.proofs.Seats.{saw_later, seat_gave}
use Rattle.vx_carrier.proofs.executive.Executive.give_back.Goals as goal

pub put-turn-requires : goal.put-turn-requires
put-turn-requires g c = saw_later g.J.Naming.plan c.enter-desk.result.recs c.args.seat.now.me.0.seen c.args.served.lease c.enter-desk.ensures.seen.1 c.requires.saw

pub returns-clause-gave : goal.returns-clause-gave
returns-clause-gave g c =
    let e = c.enter-desk.ensures in
    seat_gave g.J.Naming.plan c.args.seat.now.me.0 c.enter-desk.new.seat.me.0 c.leave.new.seat.me.0 c.args.served c.put-turn.result c.enter-desk.result.recs c.put-turn.new.self.recs c.show.ensures.run e.seen.0 e.seen.1 e.kept c.put-turn.ensures c.leave.ensures.adds
