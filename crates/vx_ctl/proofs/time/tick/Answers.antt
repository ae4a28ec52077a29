use Rattle.std.proofs.Common.{arith, refl}
use Rattle.vx_ctl.proofs.time.tick.Goals as goal

pub fire_due-requires-clause-timers : goal.fire_due-requires-clause-timers
fire_due-requires-clause-timers g c =
    let moment = c.next_time-now.ensures.moment in
    rw c.set_time.ensures (record {
      order = c.requires.order;
      ahead = moment.ahead;
      time = refl;
      counted = omega (arith, moment.soon, c.requires.counted);
    })
