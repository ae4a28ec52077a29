use Rattle.vx_carrier.proofs.Seats.{gave_end, saw_grew}
use Rattle.vx_carrier.proofs.executive.Executive.serve.Goals as goal

pub returns-clause-ended : goal.returns-clause-ended
returns-clause-ended g c = gave_end g.J.Naming.plan c.args.seat.now.me.0 c.give_back.new.seat.me.0 c.serve.result c.give_back.result c.give_back.ensures.gave

pub returns-clause-grew : goal.returns-clause-grew
returns-clause-grew g c = let gave = c.give_back.ensures.gave in saw_grew g.J.Naming.plan c.args.seat.now.me.0 c.give_back.new.seat.me.0 gave.found gave.more gave.saw
