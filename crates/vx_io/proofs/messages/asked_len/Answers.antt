use Rattle.vx_io.proofs.Steady.{len_short}
use Rattle.vx_io.proofs.messages.asked_len.Goals as goal

pub returns-in-Some-clause-size : goal.returns-in-Some-clause-size
returns-in-Some-clause-size g c = len_short c.args.core.now.state c.args.id c.in-Some.req.now c.requires c.in-Some.ensures
