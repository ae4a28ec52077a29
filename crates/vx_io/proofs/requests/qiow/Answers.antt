use Rattle.std.proofs.Common.{is_some, option_map}
use Rattle.vx_io.proofs.Opening.{opening_of}
use Rattle.vx_io.proofs.requests.qiow.Goals as goal

pub accept-requires-clause-opening : goal.accept-requires-clause-opening
accept-requires-clause-opening g c =
    opening_of c.args.core.now c.args.p c.args.ask (is_some (option_map g.R.Routine.tagged c.args.ast)) c.in-Ok.to c.requires.ready c.requires.open c.in-Ok.ensures.passed
