use Rattle.vx_procs.proofs.Moments.{moment_none, moment_some}
use Rattle.vx_procs.proofs.procs.Core.next_time.Goals as goal

pub returns-in-Some-clause-moment : goal.returns-in-Some-clause-moment
returns-in-Some-clause-moment g c = moment_some c.args.self.now.state c.in-Some.due c.in-Some.ensures.due c.in-Some.ensures.own

pub returns-in-None-clause-moment : goal.returns-in-None-clause-moment
returns-in-None-clause-moment g c = moment_none c.args.self.now.state c.time.result c.in-None.ensures.due c.time.ensures c.in-None.ensures.own
