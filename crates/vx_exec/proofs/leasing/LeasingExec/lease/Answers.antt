use Rattle.vx_exec.proofs.Engines.{taken_out}
use Rattle.vx_exec.proofs.leasing.LeasingExec.lease.Goals as goal

pub returns-clause-out : goal.returns-clause-out
returns-clause-out g c = taken_out c.lease.result c.self.inside.engine.limit c.self.inside.engine.taken c.self.inside.engine.core c.lease.new.self c.args.self.now c.args.u c.self.view_is c.lease.ensures.out
