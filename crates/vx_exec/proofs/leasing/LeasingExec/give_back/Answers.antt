use Rattle.vx_exec.proofs.Engines.{given_back}
use Rattle.vx_exec.proofs.leasing.LeasingExec.give_back.Goals as goal

pub returns : goal.returns
returns g c = given_back c.self.inside.engine.limit c.self.inside.engine.taken c.self.inside.engine.core c.give_back.new.self c.args.self.now c.args.served.lease.unit c.self.view_is c.requires.out c.give_back.ensures
