use Rattle.std.proofs.Common.{◌↔◌, IsTrue, subst}
use Rattle.vx_exec.specs.Leases.{AreIn, Leasing}
use Rattle.vx_exec.proofs.leasing.LeasingExec.home.Goals as goal

pub returns : goal.returns
returns g c = subst (λ (l : Leasing). IsTrue c.are_in.result ↔ AreIn l) c.self.view_is c.are_in.ensures
