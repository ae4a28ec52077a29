use Rattle.std.proofs.Common.{sym, subst}
use Rattle.vx_exec.specs.Leases.{AreIn}
use Rattle.vx_exec.proofs.leasing.LeasingExec.into_exec.Goals as goal

pub from_engine-requires : goal.from_engine-requires
from_engine-requires g c = record { on = c.self.invariant; home = subst AreIn (sym c.self.view_is) c.requires }
