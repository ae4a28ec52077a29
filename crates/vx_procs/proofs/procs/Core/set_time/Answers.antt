use Rattle.vx_procs.proofs.Ops.{held_then}
use Rattle.vx_procs.proofs.procs.Core.set_time.Goals as goal

pub invariant_of-self : goal.invariant_of-self
invariant_of-self g c = held_then c.args.now c.self.inside c.args.self.now c.self.view_is c.requires c.self.invariant
