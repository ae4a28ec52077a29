use Rattle.vx_procs.proofs.Requested.{held_marked}
use Rattle.vx_procs.proofs.procs.Core.mark_request.Goals as goal

pub invariant_of-self : goal.invariant_of-self
invariant_of-self g c = held_marked c.args.id c.self.inside c.mark.new.self c.mark.ensures.after c.self.invariant
