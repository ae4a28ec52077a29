use Rattle.vx_procs.proofs.Requested.{held_taken, taken_as}
use Rattle.vx_procs.proofs.procs.Core.begin_request.Goals as goal

pub invariant_of-self : goal.invariant_of-self
invariant_of-self g c = held_taken c.args.u c.self.inside c.args.self.now c.begin.new.self c.self.view_is c.requires.prepared c.begin.ensures.after c.self.invariant

pub returns-clause-after : goal.returns-clause-after
returns-clause-after g c = taken_as c.args.u c.self.inside c.args.self.now c.begin.new.self c.self.view_is c.requires.order c.begin.ensures.after
