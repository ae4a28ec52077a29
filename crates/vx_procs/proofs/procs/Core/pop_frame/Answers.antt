use Rattle.std.proofs.Common.{refl}
use Rattle.vx_record.specs.Events.{below_top}
use Rattle.vx_procs.proofs.Changed.{changed_as, held_as}
use Rattle.vx_procs.proofs.Quiet.{below_quiet}
use Rattle.vx_procs.proofs.procs.Core.pop_frame.Goals as goal

pub invariant_of-self : goal.invariant_of-self
invariant_of-self g c = held_as below_top c.self.inside c.args.self.now c.args.p c.at_mut.result.now _ c.self.view_is c.requires c.at_mut.ensures.value (rw c.pop.ensures.after refl) (rw c.pop.ensures.after refl) (below_quiet _) c.self.invariant

pub returns-clause-after : goal.returns-clause-after
returns-clause-after g c = changed_as below_top c.self.inside c.args.self.now c.args.p c.at_mut.result.now _ c.self.view_is c.requires c.at_mut.ensures.value (rw c.pop.ensures.after refl) (rw c.pop.ensures.after refl)
