use Rattle.std.proofs.Common.{refl}
use Rattle.vx_record.specs.Asts.{with_frame}
use Rattle.vx_procs.proofs.Changed.{changed_as}
use Rattle.vx_procs.proofs.Ops.{held_framed}
use Rattle.vx_procs.proofs.procs.Core.push_frame.Goals as goal

pub invariant_of-self : goal.invariant_of-self
invariant_of-self g c = held_framed c.args.frame c.self.inside c.args.self.now c.args.p c.at_mut.result.now _ c.self.view_is c.requires.made c.requires.spares c.at_mut.ensures.value (rw c.push.ensures refl) (rw c.push.ensures refl) c.self.invariant

pub returns : goal.returns
returns g c = changed_as (with_frame c.args.frame) c.self.inside c.args.self.now c.args.p c.at_mut.result.now _ c.self.view_is c.requires.made c.at_mut.ensures.value (rw c.push.ensures refl) (rw c.push.ensures refl)
