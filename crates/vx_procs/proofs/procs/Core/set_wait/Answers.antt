use Rattle.std.proofs.Common.{refl}
use Rattle.vx_record.specs.Flags.{with_wait}
use Rattle.vx_procs.proofs.Changed.{changed_as, held_as}
use Rattle.vx_procs.proofs.Quiet.{wait_quiet}
use Rattle.vx_procs.proofs.procs.Core.set_wait.Goals as goal

pub invariant_of-self : goal.invariant_of-self
invariant_of-self g c = held_as (with_wait c.args.wait) c.self.inside c.args.self.now c.args.p c.at_mut.result.now _ c.self.view_is c.requires c.at_mut.ensures.value (rw c.wait_at_top.ensures refl) (rw c.wait_at_top.ensures refl) (wait_quiet c.args.wait _) c.self.invariant

pub returns : goal.returns
returns g c = changed_as (with_wait c.args.wait) c.self.inside c.args.self.now c.args.p c.at_mut.result.now _ c.self.view_is c.requires c.at_mut.ensures.value (rw c.wait_at_top.ensures refl) (rw c.wait_at_top.ensures refl)
