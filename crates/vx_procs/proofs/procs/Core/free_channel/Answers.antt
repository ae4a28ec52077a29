use Rattle.std.proofs.Common.{None, refl, arith}
use Rattle.vx_record.specs.Channels.{with_channel}
use Rattle.vx_procs.proofs.Changed.{changed_as, held_as}
use Rattle.vx_procs.proofs.procs.Core.free_channel.Goals as goal

pub invariant_of-self : goal.invariant_of-self
invariant_of-self g c = held_as (with_channel c.args.n None) c.self.inside c.args.self.now c.args.p c.at_mut.result.now _ c.self.view_is c.requires.made c.at_mut.ensures.value (rw c.free.ensures refl) refl (record { decl = refl; asts = refl; frames = omega arith }) c.self.invariant

pub returns : goal.returns
returns g c = changed_as (with_channel c.args.n None) c.self.inside c.args.self.now c.args.p c.at_mut.result.now _ c.self.view_is c.requires.made c.at_mut.ensures.value (rw c.free.ensures refl) refl
