use Rattle.std.proofs.Common.{refl, arith}
use Rattle.vx_record.specs.Finish.{with_stored_bytes}
use Rattle.vx_procs.proofs.Changed.{changed_as, held_as}
use Rattle.vx_procs.proofs.procs.Core.set_buffer.Goals as goal

pub invariant_of-self : goal.invariant_of-self
invariant_of-self g c = held_as (with_stored_bytes c.args.b c.args.bytes.now) c.self.inside c.args.self.now c.args.p c.at_mut.result.now _ c.self.view_is c.requires.made c.at_mut.ensures.value (rw c.put.ensures refl) refl (record { decl = refl; asts = refl; frames = omega arith }) c.self.invariant

pub returns : goal.returns
returns g c = changed_as (with_stored_bytes c.args.b c.args.bytes.now) c.self.inside c.args.self.now c.args.p c.at_mut.result.now _ c.self.view_is c.requires.made c.at_mut.ensures.value (rw c.put.ensures refl) refl
