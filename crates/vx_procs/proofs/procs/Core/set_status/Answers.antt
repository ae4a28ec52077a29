use Rattle.std.proofs.Common.{refl, arith}
use Rattle.vx_record.specs.Types.{Status}
use Rattle.vx_record.specs.Finish.{with_stored_status}
use Rattle.vx_procs.proofs.Changed.{changed_as, held_as}
use Rattle.vx_procs.proofs.procs.Core.set_status.Goals as goal

pub invariant_of-self : goal.invariant_of-self
invariant_of-self g c =
    let status : Status = record { cond = c.args.cond; count = c.args.count; info = c.args.info } in
    held_as (with_stored_status c.args.i status) c.self.inside c.args.self.now c.args.p c.at_mut.result.now _ c.self.view_is c.requires.made c.at_mut.ensures.value (rw c.set_iosb.ensures refl) refl (record { decl = refl; asts = refl; frames = omega arith }) c.self.invariant

pub returns : goal.returns
returns g c =
    let status : Status = record { cond = c.args.cond; count = c.args.count; info = c.args.info } in
    changed_as (with_stored_status c.args.i status) c.self.inside c.args.self.now c.args.p c.at_mut.result.now _ c.self.view_is c.requires.made c.at_mut.ensures.value (rw c.set_iosb.ensures refl) refl
