use Rattle.std.proofs.Common.{refl, arith}
use Rattle.vx_record.specs.Services.{with_variable}
use Rattle.vx_procs.proofs.Changed.{changed_as, held_as}
use Rattle.vx_procs.proofs.procs.Core.set_variable.Goals as goal

pub invariant_of-self : goal.invariant_of-self
invariant_of-self g c = held_as (with_variable c.args.target c.args.n) c.self.inside c.args.self.now c.args.p c.at_mut.result.now _ c.self.view_is c.requires c.at_mut.ensures.value (rw c.set.ensures refl) refl (record { decl = refl; asts = refl; frames = omega arith }) c.self.invariant

pub returns : goal.returns
returns g c = changed_as (with_variable c.args.target c.args.n) c.self.inside c.args.self.now c.args.p c.at_mut.result.now _ c.self.view_is c.requires c.at_mut.ensures.value (rw c.set.ensures refl) refl
