use Rattle.vx_record.specs.Events.{resumed_with}
use Rattle.vx_procs.proofs.Changed.{changed_as, held_as}
use Rattle.vx_procs.proofs.Quiet.{resumed_quiet}
use Rattle.vx_procs.proofs.procs.Core.resume.Goals as goal

pub invariant_of-self : goal.invariant_of-self
invariant_of-self g c = held_as (resumed_with c.args.wait c.args.cond) c.self.inside c.args.self.now c.args.p c.at_mut.result.now _ c.self.view_is c.requires c.at_mut.ensures.value c.resume.ensures.after c.resume.ensures.books (resumed_quiet c.args.wait c.args.cond _) c.self.invariant

pub returns : goal.returns
returns g c = changed_as (resumed_with c.args.wait c.args.cond) c.self.inside c.args.self.now c.args.p c.at_mut.result.now _ c.self.view_is c.requires c.at_mut.ensures.value c.resume.ensures.after c.resume.ensures.books
