use Rattle.vx_record.specs.Events.{put_back}
use Rattle.vx_procs.proofs.Changed.{changed_as, held_as}
use Rattle.vx_procs.proofs.Quiet.{back_quiet}
use Rattle.vx_procs.proofs.procs.Core.return_with.Goals as goal

pub invariant_of-self : goal.invariant_of-self
invariant_of-self g c = held_as (put_back c.args.r0) c.self.inside c.args.self.now c.args.p c.at_mut.result.now _ c.self.view_is c.requires c.at_mut.ensures.value c.put_back.ensures.after c.put_back.ensures.books (back_quiet c.args.r0 _) c.self.invariant

pub returns : goal.returns
returns g c = changed_as (put_back c.args.r0) c.self.inside c.args.self.now c.args.p c.at_mut.result.now _ c.self.view_is c.requires c.at_mut.ensures.value c.put_back.ensures.after c.put_back.ensures.books
