use Rattle.vx_record.specs.Flags.{with_local_flag}
use Rattle.vx_procs.proofs.Changed.{changed_as, held_as}
use Rattle.vx_procs.proofs.Quiet.{flag_quiet}
use Rattle.vx_procs.proofs.procs.Core.set_local.Goals as goal

pub invariant_of-self : goal.invariant_of-self
invariant_of-self g c = held_as (with_local_flag c.args.n c.args.on) c.self.inside c.args.self.now c.args.p c.at_mut.result.now _ c.self.view_is c.requires.made c.at_mut.ensures.value c.put_flag.ensures.after c.put_flag.ensures.books (flag_quiet c.args.n c.args.on _) c.self.invariant

pub returns : goal.returns
returns g c = changed_as (with_local_flag c.args.n c.args.on) c.self.inside c.args.self.now c.args.p c.at_mut.result.now _ c.self.view_is c.requires.made c.at_mut.ensures.value c.put_flag.ensures.after c.put_flag.ensures.books
