use Rattle.std.proofs.Common.{refl}
use Rattle.vx_record.specs.Events.{moved_behind}
use Rattle.vx_procs.proofs.Changed.{changed_as, held_as}
use Rattle.vx_procs.proofs.Quiet.{moved_quiet}
use Rattle.vx_procs.proofs.procs.Core.move_behind.Goals as goal

pub invariant_of-self : goal.invariant_of-self
invariant_of-self g c = held_as (moved_behind c.args.place) c.self.inside c.args.self.now c.args.p c.at_mut.result.now _ c.self.view_is c.requires.made c.at_mut.ensures.value (rw c.place_top.ensures refl) (rw c.place_top.ensures refl) (moved_quiet _ _ _) c.self.invariant

pub returns : goal.returns
returns g c = changed_as (moved_behind c.args.place) c.self.inside c.args.self.now c.args.p c.at_mut.result.now _ c.self.view_is c.requires.made c.at_mut.ensures.value (rw c.place_top.ensures refl) (rw c.place_top.ensures refl)
