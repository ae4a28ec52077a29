use Rattle.std.proofs.Common.{arith, ap, ◌∙◌}
use Rattle.vx_record.specs.Types.{UnitNo}
use Rattle.vx_units.specs.Leases.{Back}
use Rattle.vx_procs.specs.Kernel.{with_stand}
use Rattle.vx_procs.specs.Units.{Kept, asked_of}
use Rattle.vx_procs.proofs.Leased.{back_at, coming_at, held_asked_same, stood_asked, unit_stood}
use Rattle.vx_procs.proofs.procs.Core.give_back.Goals as goal

pub index_mut-requires : goal.index_mut-requires
index_mut-requires g c = omega (arith, back_at c.self.inside c.args.self.now c.args.served c.unit-u.result c.unit-u.ensures c.self.view_is c.self.invariant c.requires)

pub give_back-requires-clause-out : goal.give_back-requires-clause-out
give_back-requires-clause-out g c = (coming_at c.self.inside c.args.self.now c.args.served c.unit-u.result c.index_mut.result.now c.unit-u.ensures c.self.view_is c.self.invariant c.requires c.index_mut.ensures.value).out

pub give_back-requires-clause-asked : goal.give_back-requires-clause-asked
give_back-requires-clause-asked g c = (coming_at c.self.inside c.args.self.now c.args.served c.unit-u.result c.index_mut.result.now c.unit-u.ensures c.self.view_is c.self.invariant c.requires c.index_mut.ensures.value).asked

pub give_back-requires-clause-contents : goal.give_back-requires-clause-contents
give_back-requires-clause-contents g c = (coming_at c.self.inside c.args.self.now c.args.served c.unit-u.result c.index_mut.result.now c.unit-u.ensures c.self.view_is c.self.invariant c.requires c.index_mut.ensures.value).contents

pub invariant_of-self : goal.invariant_of-self
invariant_of-self g c =
    let within = back_at c.self.inside c.args.self.now c.args.served c.unit-u.result c.unit-u.ensures c.self.view_is c.self.invariant c.requires in
    let old = c.index_mut.result.now in
    held_asked_same c.self.inside c.args.self.now c.unit-u.result old c.give_back.new.self c.self.view_is within c.index_mut.ensures.value (ap (λ (x : Kept). asked_of x.ending) c.give_back.ensures ∙ stood_asked Back old.ending) c.self.invariant

pub returns : goal.returns
returns g c =
    let within = back_at c.self.inside c.args.self.now c.args.served c.unit-u.result c.unit-u.ensures c.self.view_is c.self.invariant c.requires in
    unit_stood c.self.inside c.args.self.now c.unit-u.result c.index_mut.result.now c.give_back.new.self Back c.self.view_is within c.index_mut.ensures.value c.give_back.ensures ∙ ap (λ (v : UnitNo). with_stand c.args.self.now v Back) c.unit-u.ensures
