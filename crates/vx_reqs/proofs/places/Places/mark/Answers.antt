use Rattle.vx_reqs.proofs.Slots.{change_held, change_places, has_request, is_within}
use Rattle.vx_reqs.proofs.places.Places.mark.Goals as goal
use Rattle.vx_record.specs.Cancel.{with_abort}

pub index_mut-requires : goal.index_mut-requires
index_mut-requires g c =
    let within = is_within c.self.inside.requests c.self.inside.slots.items c.args.at c.self.inside.room c.args.self.now c.self.view_is c.requires in
    has_request c.self.inside.requests c.self.inside.slots.items c.self.inside.room _ c.args.at c.in-Some.key c.index.result.now c.self.invariant within c.index.ensures c.in-Some.is

pub invariant_of-self : goal.invariant_of-self
invariant_of-self g c =
    let within = is_within c.self.inside.requests c.self.inside.slots.items c.args.at c.self.inside.room c.args.self.now c.self.view_is c.requires in
    change_held c.self.inside.requests c.self.inside.slots.items c.self.inside.room _ c.args.at c.in-Some.key c.index.result.now c.self.invariant within c.index.ensures c.in-Some.is with_abort c.index_mut.result.now c.mark.new.self c.index_mut.ensures.value c.mark.ensures

pub returns-in-Some-clause-after : goal.returns-in-Some-clause-after
returns-in-Some-clause-after g c = λ d.
    let within = is_within c.self.inside.requests c.self.inside.slots.items c.args.at c.self.inside.room c.args.self.now c.self.view_is c.requires in
    rw (← c.self.view_is) (change_places c.self.inside.requests c.self.inside.slots.items c.self.inside.room _ c.args.at c.in-Some.key c.index.result.now c.self.invariant within c.index.ensures c.in-Some.is with_abort c.index_mut.result.now c.mark.new.self c.index_mut.ensures.value c.mark.ensures d)
