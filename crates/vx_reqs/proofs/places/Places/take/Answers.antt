use Rattle.vx_reqs.proofs.Slots.{has_request, is_within, take_held, take_places}
use Rattle.vx_reqs.proofs.places.Places.take.Goals as goal

pub remove-requires : goal.remove-requires
remove-requires g c =
    let within = is_within c.self.inside.requests c.self.inside.slots.items c.args.at c.self.inside.room c.args.self.now c.self.view_is c.requires in
    has_request c.self.inside.requests c.self.inside.slots.items c.self.inside.room _ c.args.at c.in-Some.key c.index-slot.result.now c.self.invariant within c.index-slot.ensures c.in-Some.is

pub invariant_of-self : goal.invariant_of-self
invariant_of-self g c =
    let within = is_within c.self.inside.requests c.self.inside.slots.items c.args.at c.self.inside.room c.args.self.now c.self.view_is c.requires in
    take_held c.self.inside.requests c.self.inside.slots.items c.self.inside.room _ c.args.at c.in-Some.key c.index-slot.result.now c.self.invariant within c.index-slot.ensures c.in-Some.is c.remove.new.self c.remove.ensures.updates c.remove.ensures.len c.remove.ensures.capacity

pub returns-in-Some-clause-after : goal.returns-in-Some-clause-after
returns-in-Some-clause-after g c = λ d.
    let within = is_within c.self.inside.requests c.self.inside.slots.items c.args.at c.self.inside.room c.args.self.now c.self.view_is c.requires in
    rw (← c.self.view_is) (take_places c.self.inside.requests c.self.inside.slots.items c.self.inside.room _ c.args.at c.in-Some.key c.index-slot.result.now c.self.invariant within c.index-slot.ensures c.in-Some.is c.remove.new.self c.remove.ensures.updates c.remove.ensures.len c.remove.ensures.capacity d)
