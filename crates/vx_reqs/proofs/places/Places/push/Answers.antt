use Rattle.std.proofs.Common.{◌∙◌, List, [], ◌∷◌, ◌++◌, Some, ap, arith}
use Rattle.vx_reqs.specs.Places.{Place}
use Rattle.vx_reqs.proofs.Slots.{as_held, as_places, put_held, put_places}
use Rattle.vx_reqs.proofs.places.Places.push.Goals as goal

pub invariant_of-self-in_err-reserve-2 : goal.invariant_of-self-in_err-reserve-2
invariant_of-self-in_err-reserve-2 g c =
    rw c.reserve.ensures.items (as_held c.self.inside.requests c.self.inside.slots.items c.self.inside.room _ c.self.invariant c.reserve-2.new.self c.reserve-2.ensures.rest_kept _
    (omega (arith, c.self.invariant.within, c.reserve.ensures.capacity)) (omega (arith, c.self.invariant.held, c.reserve-2.ensures.capacity)))

pub invariant_of-self-2 : goal.invariant_of-self-2
invariant_of-self-2 g c =
    let kept = as_held c.self.inside.requests c.self.inside.slots.items c.self.inside.room _ c.self.invariant c.reserve-2.new.self c.reserve-2.ensures.rest_kept c.self.inside.room (omega arith) (omega (arith, c.self.invariant.held, c.reserve-2.ensures.capacity)) in
    rw (c.put.ensures.place, c.reserve.ensures.items) (put_held c.reserve-2.new.self c.self.inside.slots.items c.self.inside.room _ kept c.put.new.requests _ c.args.request.req.id c.args.request c.put.ensures.free c.put.ensures.updates c.put.ensures.len c.self.inside.room _
    (omega (arith, c.self.invariant.within, c.reserve.ensures.capacity, c.put.ensures.space)) (omega (arith, c.self.invariant.held, c.reserve-2.ensures.capacity, c.put.ensures.capacity)))

pub returns-clause-after : goal.returns-clause-after
returns-clause-after g c =
    let kept = as_held c.self.inside.requests c.self.inside.slots.items c.self.inside.room _ c.self.invariant c.reserve-2.new.self c.reserve-2.ensures.rest_kept c.self.inside.room (omega arith) (omega (arith, c.self.invariant.held, c.reserve-2.ensures.capacity)) in
    let place : Place = record { id = c.args.request.req.id; request = Some c.args.request } in
    rw (c.put.ensures.place, c.reserve.ensures.items, ← c.self.view_is)
    (put_places c.reserve-2.new.self c.self.inside.slots.items c.self.inside.room _ kept c.put.new.requests _ c.args.request.req.id c.args.request c.put.ensures.free c.put.ensures.updates c.put.ensures.len
    ∙ ap (λ (ps : List Place). ps ++ place ∷ []) (as_places c.self.inside.requests c.self.inside.slots.items c.self.inside.room _ c.self.invariant c.reserve-2.new.self c.reserve-2.ensures.rest_kept))
