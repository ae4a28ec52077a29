use Rattle.std.proofs.Common.{◌<◌, ◌∙◌, List, [], ◌∷◌, ◌++◌, Some, ap, arith, inl, inr, length, subst, sym}
use Rattle.vx_base.specs.Roomy.{Roomy}
use Rattle.vx_reqs.specs.Places.{Place, live}
use Rattle.vx_reqs.specs.Slots.{places_of}
use Rattle.vx_reqs.proofs.Slots.{either_held, either_places, len_held, put_held, put_places}
use Rattle.vx_reqs.proofs.places.Places.accept.Goals as goal

pub make_space-requires : goal.make_space-requires
make_space-requires g c =
    let slab = c.self.inside.requests in
    let slots = c.self.inside.slots.items in
    let room : length (live (places_of slab slots)) < c.self.inside.room = subst (λ (v : Roomy Place). length (live v.items) < v.capacity) (sym c.self.view_is) c.requires in
    omega (arith, room, len_held slab slots c.self.invariant.keys, c.self.invariant.within)

pub invariant_of-self : goal.invariant_of-self
invariant_of-self g c =
    let slab = c.self.inside.requests in
    let slots = c.self.inside.slots.items in
    let spaced = c.make_space.new.slots.items in
    let kept = either_held slab slots c.self.inside.room _ c.self.invariant spaced c.make_space.ensures.items in
    rw c.put.ensures.place (put_held slab spaced c.self.inside.room _ kept c.put.new.requests _ c.args.request.req.id c.args.request c.put.ensures.free c.put.ensures.updates c.put.ensures.len c.self.inside.room _
    (omega (arith, c.self.invariant.within, c.make_space.ensures.capacity, c.put.ensures.space)) (omega (arith, c.self.invariant.held, c.put.ensures.capacity)))

pub returns-clause-after : goal.returns-clause-after
returns-clause-after g c =
    let slab = c.self.inside.requests in
    let slots = c.self.inside.slots.items in
    let spaced = c.make_space.new.slots.items in
    let kept = either_held slab slots c.self.inside.room _ c.self.invariant spaced c.make_space.ensures.items in
    let put = put_places slab spaced c.self.inside.room _ kept c.put.new.requests _ c.args.request.req.id c.args.request c.put.ensures.free c.put.ensures.updates c.put.ensures.len in
    let place : Place = record { id = c.args.request.req.id; request = Some c.args.request } in
    let last : List Place → List Place = λ ps. ps ++ place ∷ [] in
    rw (c.put.ensures.place, ← c.self.view_is) (elim (either_places slab slots c.self.inside.room _ c.self.invariant spaced c.make_space.ensures.items) [
      | inl is ↦ inl (put ∙ ap last is)
      | inr is ↦ inr (put ∙ ap last is)
    ])
