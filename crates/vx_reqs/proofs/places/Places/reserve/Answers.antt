use Rattle.std.proofs.Common.{◌≡◌, ◌∙◌, ap, arith, length, refl}
use Rattle.std.specs.List.{filter}
use Rattle.slab.specs.Slab.{slab_len}
use Rattle.vx_reqs.specs.Slots.{has_key, places_of}
use Rattle.vx_reqs.specs.Places.{live}
use Rattle.vx_reqs.proofs.Slots.{kept_held, kept_places, len_held}
use Rattle.vx_reqs.proofs.places.Places.reserve.Goals as goal

pub invariant_of-self-in_err-reserve : goal.invariant_of-self-in_err-reserve
invariant_of-self-in_err-reserve g c =
    kept_held c.self.inside.requests c.self.inside.slots.items c.self.inside.room _ c.self.invariant c.reserve.new.self.items c.self.inside.requests (c.reserve.ensures.items ∙ c.keep_held.ensures.items) refl c.self.inside.room _
    (omega (arith, c.self.invariant.within, c.keep_held.ensures.capacity, c.reserve.ensures.capacity)) c.self.invariant.held

pub returns-in_err-reserve-clause-items : goal.returns-in_err-reserve-clause-items
returns-in_err-reserve-clause-items g c =
    rw (← c.self.view_is) (kept_places c.self.inside.requests c.self.inside.slots.items c.self.inside.room _ c.self.invariant c.reserve.new.self.items c.self.inside.requests (c.reserve.ensures.items ∙ c.keep_held.ensures.items) refl)

pub invariant_of-self-in_err-reserve-2 : goal.invariant_of-self-in_err-reserve-2
invariant_of-self-in_err-reserve-2 g c =
    kept_held c.self.inside.requests c.self.inside.slots.items c.self.inside.room _ c.self.invariant c.reserve.new.self.items c.reserve-2.new.self (c.reserve.ensures.items ∙ c.keep_held.ensures.items) c.reserve-2.ensures.rest_kept c.self.inside.room _
    (omega (arith, c.self.invariant.within, c.keep_held.ensures.capacity, c.reserve.ensures.capacity)) (omega (arith, c.self.invariant.held, c.reserve-2.ensures.capacity))

pub returns-in_err-reserve-2-clause-items : goal.returns-in_err-reserve-2-clause-items
returns-in_err-reserve-2-clause-items g c =
    rw (← c.self.view_is) (kept_places c.self.inside.requests c.self.inside.slots.items c.self.inside.room _ c.self.invariant c.reserve.new.self.items c.reserve-2.new.self (c.reserve.ensures.items ∙ c.keep_held.ensures.items) c.reserve-2.ensures.rest_kept)

pub invariant_of-self-2 : goal.invariant_of-self-2
invariant_of-self-2 g c =
    let slab = c.self.inside.requests in
    let slots = c.self.inside.slots.items in
    let held : length (filter has_key slots) ≡ length (live (places_of slab slots)) = len_held slab slots c.self.invariant.keys in
    let count : length c.keep_held.new.slots.items ≡ length (filter has_key slots) = ap length c.keep_held.ensures.items in
    let same : slab_len c.reserve-2.new.self ≡ slab_len slab = ap slab_len c.reserve-2.ensures.rest_kept in
    kept_held slab slots c.self.inside.room _ c.self.invariant c.reserve.new.self.items c.reserve-2.new.self (c.reserve.ensures.items ∙ c.keep_held.ensures.items) c.reserve-2.ensures.rest_kept _ _
    (omega (arith, c.capacity-room.ensures)) (omega (arith, c.in_ok-reserve-2.ensures.room, c.len-count.ensures, c.keep_held.new.slots.ok.0, held, count, same, c.self.invariant.count))

pub returns-clause-items : goal.returns-clause-items
returns-clause-items g c =
    rw (← c.self.view_is) (kept_places c.self.inside.requests c.self.inside.slots.items c.self.inside.room _ c.self.invariant c.reserve.new.self.items c.reserve-2.new.self (c.reserve.ensures.items ∙ c.keep_held.ensures.items) c.reserve-2.ensures.rest_kept)

pub returns-clause-room : goal.returns-clause-room
returns-clause-room g c =
    let slab = c.self.inside.requests in
    let slots = c.self.inside.slots.items in
    let held : length (filter has_key slots) ≡ length (live (places_of slab slots)) = len_held slab slots c.self.invariant.keys in
    let count : length c.keep_held.new.slots.items ≡ length (filter has_key slots) = ap length c.keep_held.ensures.items in
    rw (← c.self.view_is) (omega (arith, c.in_ok-reserve.ensures.ok, c.in-Some.ensures, c.capacity-room.ensures, c.len-count.ensures, c.keep_held.new.slots.ok.0, held, count))
