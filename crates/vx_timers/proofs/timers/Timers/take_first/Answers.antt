use Rattle.std.proofs.Common.{ap, arith, position, sym, ◌∙◌}
use Rattle.std.specs.List.{find}
use Rattle.vx_base.specs.Lists.{less, is_some_and}
use Rattle.vx_record.specs.Types.{Timer}
use Rattle.vx_base.specs.Roomy.{Roomy}
use Rattle.vx_timers.specs.Places.{entries}
use Rattle.vx_timers.specs.Seen.{passes}
use Rattle.vx_timers.proofs.Entries.{first_at, length_taken, nowhere}
use Rattle.vx_timers.proofs.Kept.{kept_taken, seen_changed, seen_same}
use Rattle.vx_timers.proofs.timers.Timers.take_first.Goals as goal

pub overflow_sub-self : goal.overflow_sub-self
overflow_sub-self g c =
    let p = passes c.args.which in
    let places = c.self.inside.places.items in
    let at = first_at p places c.in-Some.place (sym c.in-Some.is ∙ (c.first_place.ensures.place ∙ ap (position (is_some_and p)) c.as_slice.ensures.value)) in
    omega (arith, c.self.invariant.counted, length_taken places c.in-Some.place at.0 at.1)

pub invariant_of-self : goal.invariant_of-self
invariant_of-self g c =
    let p = passes c.args.which in
    let at = first_at p c.self.inside.places.items c.in-Some.place (sym c.in-Some.is ∙ (c.first_place.ensures.place ∙ ap (position (is_some_and p)) c.as_slice.ensures.value)) in
    kept_taken c.self.inside.places.items c.take_out.new.places.items c.self.inside.times c.take_out.new.times _ _ _ c.in-Some.place at.0 c.self.invariant at.1 c.take_out.ensures.places c.take_out.ensures.times

pub returns-in-None-clause-found : goal.returns-in-None-clause-found
returns-in-None-clause-found g c =
    let p = passes c.args.which in
    let none = nowhere p c.self.inside.places.items (sym c.in-None.is ∙ (c.first_place.ensures.place ∙ ap (position (is_some_and p)) c.as_slice.ensures.value)) in
    none.found ∙ ap (λ (x : Roomy Timer). find p x.items) c.self.view_is

pub returns-in-None-clause-after : goal.returns-in-None-clause-after
returns-in-None-clause-after g c =
    let p = passes c.args.which in
    let none = nowhere p c.self.inside.places.items (sym c.in-None.is ∙ (c.first_place.ensures.place ∙ ap (position (is_some_and p)) c.as_slice.ensures.value)) in
    seen_same (less p) c.self.inside.places.items c.self.inside.room c.args.self.now c.self.view_is none.without

pub returns-in-Some-clause-found : goal.returns-in-Some-clause-found
returns-in-Some-clause-found g c =
    let p = passes c.args.which in
    let at = first_at p c.self.inside.places.items c.in-Some.place (sym c.in-Some.is ∙ (c.first_place.ensures.place ∙ ap (position (is_some_and p)) c.as_slice.ensures.value)) in
    c.take_out.ensures.before ∙ (at.1 ∙ (sym at.3.found ∙ ap (λ (x : Roomy Timer). find p x.items) c.self.view_is))

pub returns-in-Some-clause-after : goal.returns-in-Some-clause-after
returns-in-Some-clause-after g c =
    let p = passes c.args.which in
    let at = first_at p c.self.inside.places.items c.in-Some.place (sym c.in-Some.is ∙ (c.first_place.ensures.place ∙ ap (position (is_some_and p)) c.as_slice.ensures.value)) in
    seen_changed (less p) c.self.inside.places.items c.take_out.new.places.items c.self.inside.room c.args.self.now c.self.view_is (ap entries c.take_out.ensures.places ∙ at.3.without)
