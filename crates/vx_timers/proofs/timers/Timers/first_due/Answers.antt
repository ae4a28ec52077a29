use Rattle.std.proofs.Common.{None, ap, arith, length, position, sym, ◌∙◌}
use Rattle.std.specs.List.{find}
use Rattle.std.proofs.lemmas.List.{get_or_default}
use Rattle.vx_record.specs.Types.{Timer}
use Rattle.vx_base.specs.Roomy.{Roomy}
use Rattle.vx_record.specs.Timers.{is_due}
use Rattle.vx_timers.proofs.Entries.{first_at, nowhere}
use Rattle.vx_base.specs.Lists.{is_some_and}
use Rattle.vx_timers.proofs.timers.Timers.first_due.Goals as goal

pub returns-in-None : goal.returns-in-None
returns-in-None g c =
    let p = is_due c.args.now in
    let none = nowhere p c.self.inside.places.items (sym c.in-None.is ∙ (c.first_place.ensures.place ∙ ap (position (is_some_and p)) c.as_slice.ensures.value)) in
    none.found ∙ ap (λ (x : Roomy Timer). find p x.items) c.self.view_is

pub returns-in-Some : goal.returns-in-Some
returns-in-Some g c =
    let p = is_due c.args.now in
    let at = first_at p c.self.inside.places.items c.in-Some.place (sym c.in-Some.is ∙ (c.first_place.ensures.place ∙ ap (position (is_some_and p)) c.as_slice.ensures.value)) in
    let there = get_or_default c.self.inside.places.items c.in-Some.place c.index.result.now None (omega (arith, c.in-Some.ensures.within, ap length c.as_slice.ensures.value)) in
    c.as_ref.ensures.value ∙ (c.index.ensures ∙ (there ∙ (at.1 ∙ (sym at.3.found ∙ ap (λ (x : Roomy Timer). find p x.items) c.self.view_is))))
