use Rattle.std.proofs.Common.{ap, position, sym, ◌∙◌}
use Rattle.vx_timers.specs.Rounds.{is_by}
use Rattle.vx_timers.specs.Seen.{passes}
use Rattle.vx_timers.specs.declared.due.Which.{Which}
use Rattle.vx_timers.proofs.Entries.{due_position}
use Rattle.vx_base.specs.Lists.{is_some_and}
use Rattle.vx_timers.proofs.places.first_place.Goals as goal

pub returns-in-Due-clause-place : goal.returns-in-Due-clause-place
returns-in-Due-clause-place g c =
    let places = c.args.places.now in
    c.first_by.ensures.place ∙ (ap (position (is_by c.in-Due.now)) c.requires ∙ (due_position c.in-Due.now places ∙ ap (λ (w : Which). position (is_some_and (passes w)) places) (sym c.in-Due.is)))
