use Rattle.std.proofs.Common.{Box, Global, ap, ◌∙◌}
use Rattle.vx_timers.specs.Rounds.{least_of}
use Rattle.vx_timers.specs.declared.round.Round.{Round}
use Rattle.vx_timers.proofs.Rounds.{least_winners, next_is}
use Rattle.vx_timers.proofs.round.Round.+least.Goals as goal

pub returns-in-Some : goal.returns-in-Some
returns-in-Some t c =
    let next = next_is c.self.inside.times.items (λ (b : Box Round Global). b.value) c.self.inside.next c.in-Some.next c.in-Some.is c.self.invariant in
    c.least.ensures ∙ (ap least_of (c.deref.ensures ∙ next.winners) ∙ (least_winners c.self.inside.times.items ∙ ap least_of c.self.view_is))
