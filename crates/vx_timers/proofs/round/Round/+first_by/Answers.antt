use Rattle.std.proofs.Common.{Box, Global, ap, position, sym, ◌∙◌}
use Rattle.vx_timers.specs.Rounds.{is_by, winners}
use Rattle.vx_timers.specs.declared.round.Round.{Round}
use Rattle.vx_timers.proofs.Rounds.{first_none, next_is, pair_within}
use Rattle.vx_timers.proofs.round.Round.+first_by.Goals as goal

pub first_in-requires : goal.first_in-requires
first_in-requires t c =
    let next = next_is c.self.inside.times.items (λ (b : Box Round Global). b.value) c.self.inside.next c.in-Some.next c.in-Some.is c.self.invariant in
    let first = sym c.in-Some-first_by.is ∙ (c.first_by.ensures.place ∙ ap (position (is_by c.args.now)) (c.deref.ensures ∙ (next.winners ∙ ap winners (sym c.as_slice-in-Some-first_by.ensures.value)))) in
    record { first = first; there = pair_within c.args.now c.as_slice-in-Some-first_by.result.now c.in-Some-first_by.pair first }

pub returns-in-None-first_by-clause-place : goal.returns-in-None-first_by-clause-place
returns-in-None-first_by-clause-place t c =
    let next = next_is c.self.inside.times.items (λ (b : Box Round Global). b.value) c.self.inside.next c.in-Some.next c.in-Some.is c.self.invariant in
    first_none c.args.now c.self.inside.times.items (sym c.in-None-first_by.is ∙ (c.first_by.ensures.place ∙ ap (position (is_by c.args.now)) (c.deref.ensures ∙ next.winners))) ∙ ap (position (is_by c.args.now)) c.self.view_is
