use Rattle.std.proofs.Common.{ap, sym, ◌∙◌}
use Rattle.vx_timers.specs.Rounds.{is_by}
use Rattle.vx_timers.proofs.Rounds.{first_left, first_right, right_within}
use Rattle.vx_timers.proofs.round.first_in.Goals as goal

pub returns-then-is_by-clause-place : goal.returns-then-is_by-clause-place
returns-then-is_by-clause-place c =
    first_left c.args.now c.args.times.now c.args.pair c.requires.first (ap (is_by c.args.now) (sym c.time_at.ensures) ∙ (sym c.is_by.ensures ∙ c.if-is_by.true))

pub returns-else-is_by-clause-place : goal.returns-else-is_by-clause-place
returns-else-is_by-clause-place c =
    first_right c.args.now c.args.times.now c.args.pair c.requires.first (ap (is_by c.args.now) (sym c.time_at.ensures) ∙ (sym c.is_by.ensures ∙ c.if-is_by.false))

pub returns-else-is_by-clause-within : goal.returns-else-is_by-clause-within
returns-else-is_by-clause-within c =
    right_within c.args.now c.args.times.now c.args.pair c.requires.first (ap (is_by c.args.now) (sym c.time_at.ensures) ∙ (sym c.is_by.ensures ∙ c.if-is_by.false))
