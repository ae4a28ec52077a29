use Rattle.std.proofs.Common.{◌∙◌}
use Rattle.vx_endings.proofs.Executives.{cut_of, told_of, whole_of}
use Rattle.vx_endings.proofs.exploring.endings.Goals as goal

pub returns-clause-told : goal.returns-clause-told
returns-clause-told c = told_of c.args.system c.args.limit c.args.states c.in_ok-first.first (c.in_ok-first.ensures ∙ c.in_ok-exec.ensures) c.explore-found.result c.explore-found.ensures.told

pub returns-clause-whole : goal.returns-clause-whole
returns-clause-whole c = whole_of c.args.system c.args.limit c.args.states c.in_ok-first.first (c.in_ok-first.ensures ∙ c.in_ok-exec.ensures) c.explore-found.result c.explore-found.ensures.whole

pub returns-clause-cut : goal.returns-clause-cut
returns-clause-cut c = cut_of c.args.system c.args.limit c.args.states c.in_ok-first.first (c.in_ok-first.ensures ∙ c.in_ok-exec.ensures) c.explore-found.result c.explore-found.ensures.cut
