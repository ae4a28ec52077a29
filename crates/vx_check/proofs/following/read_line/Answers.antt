use Rattle.std.proofs.Common.{sym, ◌∙◌}
use Rattle.vx_check.proofs.Lines.{effect_by, head_by}
use Rattle.vx_check.proofs.following.read_line.Goals as goal

pub returns-then-begins_with_space-clause-follows : goal.returns-then-begins_with_space-clause-follows
returns-then-begins_with_space-clause-follows c = effect_by c.args.exec.now c.args.progress _ c.args.line.now c.effect_line.result (sym c.begins_with_space.ensures ∙ c.if-begins_with_space.true) c.effect_line.ensures

pub returns-else-begins_with_space-clause-follows : goal.returns-else-begins_with_space-clause-follows
returns-else-begins_with_space-clause-follows c = head_by c.args.exec.now c.head_line.new.exec c.args.progress _ c.args.line.now c.head_line.result (sym c.begins_with_space.ensures ∙ c.if-begins_with_space.false) c.head_line.ensures.follows
