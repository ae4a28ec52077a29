use Rattle.std.proofs.Common.{ap, sym, ◌∙◌}
use Rattle.vx_record.specs.Charges.{exceeds}
use Rattle.vx_ctl.proofs.asts.dclast.Goals as goal

pub queue_ast-requires-clause-within : goal.queue_ast-requires-clause-within
queue_ast-requires-clause-within g c = λ _. rw (c.tell-2.ensures, c.tell.ensures, c.new_id-id.ensures.after) (ap (λ n. exceeds c.args.core.now.state c.args.p n) (sym c.ast_need.ensures) ∙ (sym c.exceeds.ensures ∙ c.if-exceeds.false))
