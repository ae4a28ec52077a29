use Rattle.std.proofs.Common.{ap, sym, ◌∙◌, true}
use Rattle.vx_record.specs.Types.{Need}
use Rattle.vx_record.specs.Charges.{ast_need, exceeds}
use Rattle.vx_procs.specs.Kernel.{Kernel}
use Rattle.vx_ctl.proofs.wakes.schedule.Goals as goal

pub add_timer-requires-clause-within : goal.add_timer-requires-clause-within
add_timer-requires-clause-within g c =
    ap (λ (k : Kernel). exceeds k.state c.args.p (ast_need true)) c.tell.ensures
    ∙ (ap (λ (k : Kernel). exceeds k.state c.args.p (ast_need true)) c.new_id-id.ensures.after
    ∙ (ap (λ (n : Need). exceeds c.args.core.now.state c.args.p n) (sym c.ast_need.ensures) ∙ (sym c.exceeds.ensures ∙ c.if-exceeds.false)))
