use Rattle.std.proofs.Common.{ap, ◌∙◌}
use Rattle.vx_record.specs.Services.{routine_or_none}
use Rattle.vx_exec.proofs.Running.{timer_call}
use Rattle.vx_exec.proofs.services.set_timer.Goals as goal

pub returns : goal.returns
returns g c =
    let s = c.args.core.now.state in
    let tag = c.routine_or_none-routine.ensures ∙ ap (routine_or_none s c.args.p c.args.args.now.a2) c.number-reqid.ensures in
    timer_call c.args.core.now c.setimr-answer.new.core c.args.p _ _ _ _ _ _ _ _ c.cond_of.result c.number.ensures c.number-2.ensures tag c.number-reqid.ensures (rw c.cond_of.ensures c.setimr-answer.ensures.does)
