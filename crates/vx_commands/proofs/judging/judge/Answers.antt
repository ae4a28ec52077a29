use Rattle.vx_commands.specs.Reported.{IsReportText, short}
use Rattle.vx_tell.proofs.Told.{told_output}
use Rattle.vx_commands.proofs.judging.judge.Goals as goal

pub returns-clause-told : goal.returns-clause-told
returns-clause-told g c = told_output (IsReportText c.args.report c.args.input.now) _ _ _ _ _ _ (rw c.as_slice.ensures at c.answer.ensures) short c.tell_output.ensures.told
