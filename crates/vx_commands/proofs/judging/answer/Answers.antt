use Rattle.std.proofs.Common.{subst, Err}
use Rattle.vx_check.specs.declared.verdict.Verdict.{Verdict}
use Rattle.vx_journal.specs.ReadJournal.{TellsIfFailed, script_part}
use Rattle.vx_commands.specs.Reported.{judged, no_journal, no_script, refused}
use Rattle.vx_tell.proofs.Told.{is_no_script}
use Rattle.vx_commands.proofs.judging.answer.Goals as goal

pub returns-in_ok-reported-in-Ok : goal.returns-in_ok-reported-in-Ok
returns-in_ok-reported-in-Ok c = rw c.status_of.ensures (judged c.in-Ok.verdict _ c.in_ok-reported-in-Ok.ensures)

pub returns-in_ok-fault_line-in-Err-Script : goal.returns-in_ok-fault_line-in-Err-Script
returns-in_ok-fault_line-in-Err-Script c =
    refused _ (rw (c.in_ok-fault_line-in-Err-Script.ensures, c.in-Err-Script.field-0-is) (no_script _ (is_no_script (script_part c.args.input.now) c.in-Err-Script.fault (subst (λ z. TellsIfFailed {A = Verdict} c.args.input.now (Err z)) c.in-Err-Script.field-0-is c.in-Err-Script.ensures.failure))))

pub returns-in_ok-form_line-in-Err-Form : goal.returns-in_ok-form_line-in-Err-Form
returns-in_ok-form_line-in-Err-Form c =
    refused _ (rw (c.in_ok-form_line-in-Err-Form.ensures, c.in-Err-Form.field-0-is) (no_journal c.in-Err-Form.line (subst (λ z. TellsIfFailed {A = Verdict} c.args.input.now (Err z)) c.in-Err-Form.field-0-is c.in-Err-Form.ensures.failure)))
