use Rattle.std.proofs.Common.{drop, subst}
use Rattle.std.proofs.lemmas.List.{take_rest}
use Rattle.vx_journal.specs.ReadJournal.{behind_header}
use Rattle.vx_lines.specs.ReadRecords.{Fails}
use Rattle.vx_lines.specs.declared.read.LinesFail.{LinesFail}
use Rattle.vx_check.proofs.TextJudged.{bad_text, judged_text}
use Rattle.vx_check.specs.Following.{IsVerdictBehind}
use Rattle.vx_check.proofs.text.check_front.Goals as goal

pub returns-in-Ok-clause-verdict : goal.returns-in-Ok-clause-verdict
returns-in-Ok-clause-verdict c =
    let text = c.args.text.now in
    let f = c.args.front in
    let behind : IsVerdictBehind f.system f.end.line (drop f.end.len text) c.in-Ok.verdict = rw (take_rest text f.end.len) at c.in-Ok.ensures in
    judged_text text f c.in-Ok.verdict c.requires.front behind

pub returns-in-Err-Bad-clause-failure : goal.returns-in-Err-Bad-clause-failure
returns-in-Err-Bad-clause-failure c =
    let text = c.args.text.now in
    let f = c.args.front in
    let fails : Fails c.in-Err-Bad.field-0 (behind_header f.system f.end.line (drop f.end.len text)) = rw (take_rest text f.end.len) at c.in-Err-Bad.ensures in
    bad_text text f c.in-Err-Bad.line c.requires.front (subst (λ (e : LinesFail). Fails e (behind_header f.system f.end.line (drop f.end.len text))) c.in-Err-Bad.field-0-is fails)
