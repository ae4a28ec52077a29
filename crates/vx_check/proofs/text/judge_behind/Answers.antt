use Rattle.std.proofs.Common.{◌≡◌, ◌∙◌, List, Ok, drop, ap, sym}
use Rattle.std.proofs.lemmas.List.{take_rest}
use Rattle.vx_record.specs.Types.{System, UnitDecl}
use Rattle.vx_journal.specs.TrailerLines.{read_trailer}
use Rattle.vx_check.proofs.TextJudged.{judged_behind}
use Rattle.vx_check.specs.Following.{verdict_on}
use Rattle.vx_check.proofs.text.judge_behind.Goals as goal

pub returns-in-Ok-verdict_on : goal.returns-in-Ok-verdict_on
returns-in-Ok-verdict_on c = λ system line same follows.
    let text = c.args.text.now in
    let f = c.args.followed in
    let rest = take_rest text f.len in
    let units : c.as_slice-units.result.now ≡ system.units = c.as_slice-units.ensures ∙ ap (λ (s : System). s.units) (c.system.ensures ∙ same) in
    let read : read_trailer c.as_slice-units.result.now f.line (drop f.len text) ≡ Ok c.in-Ok.part = rw rest at c.in-Ok.ensures in
    let is : c.in-Ok-verdict_on.verdict ≡ verdict_on c.args.exec.now f.wrong c.in-Ok.part (drop f.len text) = rw rest at c.in-Ok-verdict_on.ensures in
    judged_behind system c.args.exec.now line text f c.in-Ok.part c.in-Ok-verdict_on.verdict follows (ap (λ (us : List UnitDecl). read_trailer us f.line (drop f.len text)) (sym units) ∙ read) is
