use Rattle.std.proofs.Common.{◌≡◌, IfOk, Ok, Option, ap, refl, subst}
use Rattle.vx_record.specs.Types.{End}
use Rattle.vx_record.specs.Runs.{end_of}
use Rattle.vx_check.specs.Verdict.{part_verdict}
use Rattle.vx_check.specs.Judging.{at_record}
use Rattle.vx_check.proofs.Judging.{run_judged}
use Rattle.vx_check.proofs.checking.judge.Goals as goal

pub returns-in-Some : goal.returns-in-Some
returns-in-Some c = at_record c.in-Some.n (c.in_ok-n.ensures.wrong c.in-Some.n (ap (λ o. Ok o) c.in-Some.is)) refl

pub returns : goal.returns
returns c =
    let now = c.first_wrong.new.exec in
    let trailer = c.args.trailer.now in
    let is : IfOk c.part_verdict.result (λ v. v ≡ part_verdict now.state now.taken c.args.part trailer (end_of now.limit now.taken now.state)) = subst (λ (o : Option End). IfOk c.part_verdict.result (λ v. v ≡ part_verdict now.state now.taken c.args.part trailer o)) c.ended.ensures c.part_verdict.ensures in
    run_judged c.args.exec.now now c.args.recs.now c.args.part trailer c.part_verdict.result c.requires.begun c.requires.limited (c.in_ok-n.ensures.run (ap (λ o. Ok o) c.in_default.is)) (c.in_ok-n.ensures.few (ap (λ o. Ok o) c.in_default.is)) is
