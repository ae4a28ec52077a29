use Rattle.std.proofs.Common.{◌≡◌, ◌+◌, take, drop, length, sym, ◌∙◌}
use Rattle.vx_check.proofs.Judging.{found_at, limit_kept, no_step, one_taken, split_at, wrong_count, wrong_step}
use Rattle.vx_check.specs.Judging.{IsWrongFrom, most_for}
use Rattle.vx_check.proofs.checking.first_wrong.Goals.{then-taken-limit-via-then-taken-limit, then-taken-limit-via-else-taken-limit+in_ok-takes+then-not-branch}
use Rattle.vx_check.proofs.checking.first_wrong.Goals as goal

pub returns-then-taken-limit-clause-wrong : goal.returns-then-taken-limit-clause-wrong
returns-then-taken-limit-clause-wrong c =
    let before = c.args.exec.now in
    let now = c.loop-rec.exec in
    let recs = c.args.recs.now in
    let i = c.loop-rec.rec-index in
    let r = c.rec-item.result in
    let split = split_at recs i r c.loop-rec-test.true c.rec-item.is in
    let here : IsWrongFrom before.state recs (now.taken + 1) = elim c.then-taken-limit.branch [
      | then-taken-limit-via-then-taken-limit w ↦ wrong_count before now recs (take i recs) (drop (i + 1) recs) r c.loop-rec.invariant c.requires.begun split (sym c.taken-taken.ensures ∙ w.if-taken-limit.true ∙ c.limit.ensures ∙ limit_kept before now (take i recs) (most_for (length recs)) c.loop-rec.invariant c.requires.limited)
      | then-taken-limit-via-else-taken-limit+in_ok-takes+then-not-branch w ↦ wrong_step before now recs (take i recs) (drop (i + 1) recs) r c.loop-rec.invariant c.requires.begun split (no_step now.state r w.in_ok-takes.field-0 w.if-not-branch.true w.in_ok-takes.ensures.same)
    ] in
    λ n is. found_at before.state recs now.taken c.taken-taken.result n c.taken-taken.ensures (cc is) here

pub loop-rec-preserved : goal.loop-rec-preserved
loop-rec-preserved c =
    let now = c.loop-rec.exec in
    let recs = c.args.recs.now in
    let i = c.loop-rec.rec-index in
    let r = c.rec-item.result in
    let is = c.in_ok-takes.ensures.same.0 c.if-not-branch.false in
    let going = λ (same : now.taken ≡ now.limit). c.if-taken-limit.false (c.taken-taken.ensures ∙ same ∙ sym c.limit.ensures) in
    one_taken c.args.exec.now now c.takes.new.exec recs i r (most_for (length recs)) c.loop-rec.invariant c.loop-rec-test.true c.rec-item.is c.requires.begun c.requires.limited going is (c.in_ok-takes.ensures.after (cc c.if-not-branch.false)) c.in_ok-takes.ensures.plan
