use Rattle.std.proofs.Common.{◌<◌, ap, ◌∙◌, arith}
use Rattle.vx_judge.specs.Asked.{top_of}
use Rattle.vx_judge.specs.Waits.{wait_at, waits_below}
use Rattle.vx_judge.proofs.Awaited.{top_below}
use Rattle.vx_judge.proofs.waits.Waits.top.Goals as goal

pub returns : goal.returns
returns c = λ past are.
    let here = wait_at c.args.self.now c.args.p in
    let count = c.count-count.result in
    let some : 0 < c.count-count.result = omega arith in
    c.copied.ensures ∙ (c.get.ensures.value ∙ (top_below here count some ∙ (ap (λ k. top_of (waits_below here k)) c.count-count.ensures ∙ ap top_of (are c.args.p))))
