use Rattle.std.proofs.Common.{◌∙◌, ap}
use Rattle.vx_laws.specs.Frames.{awaited}
use Rattle.vx_laws.specs.StatusLaw.{resumes_wait}
use Rattle.vx_judge.proofs.Awaited.{by_top}
use Rattle.vx_judge.proofs.waiting.resumes_right.Goals as goal

pub returns : goal.returns
returns c = λ past values waits.
    c.resumes_wait.ensures past values ∙ (ap (resumes_wait past c.args.p c.args.c) (c.top.ensures past waits) ∙ by_top past c.args.p c.args.c (awaited past c.args.p))
