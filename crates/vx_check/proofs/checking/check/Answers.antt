use Rattle.std.proofs.Common.{ap}
use Rattle.vx_exec.specs.View.{Executive}
use Rattle.vx_check.proofs.Judging.{checked}
use Rattle.vx_check.proofs.checking.check.Goals as goal

pub returns : goal.returns
returns c = checked c.args.journal c.judge.result c.in_ok-exec.exec.state c.as_slice-2.result.now c.as_slice-3.result.now (ap (λ (e : Executive). e.state) c.in_ok-exec.ensures) c.as_slice-2.ensures c.as_slice-3.ensures c.judge.ensures
