use Rattle.std.proofs.Common.{◌<◌, arith}
use Rattle.vx_judge.proofs.Awaited.{told}
use Rattle.vx_judge.proofs.waits.Waits.set_top.Goals as goal

pub returns : goal.returns
returns c =
    let some : 0 < c.count-count.result = omega arith in
    let set = c.in_ok-set_wait.ensures in
    told c.args.self.now c.set_wait.new.self c.args.p c.count-count.result c.args.wait c.count-count.ensures some (set.asked, set.counts)
