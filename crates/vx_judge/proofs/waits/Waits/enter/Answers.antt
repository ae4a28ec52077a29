use Rattle.std.proofs.Common.{◌≡◌, ◌+◌, arith}
use Rattle.vx_judge.proofs.Awaited.{entered}
use Rattle.vx_judge.proofs.waits.Waits.enter.Goals as goal

pub returns-in_ok-set_count-in-Some : goal.returns-in_ok-set_count-in-Some
returns-in_ok-set_count-in-Some c =
    let next : c.in-Some.more ≡ c.count-count.result + 1 = omega (arith, c.in-Some.ensures) in
    let set = c.in_ok-set_wait-in-Some.ensures in
    let counted = c.in_ok-set_count-in-Some.ensures in
    entered c.args.self.now c.set_wait.new.self c.set_count.new.self c.args.p c.count-count.result c.in-Some.more c.count-count.ensures next (set.asked, set.counts) counted.counts counted.asked
