use Rattle.std.proofs.Common.{◌<◌, length, suc, drop}
use Rattle.std.proofs.Math.Seq.{drop-cons}
use Rattle.vx_lines.proofs.Numbers.{value_up_to-large}
use Rattle.vx_lines.proofs.number.value_up_to.Goals as goal

pub returns-then-number-from : goal.returns-then-number-from
returns-then-number-from c =
    let run = c.args.digits.now in
    let i = c.loop-digit.digit-index in
    let h : i < length run = c.loop-digit-test.true in
    value_up_to-large c.args.most run (drop (suc i) run) _ (rw (drop-cons run i 0 h) at c.loop-digit.invariant.value) (rw (c.from.ensures, c.from-in-loop-digit.ensures) at c.if-number-from.true)
