use Rattle.std.proofs.Common.{◌<◌, length, suc, drop}
use Rattle.std.proofs.Math.Seq.{drop-cons}
use Rattle.vx_text.proofs.Digits.{hex_of-large}
use Rattle.vx_text.proofs.bytes.hex_of.Goals as goal

pub returns-then-number-gt4294967295 : goal.returns-then-number-gt4294967295
returns-then-number-gt4294967295 c =
    let run = c.args.run.now in
    let i = c.loop-digit.digit-index in
    let h : i < length run = c.loop-digit-test.true in
    hex_of-large run (drop (suc i) run) _ (rw (drop-cons run i 0 h) at c.loop-digit.invariant.value) (rw (← c.hex_value.ensures.value, ← c.from.ensures) c.if-number-gt4294967295.true)
