use Rattle.std.proofs.Common.{◌-◌, ◌^◌, ◌<◌, arith, refl}
use Rattle.vx_judge.proofs.WordBits.{shifted, bits_cleared, beyond_cleared, all_cleared}
use Rattle.vx_judge.proofs.bits.clear.Goals as goal

pub returns-then-n-lt32 : goal.returns-then-n-lt32
returns-then-n-lt32 c = λ flags is.
    let within : 4294967295 - 2 ^ c.args.n < 4294967296 = omega arith in
    rw (shifted c.args.n c.if-n-lt32.true) (bits_cleared c.args.word.bits flags (4294967295 - 2 ^ c.args.n) is.0, beyond_cleared flags (4294967295 - 2 ^ c.args.n) within)

pub returns-else-n-lt32 : goal.returns-else-n-lt32
returns-else-n-lt32 c = λ flags is. rw (all_cleared flags c.args.n c.if-n-lt32.false) ((λ i k. refl), refl)
