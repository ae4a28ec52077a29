use Rattle.std.proofs.Common.{◌∙◌}
use Rattle.vx_judge.proofs.WordBits.{shifted, bits_set, bits_set_above, beyond_set, beyond_above}
use Rattle.vx_judge.proofs.bits.set.Goals as goal

pub returns-then-n-lt32 : goal.returns-then-n-lt32
returns-then-n-lt32 c = λ flags is. rw (shifted c.args.n c.if-n-lt32.true) (bits_set c.args.word.bits flags c.args.n is.0, is.1 ∙ beyond_set flags c.args.n c.if-n-lt32.true)

pub returns-else-n-lt32 : goal.returns-else-n-lt32
returns-else-n-lt32 c = λ flags is. (bits_set_above c.args.word.bits flags c.args.n c.if-n-lt32.false is.0, beyond_above flags c.args.n c.if-n-lt32.false)
