use Rattle.std.proofs.Common.{◌<◌, refl, arith}
use Rattle.vx_judge.proofs.WordBits.{masked}
use Rattle.vx_judge.proofs.bits.all_set.Goals as goal

pub returns : goal.returns
returns c = λ flags is.
    let within : c.args.mask < 4294967296 = omega arith in
    rw (masked c.args.word.bits flags c.args.mask within is.0) refl
