use Rattle.std.proofs.Common.{◌<◌, arith}
use Rattle.vx_judge.proofs.WordBits.{number_is}
use Rattle.vx_judge.proofs.bits.are.Goals as goal

pub returns : goal.returns
returns c = λ flags within is.
    let fits : c.args.bits < 4294967296 = omega arith in
    number_is c.args.bits flags c.args.m fits within is
