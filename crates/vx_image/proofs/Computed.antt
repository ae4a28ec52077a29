-- Worked examples.
use Rattle.std.proofs.Common.{zero, suc, refl}
use Rattle.vx_image.specs.Example.{GoesRound}

pub goes_round : GoesRound
goes_round zero store = refl
goes_round (suc n) store = goes_round n store
