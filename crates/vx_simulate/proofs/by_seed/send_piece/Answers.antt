use Rattle.std.proofs.Common.{refl}
use Rattle.vx_simulate.specs.Simulating.{kept, sent}
use Rattle.vx_simulate.proofs.by_seed.send_piece.Goals as goal

pub returns-then-len-lt-PIECE-clause-ok : goal.returns-then-len-lt-PIECE-clause-ok
returns-then-len-lt-PIECE-clause-ok g c = kept refl

pub returns-clause-ok : goal.returns-clause-ok
returns-clause-ok g c = rw c.truncate.ensures (sent (rw c.as_slice.ensures at c.in_ok-write_all.ensures.ok))
