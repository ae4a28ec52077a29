use Rattle.vx_turn.specs.Seats.{IsOne}
use Rattle.vx_uses.proofs.turn.leave_many.Given as goal

abbrev pub invariant-rounds : goal.invariant-rounds
invariant-rounds g l = IsOne l.fn.lock.table l.seat
