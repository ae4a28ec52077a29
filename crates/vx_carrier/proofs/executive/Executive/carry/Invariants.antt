use Rattle.vx_turn.specs.Seats.{IsOne}
use Rattle.vx_carrier.specs.Turns.{SeatGrew}
use Rattle.vx_carrier.proofs.executive.Executive.carry.Given as goal

abbrev pub invariant-turns : goal.invariant-turns
invariant-turns g l = IsOne l.fn.self.table l.seat × SeatGrew l.fn.seat.me.0 l.seat.me.0
