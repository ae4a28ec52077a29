use Rattle.std.proofs.Common.{◌≡◌, Some}
use Rattle.vx_carrier.specs.declared.turn.Turn.TheVariants.{Took}
use Rattle.vx_carrier.proofs.Seats.{saw_handed, took_end, took_grew}
use Rattle.vx_carrier.proofs.executive.Executive.go_on.Goals as goal

pub serve-requires-clause-saw : goal.serve-requires-clause-saw
serve-requires-clause-saw g c =
    let is : c.turn.result ≡ Took (Some c.in-Took-Some.lease) = cc in
    saw_handed g.J.Naming.plan c.args.seat.now.me.0 c.turn.new.seat.me.0 c.turn.result c.in-Took-Some.lease c.turn.ensures.took is

pub returns-in_default-2 : goal.returns-in_default-2
returns-in_default-2 g c = record { seat = c.turn.ensures.seat; grew = took_grew g.J.Naming.plan c.args.seat.now.me.0 c.turn.new.seat.me.0 c.turn.result c.turn.ensures.took; ended = took_end g.J.Naming.plan c.args.seat.now.me.0 c.turn.new.seat.me.0 c.turn.result c.turn.ensures.took }
