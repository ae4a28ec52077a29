use Rattle.vx_exec.specs.Blocks.{events_in}
use Rattle.vx_exec.proofs.Blocks.{IsSeeking, rest_in}
use Rattle.vx_exec.proofs.block.event_among.Given as goal

abbrev pub invariant-loop-place : goal.invariant-loop-place
invariant-loop-place g l = IsSeeking (events_in l.core.state l.b) (rest_in l.core.state l.b l.place) l.i l.left
