use Rattle.std.proofs.Common.{◌≡◌, ◌+◌, ◌≤◌, length}
use Rattle.vx_exec.specs.Blocks.{events_in}
use Rattle.vx_exec.proofs.Blocks.{rest_in}
use Rattle.vx_exec.proofs.block.counted_in.Given as goal

abbrev pub invariant-loop-place : goal.invariant-loop-place
invariant-loop-place g l = record {
  few : l.count ≤ l.place;
  counted : l.count + length (rest_in l.core.state l.b l.place) ≡ length (events_in l.core.state l.b);
}
