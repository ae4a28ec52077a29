use Rattle.std.proofs.Common.{◌≡◌, ◌+◌, ◌≤◌, drop, length}
use Rattle.vx_record.specs.Events.{units_from}
use Rattle.vx_exec.proofs.events.unit_count.Given as goal

abbrev pub invariant-loop-place : goal.invariant-loop-place
invariant-loop-place g l = record {
  few : l.count ≤ l.place;
  counted : l.count + length (units_from l.core.state l.place (drop l.place l.core.state.units)) ≡ length (units_from l.core.state 0 l.core.state.units);
}
