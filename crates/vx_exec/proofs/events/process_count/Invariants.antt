use Rattle.std.proofs.Common.{◌≡◌, ◌+◌, ◌*◌, ◌≤◌, length}
use Rattle.vx_record.specs.Events.{processes_from}
use Rattle.vx_exec.specs.Blocks.{events_from}
use Rattle.vx_exec.proofs.events.process_count.Given as goal

abbrev pub invariant-loop-b : goal.invariant-loop-b
invariant-loop-b g l = record {
  few : l.count ≤ 32 * l.b;
  counted : l.count + length (events_from l.core.state l.b) ≡ length (processes_from l.core.state 1 l.core.state.procs);
}
