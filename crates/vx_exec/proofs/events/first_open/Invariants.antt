use Rattle.std.proofs.Common.{◌≡◌, ◌++◌}
use Rattle.std.specs.List.{find}
use Rattle.vx_record.specs.Events.{enabled, tick_events, units_from}
use Rattle.vx_exec.specs.Leases.{is_open}
use Rattle.vx_exec.proofs.Blocks.{from_block}
use Rattle.vx_exec.proofs.events.first_open.Given as goal

abbrev pub invariant-loop-b : goal.invariant-loop-b
invariant-loop-b g l =
    let s = l.core.state in
    find is_open (from_block s l.b (units_from s 0 s.units ++ tick_events s.timers)) ≡ find is_open (enabled s)
