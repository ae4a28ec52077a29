use Rattle.std.proofs.Common.{◌≡◌, ◌++◌}
use Rattle.std.specs.List.{find}
use Rattle.vx_record.specs.Events.{tick_events, units_from}
use Rattle.vx_exec.specs.Leases.{is_open}
use Rattle.vx_exec.proofs.Enabled.{later_units}
use Rattle.vx_exec.proofs.events.first_open_later.Given as goal

abbrev pub invariant-loop-place : goal.invariant-loop-place
invariant-loop-place g l =
    let s = l.core.state in
    find is_open (later_units s l.place (tick_events s.timers)) ≡ find is_open (units_from s 0 s.units ++ tick_events s.timers)
