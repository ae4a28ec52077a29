use Rattle.std.proofs.Common.{◌≡◌, ◌++◌, slice_get}
use Rattle.vx_record.specs.Events.{tick_events, units_from}
use Rattle.vx_exec.proofs.Enabled.{later_units}
use Rattle.vx_exec.proofs.events.unit_event_at.Given as goal

abbrev pub invariant-loop-place : goal.invariant-loop-place
invariant-loop-place g l =
    let s = l.core.state in
    slice_get (later_units s l.place (tick_events s.timers)) l.left ≡ slice_get (units_from s 0 s.units ++ tick_events s.timers) l.i
