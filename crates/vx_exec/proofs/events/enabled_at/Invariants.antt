use Rattle.std.proofs.Common.{◌≡◌, ◌++◌, slice_get}
use Rattle.vx_record.specs.Events.{enabled, tick_events, units_from}
use Rattle.vx_exec.proofs.Blocks.{from_block}
use Rattle.vx_exec.proofs.events.enabled_at.Given as goal

abbrev pub invariant-loop-b : goal.invariant-loop-b
invariant-loop-b g l =
    let s = l.core.state in
    slice_get (from_block s l.b (units_from s 0 s.units ++ tick_events s.timers)) l.left ≡ slice_get (enabled s) l.i
