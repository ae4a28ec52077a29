use Rattle.std.proofs.Common.{◌≤◌, ◌*◌, ◌++◌, length, slice_get, arith, ◌∙◌}
use Rattle.vx_record.specs.Events.{enabled, tick_events, units_from}
use Rattle.vx_exec.proofs.Blocks.{block_has, block_passed, blocks_passed}
use Rattle.vx_exec.proofs.events.enabled_at.Goals as goal

pub loop-b-preserved : goal.loop-b-preserved
loop-b-preserved g c =
    let s = c.args.core.now.state in
    block_passed s c.loop-b.b (units_from s 0 s.units ++ tick_events s.timers) c.loop-b.left c.in-Err.behind (slice_get (enabled s) c.args.i) c.in-Err.ensures.behind c.loop-b.invariant

pub returns-in-Ok : goal.returns-in-Ok
returns-in-Ok g c =
    let s = c.args.core.now.state in
    block_has s c.loop-b.b (units_from s 0 s.units ++ tick_events s.timers) c.loop-b.left c.in-Ok.event (slice_get (enabled s) c.args.i) c.in-Ok.ensures.event c.loop-b.invariant

pub returns : goal.returns
returns g c =
    let s = c.args.core.now.state in
    let past : length s.procs ≤ 32 * c.loop-b.b = omega (arith, c.block_count-b-end.ensures.covers, c.loop-b-test.false) in
    c.unit_event_at.ensures ∙ blocks_passed s c.loop-b.b (units_from s 0 s.units ++ tick_events s.timers) c.loop-b.left (slice_get (enabled s) c.args.i) past c.loop-b.invariant
