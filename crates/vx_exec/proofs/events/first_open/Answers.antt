use Rattle.std.proofs.Common.{◌≤◌, ◌*◌, ◌++◌, length, arith, ◌∙◌}
use Rattle.std.specs.List.{find}
use Rattle.vx_record.specs.Events.{enabled, tick_events, units_from}
use Rattle.vx_exec.specs.Leases.{is_open}
use Rattle.vx_exec.proofs.Blocks.{block_closed, block_opens, blocks_closed}
use Rattle.vx_exec.proofs.events.first_open.Goals as goal

pub loop-b-preserved : goal.loop-b-preserved
loop-b-preserved g c =
    let s = c.args.core.now.state in
    block_closed s c.loop-b.b (units_from s 0 s.units ++ tick_events s.timers) c.in_default.field-0 (find is_open (enabled s)) c.in_default.ensures.behind c.loop-b.invariant

pub returns-in-Ok : goal.returns-in-Ok
returns-in-Ok g c =
    let s = c.args.core.now.state in
    block_opens s c.loop-b.b (units_from s 0 s.units ++ tick_events s.timers) c.in-Ok.event (find is_open (enabled s)) c.in-Ok.ensures.event c.loop-b.invariant

pub returns : goal.returns
returns g c =
    let s = c.args.core.now.state in
    let past : length s.procs ≤ 32 * c.loop-b.b = omega (arith, c.block_count-b-end.ensures.covers, c.loop-b-test.false) in
    c.first_open_later.ensures ∙ blocks_closed s c.loop-b.b (units_from s 0 s.units ++ tick_events s.timers) (find is_open (enabled s)) past c.loop-b.invariant
