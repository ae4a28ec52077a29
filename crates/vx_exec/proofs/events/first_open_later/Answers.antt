use Rattle.std.proofs.Common.{◌<◌, ◌≤◌, length, arith, sym, ◌∙◌}
use Rattle.vx_record.specs.Events.{tick_events}
use Rattle.vx_exec.proofs.Enabled.{closed_unit, few_units, no_open_unit, open_unit, past_open_units}
use Rattle.vx_exec.proofs.events.first_open_later.Goals as goal
use Rattle.vx_exec.proofs.events.first_open_later.Goals.{in-Some+else-is_open, in_default}

pub returns : goal.returns
returns g c =
    let s = c.args.core.now.state in
    let past : length s.units ≤ c.loop-place.place = omega (arith, c.unit_count-place-end.ensures, c.loop-place-test.false, few_units s c.requires) in
    c.tick_at.ensures ∙ past_open_units s c.loop-place.place _ past c.loop-place.invariant

pub returns-then-is_open : goal.returns-then-is_open
returns-then-is_open g c =
    let s = c.args.core.now.state in
    let i = c.loop-place.place in
    let within : i < length s.units = omega (arith, c.unit_count-place-end.ensures, c.loop-place-test.true, few_units s c.requires) in
    open_unit s (tick_events s.timers) i c.in-Some.event _ within c.in-Some.ensures (sym c.is_open.ensures ∙ c.if-is_open.true) c.loop-place.invariant

pub loop-place-preserved : goal.loop-place-preserved
loop-place-preserved g c =
    let s = c.args.core.now.state in
    let i = c.loop-place.place in
    let within : i < length s.units = omega (arith, c.unit_count-place-end.ensures, c.loop-place-test.true, few_units s c.requires) in
    elim c.match-unit_event.branch [
      | in-Some+else-is_open w ↦ closed_unit s (tick_events s.timers) i w.in-Some.event _ within w.in-Some.ensures (sym w.is_open.ensures ∙ w.if-is_open.false) c.loop-place.invariant
      | in_default w ↦ no_open_unit s (tick_events s.timers) i _ within w.in_default.ensures c.loop-place.invariant
    ]
