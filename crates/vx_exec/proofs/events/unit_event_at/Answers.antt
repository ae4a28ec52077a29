use Rattle.std.proofs.Common.{◌<◌, ◌≤◌, ◌+◌, length, arith, ◌∙◌}
use Rattle.vx_record.specs.Events.{tick_events}
use Rattle.vx_exec.proofs.Enabled.{few_units, later_units, no_unit_event, none_step, past_units, some_here, some_step, some_unit}
use Rattle.vx_exec.proofs.events.unit_event_at.Goals as goal
use Rattle.vx_exec.proofs.events.unit_event_at.Goals.{in-Some+else-left-eq0, in_default}

pub loop-place-preserved : goal.loop-place-preserved
loop-place-preserved g c =
    let s = c.args.core.now.state in
    let i = c.loop-place.place in
    let ys = tick_events s.timers in
    let within : i < length s.units = omega (arith, c.unit_count-place-end.ensures, c.loop-place-test.true, few_units s c.requires) in
    elim c.match-unit_event.branch [
      | in-Some+else-left-eq0 w ↦ some_step (later_units s i ys) (later_units s (i + 1) ys) c.loop-place.left c.match-unit_event.left w.in-Some.event _ (some_unit s ys i w.in-Some.event within w.in-Some.ensures) w.if-left-eq0.false w.left-is c.loop-place.invariant
      | in_default w ↦ none_step (later_units s i ys) (later_units s (i + 1) ys) c.loop-place.left c.match-unit_event.left _ (no_unit_event s ys i within w.in_default.ensures) w.left-is c.loop-place.invariant
    ]

pub returns-then-left-eq0 : goal.returns-then-left-eq0
returns-then-left-eq0 g c =
    let s = c.args.core.now.state in
    let i = c.loop-place.place in
    let ys = tick_events s.timers in
    let within : i < length s.units = omega (arith, c.unit_count-place-end.ensures, c.loop-place-test.true, few_units s c.requires) in
    some_here (later_units s i ys) (later_units s (i + 1) ys) c.loop-place.left c.in-Some.event _ (some_unit s ys i c.in-Some.event within c.in-Some.ensures) c.if-left-eq0.true c.loop-place.invariant

pub returns : goal.returns
returns g c =
    let s = c.args.core.now.state in
    let past : length s.units ≤ c.loop-place.place = omega (arith, c.unit_count-place-end.ensures, c.loop-place-test.false, few_units s c.requires) in
    c.tick_at.ensures ∙ past_units s (tick_events s.timers) c.loop-place.place c.loop-place.left _ past c.loop-place.invariant
