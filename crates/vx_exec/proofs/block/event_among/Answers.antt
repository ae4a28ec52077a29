use Rattle.std.proofs.Common.{◌≡◌, ◌+◌, ◌*◌, ◌<◌, ◌≤◌, List, length, ap, arith}
use Rattle.vx_record.specs.Types.{Event}
use Rattle.vx_record.specs.Events.{process_events}
use Rattle.vx_record.specs.State.{pid}
use Rattle.vx_procs.specs.Own.{block_of}
use Rattle.vx_exec.proofs.Blocks.{in_block, seek_end, seek_here, seek_past}
use Rattle.vx_exec.proofs.block.event_among.Goals as goal
use Rattle.vx_exec.proofs.block.event_among.Goals.{then-left-gt0, else-left-gt0+in_default}

pub loop-place-preserved : goal.loop-place-preserved
loop-place-preserved g c =
    let s = c.args.core.now.state in
    let within : c.loop-place.place < length (block_of c.args.b s.procs) = omega (arith, c.block_size-place-end.ensures.size, c.loop-place-test.true) in
    elim c.if-left-gt0.branch [
      | then-left-gt0 w ↦
          let n = w.events_of-left.result in
          let passed : c.loop-place.left ≡ n + c.if-left-gt0.left = omega (arith, w.events_of-left.ensures.few, w.if-left-gt0.true, w.left-is) in
          seek_past s c.args.b c.loop-place.place c.args.i c.loop-place.left n c.if-left-gt0.left within w.events_of-left.ensures.count passed c.loop-place.invariant
      | else-left-gt0+in_default w ↦
          let none : 0 ≡ length (process_events s (pid (32 * c.args.b + 1 + c.loop-place.place))) = ap (λ (es : List Event). length es) w.in_default.ensures in
          let passed : c.loop-place.left ≡ 0 + c.if-left-gt0.left = omega (arith, w.left-is) in
          seek_past s c.args.b c.loop-place.place c.args.i c.loop-place.left 0 c.if-left-gt0.left within none passed c.loop-place.invariant
    ]

pub returns-in-Some-clause-event : goal.returns-in-Some-clause-event
returns-in-Some-clause-event g c =
    let s = c.args.core.now.state in
    let within : c.loop-place.place < length (block_of c.args.b s.procs) = omega (arith, c.block_size-place-end.ensures.size, c.loop-place-test.true) in
    let last : c.loop-place.left ≡ 0 = omega (arith, c.if-left-gt0.false) in
    seek_here s c.args.b c.loop-place.place c.args.i c.loop-place.left c.in-Some.event within c.in-Some.ensures last c.loop-place.invariant

pub returns-clause-behind : goal.returns-clause-behind
returns-clause-behind g c =
    let s = c.args.core.now.state in
    let past : length (block_of c.args.b s.procs) ≤ c.loop-place.place = omega (arith, c.block_size-place-end.ensures.size, c.loop-place-test.false) in
    seek_end s c.args.b c.loop-place.place c.args.i c.loop-place.left past c.loop-place.invariant

pub events_of-left-requires-clause-made : goal.events_of-left-requires-clause-made
events_of-left-requires-clause-made g c =
    let s = c.args.core.now.state in
    let within : c.loop-place.place < length (block_of c.args.b s.procs) = omega (arith, c.block_size-place-end.ensures.size, c.loop-place-test.true) in
    in_block s c.args.b c.loop-place.place within

pub event_of-requires-clause-made : goal.event_of-requires-clause-made
event_of-requires-clause-made g c =
    let s = c.args.core.now.state in
    let within : c.loop-place.place < length (block_of c.args.b s.procs) = omega (arith, c.block_size-place-end.ensures.size, c.loop-place-test.true) in
    in_block s c.args.b c.loop-place.place within
