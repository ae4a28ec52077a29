use Rattle.std.proofs.Common.{◌+◌, ◌*◌, ◌<◌, ◌≤◌, length, arith}
use Rattle.vx_record.specs.Events.{process_events}
use Rattle.vx_record.specs.State.{pid}
use Rattle.vx_procs.specs.Own.{block_of}
use Rattle.vx_exec.specs.Blocks.{events_in}
use Rattle.vx_exec.proofs.Blocks.{count_end, in_block, rest_in, rest_now}
use Rattle.vx_exec.proofs.Enabled.{count_step}
use Rattle.vx_exec.proofs.block.counted_in.Goals as goal

pub loop-place-preserved : goal.loop-place-preserved
loop-place-preserved g c =
    let s = c.args.core.now.state in
    let within : c.loop-place.place < length (block_of c.args.b s.procs) = omega (arith, c.block_size-place-end.ensures.size, c.loop-place-test.true) in
    record {
      few = omega (arith, c.events_of-count.ensures.few, c.loop-place.invariant.few);
      counted = count_step (rest_in s c.args.b c.loop-place.place) (process_events s (pid (32 * c.args.b + 1 + c.loop-place.place))) (rest_in s c.args.b (c.loop-place.place + 1)) c.loop-place.count c.events_of-count.result (length (events_in s c.args.b)) (rest_now s c.args.b c.loop-place.place within) c.events_of-count.ensures.count c.loop-place.invariant.counted;
    }

pub returns : goal.returns
returns g c =
    let s = c.args.core.now.state in
    let past : length (block_of c.args.b s.procs) ≤ c.loop-place.place = omega (arith, c.block_size-place-end.ensures.size, c.loop-place-test.false) in
    count_end s c.args.b c.loop-place.place c.loop-place.count past c.loop-place.invariant.counted

pub events_of-count-requires-clause-made : goal.events_of-count-requires-clause-made
events_of-count-requires-clause-made g c =
    let s = c.args.core.now.state in
    let within : c.loop-place.place < length (block_of c.args.b s.procs) = omega (arith, c.block_size-place-end.ensures.size, c.loop-place-test.true) in
    in_block s c.args.b c.loop-place.place within
