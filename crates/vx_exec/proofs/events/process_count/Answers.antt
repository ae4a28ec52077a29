use Rattle.std.proofs.Common.{◌+◌, ◌*◌, ◌≤◌, length, arith}
use Rattle.vx_record.specs.Events.{processes_from}
use Rattle.vx_exec.specs.Blocks.{events_from, events_in}
use Rattle.vx_exec.proofs.Blocks.{blocks_counted, blocks_now, few_of_all}
use Rattle.vx_exec.proofs.Enabled.{count_step}
use Rattle.vx_exec.proofs.events.process_count.Goals as goal

pub loop-b-preserved : goal.loop-b-preserved
loop-b-preserved g c =
    let s = c.args.core.now.state in
    record {
      few = omega (arith, c.count_in-count.ensures.few, c.loop-b.invariant.few);
      counted = count_step (events_from s c.loop-b.b) (events_in s c.loop-b.b) (events_from s (c.loop-b.b + 1)) c.loop-b.count c.count_in-count.result (length (processes_from s 1 s.procs)) (blocks_now s c.loop-b.b) c.count_in-count.ensures.count c.loop-b.invariant.counted;
    }

pub returns-clause-count : goal.returns-clause-count
returns-clause-count g c =
    let s = c.args.core.now.state in
    let past : length s.procs ≤ 32 * c.loop-b.b = omega (arith, c.block_count-b-end.ensures.covers, c.loop-b-test.false) in
    blocks_counted s c.loop-b.b c.loop-b.count (length (processes_from s 1 s.procs)) past c.loop-b.invariant.counted

pub returns-clause-few : goal.returns-clause-few
returns-clause-few g c =
    let s = c.args.core.now.state in
    let past : length s.procs ≤ 32 * c.loop-b.b = omega (arith, c.block_count-b-end.ensures.covers, c.loop-b-test.false) in
    let all = blocks_counted s c.loop-b.b c.loop-b.count (length (processes_from s 1 s.procs)) past c.loop-b.invariant.counted in
    omega (arith, all, few_of_all s c.requires)
