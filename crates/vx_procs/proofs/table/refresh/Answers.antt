use Rattle.std.proofs.Common.{◌≡◌, Some, map, length, ◌<◌, rules}
use Rattle.vx_procs.specs.Own.{block_of}
use Rattle.vx_procs.specs.Processes.{process}
use Rattle.vx_procs.specs.Summaries.{IsSummary, IsSummaryOf}
use Rattle.vx_procs.proofs.Blocks.{block_few, block_map}
use Rattle.vx_procs.proofs.Remembered.{known_set, seen_cut}
use Rattle.vx_procs.proofs.table.refresh.Goals as goal
use Rattle.vx_procs.proofs.table.refresh.Goals.{then-is_none, else-is_none}

pub summarize-requires-clause-few : goal.summarize-requires-clause-few
summarize-requires-clause-few g c = rw c.block-then-is_none.ensures (block_few c.loop-b.b c.args.procs.now)

pub summarize-requires-clause-seen : goal.summarize-requires-clause-seen
summarize-requires-clause-seen g c =
    let b = c.loop-b.b in
    let cut : c.block.result.now ≡ block_of b c.look.new.seen.items = rw (← c.deref.ensures.value) c.block.ensures in
    seen_cut c.look.new.seen.items c.block.result.now c.args.procs.now c.block-then-is_none.result.now b cut c.block-then-is_none.ensures c.look.ensures

pub loop-b-preserved : goal.loop-b-preserved
loop-b-preserved g c =
    elim c.if-is_none.branch [
      | then-is_none w ↦
          let b = c.loop-b.b in
          let ms = c.loop-b.summaries.items in
          let prs = map process c.args.procs.now in
          let within : b < length ms = search rules in
          let is : IsSummary w.summarize.result (block_of b prs) = rw (block_map process b c.args.procs.now, ← w.block-then-is_none.ensures) w.summarize.ensures in
          record {
            seen = rw w.seen-is w.look.ensures;
            summaries = rw w.summaries-is (known_set (IsSummaryOf prs) ms b (Some w.summarize.result) within is c.loop-b.invariant.summaries);
          }
      | else-is_none w ↦ rw (w.seen-is, w.summaries-is) c.loop-b.invariant
    ]
