use Rattle.std.proofs.Common.{◌≡◌, refl}
use Rattle.vx_procs.specs.Own.{block_of}
use Rattle.vx_procs.specs.Processes.{process}
use Rattle.vx_procs.proofs.Blocks.{block_map}
use Rattle.vx_procs.proofs.Remembered.{seen_cut}
use Rattle.vx_procs.proofs.table.Procs.depth_of.Goals as goal

pub deepest_in-requires : goal.deepest_in-requires
deepest_in-requires g c =
    let t = c.self.inside in
    let b = c.args.b in
    let cut : c.block.result.now ≡ block_of b t.seen.items = rw (← c.deref.ensures.value) c.block.ensures in
    let part : c.block-in-None.result.now ≡ block_of b t.items.items = rw (← c.as_slice.ensures.value) c.block-in-None.ensures in
    seen_cut t.seen.items c.block.result.now t.items.items c.block-in-None.result.now b cut part c.self.invariant.seen

pub returns-in-None : goal.returns-in-None
returns-in-None g c =
    let b = c.args.b in
    let items = c.args.self.now.items in
    let part : c.block-in-None.result.now ≡ block_of b items = rw (← c.self.view_is, ← c.as_slice.ensures.value) c.block-in-None.ensures in
    rw c.deepest_in.ensures (rw (block_map process b items, part) refl)
