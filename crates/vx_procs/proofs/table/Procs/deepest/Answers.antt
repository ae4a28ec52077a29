use Rattle.std.proofs.Common.{◌+◌, ◌*◌, drop, map, ap, ◌∙◌}
use Rattle.vx_procs.specs.Processes.{process}
use Rattle.vx_procs.specs.Words.{deeper, deepest}
use Rattle.vx_procs.proofs.Deepest.{deepest_next}
use Rattle.vx_procs.proofs.table.Procs.deepest.Goals as goal

pub loop-b-preserved : goal.loop-b-preserved
loop-b-preserved g c =
    let prs = map process c.args.self.now.items in
    let b = c.loop-b.b in
    ap (λ m. deeper m (deepest (drop (32 * (b + 1)) prs))) (c.deeper-most.ensures ∙ ap (deeper c.loop-b.most) c.depth_of.ensures)
    ∙ (deepest_next b c.loop-b.most prs ∙ c.loop-b.invariant)
