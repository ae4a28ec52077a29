use Rattle.std.proofs.Common.{◌^◌, ◌<◌, length, min, rules, ap, ◌∙◌}
use Rattle.vx_procs.proofs.Blocks.{block_cut}
use Rattle.vx_procs.proofs.block.block.Goals as goal

pub returns : goal.returns
returns g c =
    let n = length c.args.items.now in
    let fits : n < 2 ^ 64 = search rules in
    block_cut c.args.b c.min-from.result c.min.result c.args.items.now (c.min-from.ensures ∙ ap (λ m. min m n) c.saturating_mul.ensures) fits c.min.ensures
