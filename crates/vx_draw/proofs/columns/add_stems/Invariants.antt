use Rattle.std.proofs.Common.{◌≡◌, ◌++◌, flat_map, take}
use Rattle.vx_draw.specs.Columns.{stem}
use Rattle.vx_draw.proofs.columns.add_stems.Given as goal

abbrev pub invariant-loop : goal.invariant-loop
invariant-loop g l = l.out ≡ l.fn.out ++ flat_map (λ item. stem) (take l.index l.items)
