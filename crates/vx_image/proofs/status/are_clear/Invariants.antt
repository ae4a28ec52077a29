use Rattle.std.proofs.Common.{◌≡◌, replicate, take}
use Rattle.vx_base.specs.Pieces.{cleared}
use Rattle.vx_image.proofs.status.are_clear.Given as goal

abbrev pub invariant-loop-block : goal.invariant-loop-block
invariant-loop-block l = take l.block-index l.blocks ≡ replicate l.block-index cleared
