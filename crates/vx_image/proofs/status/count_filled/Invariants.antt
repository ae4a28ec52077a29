use Rattle.std.proofs.Common.{◌≡◌, ◌-◌, ◌≤◌, drop, length, replicate}
use Rattle.vx_base.specs.Pieces.{cleared}
use Rattle.vx_image.proofs.status.count_filled.Given as goal

abbrev pub invariant-loop-count : goal.invariant-loop-count
invariant-loop-count l = record {
  within : l.count ≤ length l.blocks;
  clear : drop l.count l.blocks ≡ replicate (length l.blocks - l.count) cleared;
}

abbrev pub decreases-loop-count : goal.decreases-loop-count
decreases-loop-count l = l.count
