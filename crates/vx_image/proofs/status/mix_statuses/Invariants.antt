use Rattle.std.proofs.Common.{◌≡◌, drop}
use Rattle.vx_image.specs.Digest.{mix_statuses}
use Rattle.vx_image.proofs.status.mix_statuses.Given as goal

abbrev pub invariant-loop-block : goal.invariant-loop-block
invariant-loop-block l = mix_statuses l.mixed (drop l.block-index l.blocks) ≡ mix_statuses l.digest l.blocks
