use Rattle.std.proofs.Common.{◌≡◌, drop}
use Rattle.vx_image.specs.Digest.{mix_all}
use Rattle.vx_image.proofs.snapshot.mix_all.Given as goal

abbrev pub invariant-loop-n : goal.invariant-loop-n
invariant-loop-n l = mix_all l.mixed (drop l.n-index l.numbers) ≡ mix_all l.digest l.numbers
