use Rattle.std.proofs.Common.{◌≡◌, length}
use Rattle.vx_same.specs.Trimmed.{trimmed}
use Rattle.vx_chans.proofs.snapshot.trimmed.Given as goal

abbrev pub invariant-loop-front : goal.invariant-loop-front
invariant-loop-front l = trimmed l.kept ≡ trimmed l.rows

abbrev pub decreases-loop-front : goal.decreases-loop-front
decreases-loop-front l = length l.kept
