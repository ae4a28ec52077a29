use Rattle.std.proofs.Common.{◌≡◌, length, map}
use Rattle.vx_mailbox.specs.Places.{box_at}
use Rattle.vx_same.specs.Trimmed.{trimmed}
use Rattle.vx_mailbox.proofs.snapshot.trimmed.Given as goal

abbrev pub invariant-loop-last : goal.invariant-loop-last
invariant-loop-last l = trimmed (map box_at l.kept) ≡ trimmed (map box_at l.places)

abbrev pub decreases-loop-last : goal.decreases-loop-last
decreases-loop-last l = length l.kept
