use Rattle.std.proofs.Common.{◌≡◌, map, take}
use Rattle.vx_mailbox.specs.Places.{box_at}
use Rattle.vx_mailbox.proofs.snapshot.put_away.Given as goal

abbrev pub invariant-loop-place : goal.invariant-loop-place
invariant-loop-place l = l.boxes.items ≡ map box_at (take l.place-index l.kept)
