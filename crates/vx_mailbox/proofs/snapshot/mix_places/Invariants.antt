use Rattle.std.proofs.Common.{◌≡◌, drop, map}
use Rattle.vx_mailbox.specs.Digest.{mix_boxes}
use Rattle.vx_mailbox.specs.Places.{box_at}
use Rattle.vx_mailbox.proofs.snapshot.mix_places.Given as goal

abbrev pub invariant-loop-place : goal.invariant-loop-place
invariant-loop-place l = mix_boxes l.mixed (map box_at (drop l.place-index l.places)) ≡ mix_boxes l.digest (map box_at l.places)
