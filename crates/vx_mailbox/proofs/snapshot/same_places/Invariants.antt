use Rattle.std.proofs.Common.{◌≡◌, ◌↔◌, drop, map}
use Rattle.vx_mailbox.specs.Places.{box_at}
use Rattle.vx_mailbox.proofs.snapshot.same_places.Given as goal

abbrev pub invariant-loop-i : goal.invariant-loop-i
invariant-loop-i l = (l.boxes ≡ map box_at l.places) ↔ (drop l.i l.boxes ≡ map box_at (drop l.i l.places))
