use Rattle.std.proofs.Common.{◌≡◌, take}
use Rattle.vx_base.proofs.sequence.Sequence.with_room.Given as goal

abbrev pub invariant-loop-item : goal.invariant-loop-item
invariant-loop-item g l = l.copy ≡ take l.item-index l.item-items
