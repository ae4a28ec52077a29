use Rattle.std.proofs.Common.{◌≡◌, take}
use Rattle.vx_same.proofs.reserved.put_all.Given as goal

abbrev pub invariant-loop-item : goal.invariant-loop-item
invariant-loop-item g l = record {
  copied : l.list.items ≡ take l.item-index l.items;
  room : l.list.capacity ≡ l.initial.list.capacity;
}
