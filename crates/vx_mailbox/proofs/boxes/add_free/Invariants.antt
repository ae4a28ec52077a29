use Rattle.std.proofs.Common.{◌≡◌, ◌++◌, None, map, replicate}
use Rattle.std.specs.List.{AllByRecursion}
use Rattle.vx_mailbox.specs.Places.{HasRoomFor, box_at}
use Rattle.vx_mailbox.proofs.boxes.add_free.Given as goal

abbrev pub invariant-loop : goal.invariant-loop
invariant-loop l = record {
  boxes : map box_at l.places.items ≡ map box_at l.fn.places.items ++ replicate l.counter None;
  rooms : AllByRecursion HasRoomFor l.places.items;
}
