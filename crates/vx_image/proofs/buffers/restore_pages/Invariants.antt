use Rattle.std.proofs.Common.{◌≡◌, length, take}
use Rattle.vx_image.proofs.buffers.restore_pages.Given as goal

abbrev pub invariant-loop-i : goal.invariant-loop-i
invariant-loop-i l = record {
  long : length l.pages.items ≡ length l.kept;
  same : take l.i l.pages.items ≡ take l.i l.kept;
  room : l.pages.capacity ≡ l.fn.pages.capacity;
}
