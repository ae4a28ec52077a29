use Rattle.std.proofs.Common.{◌≡◌, ◌≤◌, ◌-◌, length}
use Rattle.vx_image.specs.Filled.{filled}
use Rattle.vx_image.proofs.buffers.fill.Given as goal

abbrev pub invariant-loop-pages : goal.invariant-loop-pages
invariant-loop-pages l = record {
  same : filled l.pages.items ≡ filled l.fn.pages.items;
  few : length l.pages.items ≤ 32;
  exact : length l.fn.pages.items ≤ l.n → length l.pages.items ≤ l.n;
  room : l.pages.capacity ≡ l.fn.pages.capacity;
}

abbrev pub decreases-loop-pages : goal.decreases-loop-pages
decreases-loop-pages l = l.n - length l.pages.items
