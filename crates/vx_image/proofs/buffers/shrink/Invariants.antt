use Rattle.std.proofs.Common.{◌≡◌, length}
use Rattle.vx_image.proofs.buffers.shrink.Given as goal

abbrev pub invariant-loop-pages : goal.invariant-loop-pages
invariant-loop-pages l = l.pages.capacity ≡ l.fn.pages.capacity

abbrev pub decreases-loop-pages : goal.decreases-loop-pages
decreases-loop-pages l = length l.pages.items
