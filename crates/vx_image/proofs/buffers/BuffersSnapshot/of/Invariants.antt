use Rattle.std.proofs.Common.{◌≡◌, take}
use Rattle.vx_image.proofs.buffers.BuffersSnapshot.of.Given as goal

abbrev pub invariant-loop-page : goal.invariant-loop-page
invariant-loop-page l = l.pages.items ≡ take l.page-index l.written
