use Rattle.std.proofs.Common.{◌≡◌, take}
use Rattle.vx_image.proofs.buffers.BuffersSnapshot.same.Given as goal

abbrev pub invariant-loop-b : goal.invariant-loop-b
invariant-loop-b l = take l.b l.self ≡ take l.b l.buffers
