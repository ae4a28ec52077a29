use Rattle.std.proofs.Common.{◌≡◌}
use Rattle.vx_image.proofs.stmts.Stmts.from_vec.Given as goal

abbrev pub invariant-loop-stmt : goal.invariant-loop-stmt
invariant-loop-stmt l = l.all ≡ l.yielded
