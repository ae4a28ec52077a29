use Rattle.std.proofs.Common.{◌≡◌, take}
use Rattle.vx_same.proofs.option.same_options.Given as goal

abbrev pub invariant-loop-i : goal.invariant-loop-i
invariant-loop-i g l = take l.i l.a ≡ take l.i l.b
