use Rattle.std.proofs.Common.{◌≡◌, take}
use Rattle.vx_base.proofs.sequence.SequenceSame.same.Given as goal

abbrev pub invariant-loop-i : goal.invariant-loop-i
invariant-loop-i g l = take l.i l.self ≡ take l.i l.other
