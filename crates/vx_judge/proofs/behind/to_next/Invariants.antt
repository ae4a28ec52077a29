use Rattle.std.proofs.Common.{◌≡◌, ◌++◌, take, drop}
use Rattle.vx_laws.specs.StatusLaw.{to_next_fin}
use Rattle.vx_judge.proofs.behind.to_next.Given as goal

abbrev pub invariant-loop-i : goal.invariant-loop-i
invariant-loop-i l = to_next_fin l.effects ≡ take l.i l.effects ++ to_next_fin (drop l.i l.effects)
