use Rattle.std.proofs.Common.{◌≡◌, drop}
use Rattle.vx_laws.specs.StatusLaw.{is_iosb}
use Rattle.vx_judge.specs.Lists.{from_first}
use Rattle.vx_judge.proofs.behind.from_iosb.Given as goal

abbrev pub invariant-loop-i : goal.invariant-loop-i
invariant-loop-i l = from_first is_iosb l.effects ≡ from_first is_iosb (drop l.i l.effects)
