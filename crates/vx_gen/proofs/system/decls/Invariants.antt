use Rattle.std.proofs.Common.{◌≡◌, ◌∷◌, codes}
use Rattle.vx_gen.specs.Generated.{declared, senders}
use Rattle.vx_gen.proofs.system.decls.Given as goal

abbrev pub invariant-loop-i : goal.invariant-loop-i
invariant-loop-i l = l.decls ≡ declared (codes "C") 0 ∷ senders l.i
