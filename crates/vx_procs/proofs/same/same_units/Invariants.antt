use Rattle.std.proofs.Common.{◌≡◌, ◌↔◌, drop, map}
use Rattle.vx_procs.specs.View.{unit_of}
use Rattle.vx_procs.proofs.same.same_units.Given as goal

abbrev pub invariant-loop-i : goal.invariant-loop-i
invariant-loop-i l = (map unit_of l.a ≡ map unit_of l.b) ↔ (map unit_of (drop l.i l.a) ≡ map unit_of (drop l.i l.b))
