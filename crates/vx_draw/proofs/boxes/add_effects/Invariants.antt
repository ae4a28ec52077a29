use Rattle.std.proofs.Common.{◌≡◌, drop}
use Rattle.vx_draw.specs.Boxes.{with_effects}
use Rattle.vx_draw.proofs.boxes.add_effects.Given as goal

abbrev pub invariant-loop-effect : goal.invariant-loop-effect
invariant-loop-effect l = with_effects l.boxes (drop l.effect-index l.effects) ≡ with_effects l.fn.boxes l.effects
