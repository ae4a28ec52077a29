use Rattle.std.proofs.Common.{◌≡◌, ◌++◌, take}
use Rattle.vx_draw.specs.Headings.{effects_names}
use Rattle.vx_draw.proofs.heading.add_effects.Given as goal

abbrev pub invariant-loop-effect : goal.invariant-loop-effect
invariant-loop-effect l = l.names ≡ l.fn.names ++ effects_names (take l.effect-index l.effects)
