use Rattle.std.proofs.Common.{◌≡◌, ◌++◌, map, take}
use Rattle.vx_lines.specs.Records.{ended_lines, effect_line}
use Rattle.vx_lines.proofs.effect.print_effects.Given as goal

abbrev pub invariant-loop-effect : goal.invariant-loop-effect
invariant-loop-effect l = l.out ≡ l.fn.out ++ ended_lines (map effect_line (take l.effect-index l.effects))
