use Rattle.std.proofs.Common.{◌≡◌, ◌+◌, ◌≤◌, drop}
use Rattle.vx_gen.specs.Counted.{count, finishes}
use Rattle.vx_gen.proofs.tally.finished_in.Given as goal

abbrev pub invariant-loop-effect : goal.invariant-loop-effect
invariant-loop-effect l = (l.n + count finishes (drop l.effect-index l.fn.effects) ≡ count finishes l.fn.effects) × (l.n ≤ l.effect-index)
