use Rattle.std.proofs.Common.{◌≡◌, ◌+◌, ◌≤◌, drop}
use Rattle.vx_gen.specs.Counted.{count, opens_request}
use Rattle.vx_gen.proofs.tally.requests_in.Given as goal

abbrev pub invariant-loop-effect : goal.invariant-loop-effect
invariant-loop-effect l = (l.n + count opens_request (drop l.effect-index l.fn.effects) ≡ count opens_request l.fn.effects) × (l.n ≤ l.effect-index)
