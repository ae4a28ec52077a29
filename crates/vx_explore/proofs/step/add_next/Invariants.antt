use Rattle.std.proofs.Common.{length, ◌≤◌}
use Rattle.vx_explore.proofs.Adding.{Adding}
use Rattle.vx_explore.proofs.step.add_next.Given as goal

abbrev pub invariant-loop-pick : goal.invariant-loop-pick
invariant-loop-pick g l = let m = g.M.Machine in
    Adding m.enabled m.after m.origin 18446744073709551615 l.fn.next l.there l.next l.pick
    × (length l.fn.next ≤ l.most → length l.next ≤ l.most)
