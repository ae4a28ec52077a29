use Rattle.std.proofs.Common.{length, ◌≤◌}
use Rattle.std.specs.Vec.Iter.{into_iter_items}
use Rattle.vx_explore.proofs.Adding.{Rising}
use Rattle.vx_explore.proofs.step.next_level.Given as goal

abbrev pub invariant-loop-there : goal.invariant-loop-there
invariant-loop-there g l = let m = g.M.Machine in
    Rising m.enabled m.after m.origin 18446744073709551615 l.fn.reached.items l.yielded (into_iter_items l.there-iterator) l.next
    × (length l.next ≤ l.most)
