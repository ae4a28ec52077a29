use Rattle.vx_explore.proofs.Indexed.{Seeks, height}
use Rattle.vx_explore.proofs.level.Level.place_of.Given as goal

abbrev pub invariant-loop-next : goal.invariant-loop-next
invariant-loop-next g l = Seeks g.M.Machine.digest_of l.reached (g.M.Machine.state_of l.machine) l.next

abbrev pub decreases-loop-next : goal.decreases-loop-next
decreases-loop-next g l = height l.next
