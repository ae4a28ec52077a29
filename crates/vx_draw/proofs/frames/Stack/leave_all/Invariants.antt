use Rattle.std.proofs.Common.{◌≡◌, ◌++◌, length}
use Rattle.vx_draw.specs.Frames.{bars}
use Rattle.vx_draw.proofs.frames.Stack.leave_all.Given as goal

abbrev pub invariant-loop-bar : goal.invariant-loop-bar
invariant-loop-bar l = l.out ++ bars l.x l.at l.self ≡ l.fn.out ++ bars l.x l.at l.fn.self

abbrev pub decreases-loop-bar : goal.decreases-loop-bar
decreases-loop-bar l = length l.self
