use Rattle.std.proofs.Common.{take, length}
use Rattle.vx_check.proofs.Judging.{Taking}
use Rattle.vx_check.specs.Judging.{most_for}
use Rattle.vx_check.proofs.checking.first_wrong.Given as goal

abbrev pub invariant-loop-rec : goal.invariant-loop-rec
invariant-loop-rec l = Taking l.fn.exec l.exec (take l.rec-index l.recs) (most_for (length l.recs))
