use Rattle.vx_explore.specs.Index.{StartAs, whats}
use Rattle.vx_explore.proofs.Levels.{Explores}
use Rattle.vx_explore.proofs.exploring.explore.Given as goal

abbrev pub invariant-loop-step : goal.invariant-loop-step
invariant-loop-step g l = let m = g.M.Machine in
    Explores m.enabled m.after m.ending_of g.M.Ending.Ending.is_same 18446744073709551615 l.limit l.most l.fn.first l.rows.items l.level.items l._step
    × StartAs m.origin l.fn.first (whats l.level.items)
