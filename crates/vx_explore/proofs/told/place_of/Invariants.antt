use Rattle.std.proofs.Common.{◌≡◌, drop}
use Rattle.vx_explore.specs.Alike.{first}
use Rattle.vx_explore.proofs.told.place_of.Given as goal

abbrev pub invariant-loop-i : goal.invariant-loop-i
invariant-loop-i g l = first (λ e. g.E.Ending.is_same e l.what) (drop l.i l.rows) ≡ first (λ e. g.E.Ending.is_same e l.what) l.rows
