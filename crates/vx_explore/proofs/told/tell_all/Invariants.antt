use Rattle.std.proofs.Common.{List, ◌++◌, take}
use Rattle.vx_explore.specs.declared.found.Found.{Found}
use Rattle.vx_explore.specs.Alike.{Tells, ends}
use Rattle.vx_explore.proofs.told.tell_all.Given as goal

abbrev pub invariant-loop-there : goal.invariant-loop-there
invariant-loop-there g l = let m = g.M.Machine in (xs : List (Found _)) → Tells g.M.Ending.Ending.is_same 18446744073709551615 l.fn.rows.items xs
    → Tells g.M.Ending.Ending.is_same 18446744073709551615 l.rows.items (xs ++ ends m.enabled m.ending_of l.last (take l.there-index l.reached))
