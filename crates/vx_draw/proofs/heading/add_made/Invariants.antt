use Rattle.std.proofs.Common.{◌≡◌, ◌++◌, take}
use Rattle.vx_draw.specs.Headings.{new_names}
use Rattle.vx_draw.proofs.heading.add_made.Given as goal

abbrev pub invariant-loop-rec : goal.invariant-loop-rec
invariant-loop-rec l = l.names ≡ l.fn.names ++ new_names (take l.rec-index l.recs)
