use Rattle.std.proofs.Common.{◌≡◌, ◌++◌, flat_map, take}
use Rattle.vx_script.specs.Resolving.{creation_of}
use Rattle.vx_script.proofs.ending.push_creations.Given as goal

abbrev pub invariant-loop-line : goal.invariant-loop-line
invariant-loop-line l = l.creations ≡ l.fn.creations ++ flat_map creation_of (take l.line-index l.lines)
