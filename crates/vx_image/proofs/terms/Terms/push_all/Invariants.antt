use Rattle.std.proofs.Common.{◌≡◌, ◌++◌, map, take}
use Rattle.vx_image.specs.Terms.{OfArg}
use Rattle.vx_image.proofs.terms.Terms.push_all.Given as goal

abbrev pub invariant-loop-arg : goal.invariant-loop-arg
invariant-loop-arg l = l.self ≡ l.fn.self ++ map OfArg (take l.arg-index l.args)
