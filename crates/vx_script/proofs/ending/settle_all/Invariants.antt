use Rattle.std.proofs.Common.{◌≡◌, map}
use Rattle.vx_script.specs.Resolving.{settled}
use Rattle.vx_script.proofs.ending.settle_all.Given as goal

abbrev pub invariant-loop-line : goal.invariant-loop-line
invariant-loop-line l = l.stmts ≡ map (λ d. settled l.labels d.draft) l.yielded
