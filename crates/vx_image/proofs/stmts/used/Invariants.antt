use Rattle.std.proofs.Common.{◌≡◌, ◌≤◌, drop, length}
use Rattle.std.specs.List.{AllByRecursion}
use Rattle.vx_base.specs.declared.call.Arg.TheVariants as arg
use Rattle.vx_image.proofs.stmts.used.Given as goal

abbrev pub invariant-loop-used : goal.invariant-loop-used
invariant-loop-used l = record {
  few : l.used ≤ length l.args;
  unused : AllByRecursion (λ a. a ≡ arg.Unused) (drop l.used l.args);
}

abbrev pub decreases-loop-used : goal.decreases-loop-used
decreases-loop-used l = l.used
