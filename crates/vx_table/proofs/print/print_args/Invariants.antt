use Rattle.std.proofs.Common.{◌≡◌, ◌++◌, drop}
use Rattle.vx_table.specs.Spelling.{args_text}
use Rattle.vx_table.specs.Back.{AreHeld}
use Rattle.vx_table.proofs.print.print_args.Given as goal

abbrev pub invariant-loop-arg : goal.invariant-loop-arg
invariant-loop-arg l = record {
  text : l.out ++ args_text l.before (drop l.arg-index l.args) ≡ l.initial.out ++ args_text 32 l.args;
  held : AreHeld (drop l.arg-index l.args) → AreHeld l.args;
}
