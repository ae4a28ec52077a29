use Rattle.std.proofs.Common.{◌≡◌, ◌+◌, ◌-◌, ◌≤◌, length, take, drop, replicate}
use Rattle.vx_base.specs.declared.call.Arg.TheVariants as arg
use Rattle.vx_table.specs.Rows.{params_in}
use Rattle.vx_table.specs.Reading.{read_args, pieces, toks}
use Rattle.vx_table.specs.Cutting.{left}
use Rattle.vx_text.specs.Lex.{with_front}
use Rattle.vx_table.proofs.read.read_args.Given as goal

abbrev pub invariant-loop-k : goal.invariant-loop-k
invariant-loop-k l = record {
  within : l.at ≤ length l.tokens + 1;
  unused : drop l.k l.args ≡ replicate (9 - l.k) arg.Unused;
  same : with_front (take l.k l.args) (read_args (l.k + 1) (params_in (drop l.k l.params)) (left l.at l.tokens)) ≡ read_args 1 (params_in l.params) (pieces (toks l.tokens));
}
