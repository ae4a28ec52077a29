use Rattle.std.proofs.Common.{arith, drop, refl}
use Rattle.vx_table.proofs.Cuts.{left_at, cut_first}
use Rattle.vx_table.proofs.read.finish.Goals as goal

pub returns-else-at-tokens : goal.returns-else-at-tokens
returns-else-at-tokens c = rw (left_at c.args.at c.args.tokens.now (omega arith), cut_first (drop c.args.at c.args.tokens.now)) refl
