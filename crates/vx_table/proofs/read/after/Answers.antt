use Rattle.std.proofs.Common.{arith}
use Rattle.vx_table.proofs.Cuts.{left_more, lead_within}
use Rattle.vx_table.proofs.read.after.Goals as goal

pub overflow_add-result : goal.overflow_add-result
overflow_add-result c = omega (arith, lead_within c.args.at c.piece_len.result c.args.tokens.now c.piece_len.ensures (omega arith))

pub overflow_add-result-2 : goal.overflow_add-result-2
overflow_add-result-2 c = omega (arith, lead_within c.args.at c.piece_len.result c.args.tokens.now c.piece_len.ensures (omega arith))

pub returns-clause-left : goal.returns-clause-left
returns-clause-left c = left_more c.args.at c.piece_len.result c.args.tokens.now (omega arith) c.piece_len.ensures

pub returns-clause-within : goal.returns-clause-within
returns-clause-within c = omega (arith, lead_within c.args.at c.piece_len.result c.args.tokens.now c.piece_len.ensures (omega arith))
