use Rattle.std.proofs.Common.{arith}
use Rattle.vx_table.proofs.Cuts.{left_first}
use Rattle.vx_table.proofs.read.piece.Goals as goal

pub returns : goal.returns
returns c = left_first c.args.at c.piece_len.result c.args.tokens.now (omega arith) c.piece_len.ensures
