use Rattle.std.proofs.Common.{arith, sym}
use Rattle.vx_exec.proofs.Blocks.{few_in}
use Rattle.vx_exec.proofs.Owned.{block_told}
use Rattle.vx_exec.proofs.block.count_in.Goals as goal

pub returns-in-Some-clause-count : goal.returns-in-Some-clause-count
returns-in-Some-clause-count g c = sym (block_told c.args.core.now.state c.args.b c.in-Some.known c.in-Some.ensures)

pub returns-in-Some-clause-few : goal.returns-in-Some-clause-few
returns-in-Some-clause-few g c = omega (arith, block_told c.args.core.now.state c.args.b c.in-Some.known c.in-Some.ensures, few_in c.args.core.now.state c.args.b)
