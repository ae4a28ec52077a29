use Rattle.std.proofs.Common.{arith}
use Rattle.vx_exec.proofs.Owned.{block_told}
use Rattle.vx_exec.proofs.block.event_in.Goals as goal

pub returns-in-Some-clause-behind : goal.returns-in-Some-clause-behind
returns-in-Some-clause-behind g c = omega (arith, block_told c.args.core.now.state c.args.b c.in-Some.known c.in-Some.ensures, c.if-known-i.true)
