use Rattle.vx_image.proofs.Steps.{goes_on, stands_at, storable_at}
use Rattle.vx_image.proofs.run.run_local.Goals as goal

pub local-requires-clause-storable : goal.local-requires-clause-storable
local-requires-clause-storable c = storable_at c.args.image.now.stmts c.loop.place _ c.requires.storable (stands_at c.args.image.now.stmts c.loop.place _ c.in-Some.stmt c.get.ensures c.in-Some.is)

pub loop-preserved : goal.loop-preserved
loop-preserved c = goes_on _ _ _ _ _ _ _ _ _ c.loop-test.true (stands_at c.args.image.now.stmts c.loop.place _ c.in-Some.stmt c.get.ensures c.in-Some.is) c.in-Some-local.ensures c.loop.invariant
