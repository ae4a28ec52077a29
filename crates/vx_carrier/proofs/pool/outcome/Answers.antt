use Rattle.vx_carrier.proofs.pool.outcome.Goals as goal

pub into_exec-requires : goal.into_exec-requires
into_exec-requires g c = c.home.ensures.0 c.if-not-home.false
