use Rattle.vx_judge.proofs.status.is_enable_told.Goals as goal
use Rattle.vx_laws.proofs.Quotas.{effects_left_is}

pub returns-in-Run-Service : goal.returns-in-Run-Service
returns-in-Run-Service c = λ past more are.
    rw (c.in-Run-Service.is-0, c.in-Run-Service.is-1, effects_left_is c.args.rec.now.effects more, ← c.as_slice.ensures) (c.tells_setast.ensures past are)
