use Rattle.vx_exec.specs.View.{plan}
use Rattle.vx_carrier.proofs.pool.run_pool.Given as goal

-- the system and the limit of the executive that was handed in
abbrev pub ghosts-pool : goal.ghosts-pool
ghosts-pool g a = record { plan = plan a.exec }
