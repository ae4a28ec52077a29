use Rattle.vx_laws.proofs.Finished.{done_open, done_finished}
use Rattle.vx_laws.proofs.law.every_done_leaves_nothing.Goals as goal

pub returns-clause-open : goal.returns-clause-open
returns-clause-open c = λ system recs limit run end id. done_open system recs limit id run end

pub returns-clause-requests : goal.returns-clause-requests
returns-clause-requests c = λ system recs limit run end id. done_finished system recs limit id run end
