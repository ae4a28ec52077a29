use Rattle.vx_laws.proofs.Holds.{every_status}
use Rattle.vx_laws.proofs.agreement.every_value_agrees.Goals as goal

pub returns-clause-statuses : goal.returns-clause-statuses
returns-clause-statuses c = λ system recs run p i made above within. every_status system recs p i run made above within
