use Rattle.vx_laws.proofs.Whole.{every_run_lawful}
use Rattle.vx_laws.proofs.law.every_run_keeps_the_laws.Goals as goal

pub returns : goal.returns
returns c = λ system recs run. every_run_lawful system recs run
