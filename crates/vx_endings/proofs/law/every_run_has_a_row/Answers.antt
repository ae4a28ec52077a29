use Rattle.vx_endings.proofs.Told.{every_run_told}
use Rattle.vx_endings.proofs.law.every_run_has_a_row.Goals as goal

pub returns : goal.returns
returns c = every_run_told
