use Rattle.vx_simulate.specs.Summed.{IsGenText, short}
use Rattle.vx_tell.proofs.Told.{told_output}
use Rattle.vx_simulate.proofs.summary.summarize.Goals as goal

pub returns-clause-told : goal.returns-clause-told
returns-clause-told g c = told_output (IsGenText c.args.n) _ _ _ _ _ _ c.summed.ensures short c.tell_output.ensures.told
