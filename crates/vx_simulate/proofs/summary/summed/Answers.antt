use Rattle.vx_simulate.specs.Summed.{summed}
use Rattle.vx_simulate.proofs.summary.summed.Goals as goal

pub returns : goal.returns
returns c = rw c.from.ensures (summed c.in_ok-text.end c.in_ok-text.text c.in_ok-text.ensures)
