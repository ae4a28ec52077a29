use Rattle.vx_procs.proofs.Inside.{all_units, units_in}
use Rattle.vx_procs.proofs.procs.Core.are_in.Goals as goal

pub returns : goal.returns
returns g c = (
  (λ is. units_in c.self.inside c.args.self.now c.self.view_is (rw c.as_slice.ensures.value at c.are_in.ensures.0 is)),
  (λ h. c.are_in.ensures.1 (rw c.as_slice.ensures.value (all_units c.self.inside c.args.self.now c.self.view_is h))),
)
