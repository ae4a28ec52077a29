use Rattle.vx_script.proofs.DistinctUnits.{still_distinct}
use Rattle.vx_script.proofs.units.Units.push.Goals as goal

pub invariant_of-self : goal.invariant_of-self
invariant_of-self c =
    still_distinct c.push.result c.self.inside.register c.push.new.self c.args.unit c.self.invariant (rw (← c.self.view_is) at c.requires) c.push.ensures.ok
    c.push.ensures.err
