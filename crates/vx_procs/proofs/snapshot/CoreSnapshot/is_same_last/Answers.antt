use Rattle.vx_procs.proofs.Inside.{all_units}
use Rattle.vx_procs.proofs.snapshot.CoreSnapshot.is_same_last.Goals as goal

pub same_units-requires-clause-there : goal.same_units-requires-clause-there
same_units-requires-clause-there g c = rw c.as_slice-then-same-4.ensures.value (all_units c.core.inside c.args.core.now c.core.view_is c.requires)
