use Rattle.vx_procs.proofs.Inside.{all_units}
use Rattle.vx_procs.proofs.procs.Core.digest.Goals as goal

pub mix_units-units-requires : goal.mix_units-units-requires
mix_units-units-requires g c = rw c.as_slice-2.ensures.value (all_units c.self.inside c.args.self.now c.self.view_is c.requires)
