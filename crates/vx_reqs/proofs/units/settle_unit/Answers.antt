use Rattle.vx_base.specs.Queues.{waits_for}
use Rattle.vx_reqs.specs.Places.{holds}
use Rattle.vx_reqs.proofs.units.settle_unit.Goals as goal

pub returns : goal.returns
returns g c = c.settle.ensures c.args.places.now.items (c.id_at.ensures (holds (waits_for c.args.u)) c.place_waiting-place.ensures.place) c.requires
