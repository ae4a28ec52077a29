use Rattle.std.proofs.Common.{◌∙◌, ap}
use Rattle.vx_reqs.specs.Places.{live}
use Rattle.vx_reqs.proofs.Live.{live_put, on_ok}
use Rattle.vx_reqs.proofs.reqs.Reqs.push.Goals as goal

pub returns : goal.returns
returns g c = rw (← c.self.view_is) (on_ok c.push.result _ _ (λ after. ap live after ∙ live_put c.self.inside.places.items c.args.request.req.id c.args.request) c.push.ensures.after)
