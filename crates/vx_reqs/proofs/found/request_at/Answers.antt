use Rattle.std.proofs.Common.{◌∙◌, ap, sym}
use Rattle.vx_base.proofs.First.{none_at}
use Rattle.vx_reqs.specs.Places.{holds}
use Rattle.vx_reqs.proofs.Firsts.{request_found}
use Rattle.vx_reqs.proofs.Live.{found_live, request_of}
use Rattle.vx_reqs.proofs.found.request_at.Goals as goal

pub returns-in-Some : goal.returns-in-Some
returns-in-Some g c = λ p place. request_found p c.args.places.now.items c.in-Some.place _ (rw c.in-Some.is at c.requires) (sym c.in-Some.is ∙ place) c.held.ensures

pub returns-in-None : goal.returns-in-None
returns-in-None g c = λ p place. ap request_of (none_at (holds p) c.args.places.now.items (sym c.in-None.is ∙ place)).0 ∙ sym (found_live p c.args.places.now.items)
