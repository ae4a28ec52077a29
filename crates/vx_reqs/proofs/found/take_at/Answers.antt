use Rattle.std.proofs.Common.{◌∙◌, ap, sym}
use Rattle.vx_base.proofs.First.{amend_none, none_at}
use Rattle.vx_reqs.specs.Places.{emptied, holds}
use Rattle.vx_reqs.proofs.Firsts.{request_found, set_found}
use Rattle.vx_reqs.proofs.Live.{found_live, request_of}
use Rattle.vx_reqs.proofs.found.take_at.Goals as goal

pub returns-in-Some-clause-found : goal.returns-in-Some-clause-found
returns-in-Some-clause-found g c = λ p place. request_found p c.args.places.now.items c.in-Some.place _ (rw c.in-Some.is at c.requires) (sym c.in-Some.is ∙ place) c.take.ensures.found

pub returns-in-Some-clause-after : goal.returns-in-Some-clause-after
returns-in-Some-clause-after g c = λ p place. set_found p emptied c.args.places.now.items c.in-Some.place _ (sym c.in-Some.is ∙ place) c.take.ensures.after

pub returns-in-None-clause-found : goal.returns-in-None-clause-found
returns-in-None-clause-found g c = λ p place. ap request_of (none_at (holds p) c.args.places.now.items (sym c.in-None.is ∙ place)).0 ∙ sym (found_live p c.args.places.now.items)

pub returns-in-None-clause-after : goal.returns-in-None-clause-after
returns-in-None-clause-after g c = λ p place. amend_none (holds p) emptied c.args.places.now.items (sym c.in-None.is ∙ place)
