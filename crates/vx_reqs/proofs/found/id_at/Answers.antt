use Rattle.std.proofs.Common.{◌∙◌, ap, Option, Some, option_map, sym}
use Rattle.vx_base.proofs.First.{none_at}
use Rattle.vx_reqs.specs.Places.{Place}
use Rattle.vx_reqs.proofs.Firsts.{place_found, some_place}
use Rattle.vx_reqs.proofs.found.id_at.Goals as goal

pub returns-in-Some : goal.returns-in-Some
returns-in-Some g c = λ p place.
    ap Some (c.id.ensures some_place) ∙ ap (λ (o : Option Place). option_map (λ y. y.id) o) (place_found p c.args.places.now.items c.in-Some.place (rw c.in-Some.is at c.requires) (sym c.in-Some.is ∙ place))

pub returns-in-None : goal.returns-in-None
returns-in-None g c = λ p place. ap (λ (o : Option Place). option_map (λ y. y.id) o) (none_at p c.args.places.now.items (sym c.in-None.is ∙ place)).0
