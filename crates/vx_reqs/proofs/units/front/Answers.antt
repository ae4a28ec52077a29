use Rattle.std.proofs.Common.{◌∙◌, ap, sym, option_map, Bor}
use Rattle.vx_record.specs.Types.{Request}
use Rattle.vx_reqs.specs.Places.{live}
use Rattle.vx_reqs.proofs.Turns.{front_busy, front_free}
use Rattle.vx_reqs.proofs.units.front.Goals as goal

pub returns-in-Some : goal.returns-in-Some
returns-in-Some g c = front_busy c.args.u (live c.args.places.now.items) _ (ap (option_map (λ (o : Bor Request). o.now)) (sym c.in-Some.is) ∙ c.serving.ensures)

pub returns-in-None : goal.returns-in-None
returns-in-None g c = c.waiting.ensures ∙ front_free c.args.u (live c.args.places.now.items) (ap (option_map (λ (o : Bor Request). o.now)) (sym c.in-None.is) ∙ c.serving.ensures)
