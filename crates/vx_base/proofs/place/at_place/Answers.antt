use Rattle.std.proofs.Common.{◌∙◌, sym}
use Rattle.vx_base.proofs.First.{found_at, none_at}
use Rattle.vx_base.proofs.place.at_place.Goals as goal

pub returns-in-Some : goal.returns-in-Some
returns-in-Some g c = λ p place. found_at p _ _ _ (sym c.in-Some.is ∙ place) c.index-items-place.is

pub returns-in-None : goal.returns-in-None
returns-in-None g c = λ p place. (none_at p _ (sym c.in-None.is ∙ place)).0
