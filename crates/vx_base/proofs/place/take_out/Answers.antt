use Rattle.std.proofs.Common.{◌∙◌, sym}
use Rattle.vx_base.proofs.First.{found_at, less_at, none_at}
use Rattle.vx_base.proofs.place.take_out.Goals as goal

pub returns-in-Some-clause-found : goal.returns-in-Some-clause-found
returns-in-Some-clause-found g c = λ p place. found_at p _ _ _ (sym c.in-Some.is ∙ place) c.remove.ensures.value

pub returns-in-Some-clause-after : goal.returns-in-Some-clause-after
returns-in-Some-clause-after g c = λ p place. c.remove.ensures.items ∙ less_at p _ _ (sym c.in-Some.is ∙ place)

pub returns-in-None-clause-found : goal.returns-in-None-clause-found
returns-in-None-clause-found g c = λ p place. (none_at p _ (sym c.in-None.is ∙ place)).0

pub returns-in-None-clause-after : goal.returns-in-None-clause-after
returns-in-None-clause-after g c = λ p place. (none_at p _ (sym c.in-None.is ∙ place)).1
