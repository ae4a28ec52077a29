use Rattle.std.proofs.Common.{◌∙◌, sym}
use Rattle.vx_base.proofs.First.{amend_none}
use Rattle.vx_reqs.specs.Places.{changed, holds}
use Rattle.vx_reqs.proofs.Firsts.{set_found}
use Rattle.vx_reqs.proofs.found.mark_at.Goals as goal
use Rattle.vx_record.specs.Cancel.{with_abort}

pub returns-in-Some-clause-after : goal.returns-in-Some-clause-after
returns-in-Some-clause-after g c = λ p place. set_found p (changed with_abort) c.args.places.now.items c.in-Some.place _ (sym c.in-Some.is ∙ place) c.mark.ensures.after

pub returns-in-None-clause-after : goal.returns-in-None-clause-after
returns-in-None-clause-after g c = λ p place. amend_none (holds p) (changed with_abort) c.args.places.now.items (sym c.in-None.is ∙ place)
