use Rattle.std.proofs.Common.{◌∙◌, ap, sym}
use Rattle.vx_base.specs.Clusters.{with_mark}
use Rattle.vx_base.specs.Roomy.{with_items}
use Rattle.vx_base.proofs.First.{amend_at, amend_none}
use Rattle.vx_clusters.proofs.table.mark_at.Goals as goal

pub returns-in-Some-clause-after : goal.returns-in-Some-clause-after
returns-in-Some-clause-after c = λ p place. ap (with_items c.args.clusters.now) (amend_at p with_mark _ c.in-Some.place c.at_mut.result.now _ (sym c.in-Some.is ∙ place) (c.mark.ensures ∙ ap with_mark c.at_mut.ensures.value))

pub returns-in-None-clause-after : goal.returns-in-None-clause-after
returns-in-None-clause-after c = λ p place. ap (with_items c.args.clusters.now) (amend_none p with_mark c.args.clusters.now.items (sym c.in-None.is ∙ place))
