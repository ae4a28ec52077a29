use Rattle.std.proofs.Common.{◌-◌, slice_index_or, ap, refl, ◌∙◌}
use Rattle.std.specs.Vec.{with_item}
use Rattle.vx_procs.proofs.Remembered.{right_set}
use Rattle.vx_procs.proofs.table.Procs.at_mut.Goals as goal

pub invariant_of-self-lent : goal.invariant_of-self-lent
invariant_of-self-lent g c = λ w. rw (c.forget.ensures, c.forget-2.ensures) (right_set c.self.inside.seen.items c.self.inside.summaries.items c.self.inside.items.items (c.args.p.0 - 1) w c.self.invariant)

pub returns : goal.returns
returns g c = ((refl, λ w. ap (λ v. with_item v (c.args.p.0 - 1) w) c.self.view_is), record { writes_back = tt; value = c.index_mut.ensures.value ∙ ap (λ v. slice_index_or v.items (c.args.p.0 - 1) c.index_mut.result.now) c.self.view_is })
