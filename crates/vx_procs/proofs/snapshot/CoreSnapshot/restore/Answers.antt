use Rattle.std.proofs.Common.{ap, refl, sym, ◌∙◌}
use Rattle.std.proofs.lemmas.Result.{IfOk-at_ok}
use Rattle.vx_record.specs.State.{State}
use Rattle.vx_procs.specs.Snapshots.{state_in}
use Rattle.vx_procs.proofs.Again.{held_again, same_state, when_ok}
use Rattle.vx_procs.proofs.Inside.{in_again}
use Rattle.vx_procs.proofs.snapshot.CoreSnapshot.restore.Goals as goal

pub invariant_of-core : goal.invariant_of-core
invariant_of-core g c =
    let lists = c.restore_lists-lists.ensures in
    let done = c.in-Ok.ensures.first in
    let view = sym c.self.view_is in
    held_again (state_in c.self.inside) _ c.self.inside.short _ _ c.self.inside.units.items c.in-Ok.units.items
    (same_state _ _ (IfOk-at_ok _ c.in-Ok.ensures.last c.outside-outside.ensures.system) refl refl
    (when_ok _ _ c.in-Ok.ensures.second (rw c.as_slice-2.ensures.value at c.restore-procs.ensures.procs))
    (when_ok _ _ done lists.clusters ∙ ap (λ (s : State). s.common) view)
    (when_ok _ _ done lists.requests ∙ ap (λ (s : State). s.requests) view)
    (when_ok _ _ done lists.timers ∙ ap (λ (s : State). s.timers) view)
    (when_ok _ _ done lists.attention ∙ ap (λ (s : State). s.attention) view)
    (when_ok _ _ done lists.boxes ∙ ap (λ (s : State). s.boxes) view)
    (IfOk-at_ok _ c.in-Ok.ensures.last (rw c.as_slice.ensures.value at c.outside-outside.ensures.units)))
    (when_ok _ _ c.in-Ok.ensures.second (rw c.as_slice-2.ensures.value at c.restore-procs.ensures.books))
    (IfOk-at_ok _ c.in-Ok.ensures.last (rw c.as_slice.ensures.value at c.outside-outside.ensures.asked))
    c.self.invariant.held

pub returns-in-Ok-clause-home : goal.returns-in-Ok-clause-home
returns-in-Ok-clause-home g c = in_again c.self.inside.units.items c.in-Ok.units.items c.self.invariant.units (IfOk-at_ok _ c.in-Ok.ensures.last (rw c.as_slice.ensures.value at c.outside-outside.ensures.stands))
