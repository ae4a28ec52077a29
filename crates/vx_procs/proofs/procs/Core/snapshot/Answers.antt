use Rattle.std.proofs.Common.{ap, refl, ◌∙◌}
use Rattle.vx_clusters.specs.Clusters.{Shared}
use Rattle.vx_mailbox.specs.Boxes.{Attentions}
use Rattle.vx_procs.specs.Kernel.{Kernel}
use Rattle.vx_procs.specs.View.{state}
use Rattle.vx_procs.proofs.Again.{held_again, same_state}
use Rattle.vx_procs.proofs.Inside.{all_units, units_again}
use Rattle.vx_procs.proofs.procs.Core.snapshot.Goals as goal

pub invariant_of-result : goal.invariant_of-result
invariant_of-result g c = record {
  held = held_again (state c.self.inside) _ c.self.inside.short _ _ c.self.inside.units.items c.in_ok-units.units.items
      (same_state _ _ c.in_ok-system.ensures refl refl
      (rw c.as_slice-2.ensures at c.in_ok-procs.ensures.procs)
      (ap (λ (x : Shared). x.common) c.in_ok-clusters.ensures)
      c.in_ok-queues.ensures.requests
      c.in_ok-queues.ensures.timers
      (ap (λ (x : Attentions). x.items) c.in_ok-attention.ensures)
      c.in_ok-boxes.ensures
      (rw c.as_slice.ensures.value at c.in_ok-units.ensures.units))
      (rw c.as_slice-2.ensures at c.in_ok-procs.ensures.books)
      (rw c.as_slice.ensures.value at c.in_ok-units.ensures.asked)
      c.self.invariant;
  units = units_again c.self.inside.units.items c.in_ok-units.units.items (all_units c.self.inside c.args.self.now c.self.view_is c.requires) (rw c.as_slice.ensures.value at c.in_ok-units.ensures.stands);
}

pub returns : goal.returns
returns g c =
    same_state (state c.self.inside) _ c.in_ok-system.ensures refl refl
    (rw c.as_slice-2.ensures at c.in_ok-procs.ensures.procs)
    (ap (λ (x : Shared). x.common) c.in_ok-clusters.ensures)
    c.in_ok-queues.ensures.requests
    c.in_ok-queues.ensures.timers
    (ap (λ (x : Attentions). x.items) c.in_ok-attention.ensures)
    c.in_ok-boxes.ensures
    (rw c.as_slice.ensures.value at c.in_ok-units.ensures.units)
    ∙ ap (λ (k : Kernel). k.state) c.self.view_is

pub duplicate_units-requires : goal.duplicate_units-requires
duplicate_units-requires g c = rw c.as_slice.ensures.value (all_units c.self.inside c.args.self.now c.self.view_is c.requires)
