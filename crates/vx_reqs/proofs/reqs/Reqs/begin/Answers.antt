use Rattle.std.proofs.Common.{◌≡◌, ◌∙◌, List, None, Some, Bor, option_map, position, refl, ap, sym, subst}
use Rattle.std.specs.List.{find}
use Rattle.vx_base.proofs.Any.{none_found}
use Rattle.vx_base.specs.Lists.{amend}
use Rattle.vx_record.specs.Types.{Request}
use Rattle.vx_base.specs.Queues.{front, is_served_by, waits_for}
use Rattle.vx_base.specs.Roomy.{with_items}
use Rattle.vx_reqs.specs.Places.{Place, AreFrom, IsOrdered, changed, holds, live}
use Rattle.vx_reqs.specs.Requests.{Requests}
use Rattle.vx_reqs.proofs.Live.{amend_live, any_live, same_room}
use Rattle.vx_reqs.proofs.Turns.{begun_none, begun_some}
use Rattle.vx_reqs.proofs.Waiting.{reads_changed}
use Rattle.vx_reqs.proofs.reqs.Reqs.begin.Goals as goal
use Rattle.vx_record.specs.Requests.{taken_up}

pub returns-in_err-front-clause-after : goal.returns-in_err-front-clause-after
returns-in_err-front-clause-after g c =
    let u = c.args.u in
    let items : live c.self.inside.places.items ≡ c.args.self.now.items = ap (λ (q : Requests). q.items) c.self.view_is in
    let none : None ≡ front u c.args.self.now.items = ap (option_map (λ (o : Bor Request). o.now)) (sym c.in_err-front.was) ∙ c.front.ensures ∙ ap (front u) items in
    ap (with_items c.args.self.now) (begun_none u c.args.self.now.items none)

pub settle_unit-requires : goal.settle_unit-requires
settle_unit-requires g c = λ rising.
    let u = c.args.u in
    let places = c.self.inside.places.items in
    let place : c.place_waiting-place.result ≡ position (holds (waits_for u)) places = c.place_waiting-place.ensures.place in
    let after : c.serve_at.new.places.items ≡ amend (holds (waits_for u)) (changed taken_up) places = c.serve_at.ensures.after (waits_for u) place in
    let some : Some c.in_ok-front.field-0.now ≡ front u (live places) = ap (option_map (λ (o : Bor Request). o.now)) (sym c.in_ok-front.was) ∙ c.front.ensures in
    let taken = begun_some u (live places) c.in_ok-front.field-0.now some in
    let first : c.id_at-first.result ≡ option_map (λ (y : Place). y.id) (find (holds (waits_for u)) places) =
    c.id_at-first.ensures (holds (waits_for u)) place in
    let none : None ≡ find (holds (is_served_by u)) places = sym (none_found (holds (is_served_by u)) places (any_live (is_served_by u) places ∙ taken.0)) in
    let order = c.begin.new.self in
    subst (λ (xs : List Place). IsOrdered order.next order.from order.served xs) (sym after) (c.begin.ensures places none first c.self.invariant.order rising)

pub invariant_of-self : goal.invariant_of-self
invariant_of-self g c =
    let u = c.args.u in
    let places = c.self.inside.places.items in
    let place : c.place_waiting-place.result ≡ position (holds (waits_for u)) places = c.place_waiting-place.ensures.place in
    let after : c.serve_at.new.places.items ≡ amend (holds (waits_for u)) (changed taken_up) places = c.serve_at.ensures.after (waits_for u) place in
    let order = c.settle_unit.new.order in
    record {
      order = c.settle_unit.ensures;
      waiting = subst (λ (xs : List Place). AreFrom c.self.inside.reads.from xs) (sym after) (reads_changed taken_up (λ r. refl) (holds (waits_for u)) places c.self.inside.reads.from c.self.invariant.waiting);
    }

pub returns-clause-after : goal.returns-clause-after
returns-clause-after g c =
    let u = c.args.u in
    let places = c.self.inside.places.items in
    let place : c.place_waiting-place.result ≡ position (holds (waits_for u)) places = c.place_waiting-place.ensures.place in
    let after : c.serve_at.new.places.items ≡ amend (holds (waits_for u)) (changed taken_up) places = c.serve_at.ensures.after (waits_for u) place in
    let some : Some c.in_ok-front.field-0.now ≡ front u (live places) = ap (option_map (λ (o : Bor Request). o.now)) (sym c.in_ok-front.was) ∙ c.front.ensures in
    let taken = begun_some u (live places) c.in_ok-front.field-0.now some in
    rw (← c.self.view_is) (same_room (ap live after ∙ amend_live (waits_for u) taken_up places ∙ taken.1) c.serve_at.ensures.capacity)
