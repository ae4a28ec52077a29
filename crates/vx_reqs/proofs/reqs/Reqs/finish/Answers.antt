use Rattle.std.proofs.Common.{◌≡◌, ◌∙◌, List, None, Some, position, ap, sym, subst}
use Rattle.std.specs.List.{find}
use Rattle.vx_base.specs.Lists.{amend}
use Rattle.vx_reqs.specs.Places.{Place, AreFrom, IsOrdered, emptied, holds, live}
use Rattle.vx_reqs.proofs.Live.{less_live, same_room}
use Rattle.vx_reqs.proofs.Ordered.{ordered_emptied}
use Rattle.vx_reqs.proofs.Waiting.{reads_emptied}
use Rattle.vx_reqs.proofs.reqs.Reqs.finish.Goals as goal
use Rattle.vx_record.specs.Finish.{this_request}

pub invariant_of-self : goal.invariant_of-self
invariant_of-self g c =
    let test = this_request c.args.id in
    let places = c.self.inside.places.items in
    let place : c.place_of_id-place.result ≡ position (holds test) places = c.place_of_id-place.ensures.place in
    let after : c.take_at.new.places.items ≡ amend (holds test) emptied places = c.take_at.ensures.after test place in
    let none : None ≡ find test (live places) = sym c.in_err-done.was ∙ c.take_at.ensures.found test place in
    let order = c.self.inside.order in
    record {
      order = λ rising. subst (λ (xs : List Place). IsOrdered order.next order.from order.served xs) (sym after) (ordered_emptied (holds test) places order.next order.from order.served (c.self.invariant.order rising));
      waiting = subst (λ (xs : List Place). AreFrom c.self.inside.reads.from xs) (sym after) (reads_emptied (holds test) places c.self.inside.reads.from c.self.invariant.waiting);
    }

pub returns-in_err-done-clause-found : goal.returns-in_err-done-clause-found
returns-in_err-done-clause-found g c =
    let test = this_request c.args.id in
    let places = c.self.inside.places.items in
    let place : c.place_of_id-place.result ≡ position (holds test) places = c.place_of_id-place.ensures.place in
    let none : None ≡ find test (live places) = sym c.in_err-done.was ∙ c.take_at.ensures.found test place in
    rw (← c.self.view_is) (c.from_residual.ensures ∙ none)

pub returns-in_err-done-clause-after : goal.returns-in_err-done-clause-after
returns-in_err-done-clause-after g c =
    let test = this_request c.args.id in
    let places = c.self.inside.places.items in
    let place : c.place_of_id-place.result ≡ position (holds test) places = c.place_of_id-place.ensures.place in
    let after : c.take_at.new.places.items ≡ amend (holds test) emptied places = c.take_at.ensures.after test place in
    rw (← c.self.view_is) (same_room (ap live after ∙ less_live test places) c.take_at.ensures.capacity)

pub settle-requires : goal.settle-requires
settle-requires g c = λ rising.
    let test = this_request c.args.id in
    let places = c.self.inside.places.items in
    let place : c.place_of_id-place.result ≡ position (holds test) places = c.place_of_id-place.ensures.place in
    let after : c.take_at.new.places.items ≡ amend (holds test) emptied places = c.take_at.ensures.after test place in
    let order = c.self.inside.order in
    subst (λ (xs : List Place). IsOrdered order.next order.from order.served xs) (sym after) (ordered_emptied (holds test) places order.next order.from order.served (c.self.invariant.order rising))

pub settle_reads-requires-clause-reads : goal.settle_reads-requires-clause-reads
settle_reads-requires-clause-reads g c =
    let test = this_request c.args.id in
    let places = c.self.inside.places.items in
    let place : c.place_of_id-place.result ≡ position (holds test) places = c.place_of_id-place.ensures.place in
    let after : c.take_at.new.places.items ≡ amend (holds test) emptied places = c.take_at.ensures.after test place in
    subst (λ (xs : List Place). AreFrom c.self.inside.reads.from xs) (sym after) (reads_emptied (holds test) places c.self.inside.reads.from c.self.invariant.waiting)

pub invariant_of-self-2 : goal.invariant_of-self-2
invariant_of-self-2 g c =
    let test = this_request c.args.id in
    let places = c.self.inside.places.items in
    let place : c.place_of_id-place.result ≡ position (holds test) places = c.place_of_id-place.ensures.place in
    let after : c.take_at.new.places.items ≡ amend (holds test) emptied places = c.take_at.ensures.after test place in
    let some : Some c.in_ok-done.done ≡ find test (live places) = sym c.in_ok-done.was ∙ c.take_at.ensures.found test place in
    let order = c.settle.new.order in
    record {
      order = c.settle.ensures;
      waiting = c.settle_reads.ensures;
    }

pub returns-clause-found : goal.returns-clause-found
returns-clause-found g c =
    let test = this_request c.args.id in
    let places = c.self.inside.places.items in
    let place : c.place_of_id-place.result ≡ position (holds test) places = c.place_of_id-place.ensures.place in
    let some : Some c.in_ok-done.done ≡ find test (live places) = sym c.in_ok-done.was ∙ c.take_at.ensures.found test place in
    rw (← c.self.view_is) some

pub returns-clause-after : goal.returns-clause-after
returns-clause-after g c =
    let test = this_request c.args.id in
    let places = c.self.inside.places.items in
    let place : c.place_of_id-place.result ≡ position (holds test) places = c.place_of_id-place.ensures.place in
    let after : c.take_at.new.places.items ≡ amend (holds test) emptied places = c.take_at.ensures.after test place in
    rw (← c.self.view_is) (same_room (ap live after ∙ less_live test places) c.take_at.ensures.capacity)
