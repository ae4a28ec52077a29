use Rattle.std.proofs.Common.{◌≡◌, ◌∙◌, Bool, List, Some, Bor, option_map, position, refl, ap, sym, subst}
use Rattle.std.specs.List.{find}
use Rattle.vx_base.specs.Lists.{amend}
use Rattle.vx_record.specs.Types.{Request}
use Rattle.vx_base.specs.Roomy.{with_items}
use Rattle.vx_base.proofs.First.{amend_same}
use Rattle.vx_reqs.specs.Places.{Place, AreFrom, IsOrdered, changed, holds, live}
use Rattle.vx_reqs.specs.Requests.{Requests}
use Rattle.vx_reqs.proofs.Live.{amend_live, same_room}
use Rattle.vx_reqs.proofs.Ordered.{ordered_marked}
use Rattle.vx_reqs.proofs.Waiting.{reads_changed}
use Rattle.vx_reqs.proofs.reqs.Reqs.mark.Goals as goal
use Rattle.vx_record.specs.Finish.{this_request}
use Rattle.vx_record.specs.Cancel.{with_abort}

-- the request that is found is marked already
pub returns-clause-after : goal.returns-clause-after
returns-clause-after g c =
    let requests : Requests = c.args.self.now in
    let test = this_request c.args.id in
    let r : Request = c.in-Some.found.now in
    let found : find test requests.items ≡ Some r = sym c.with_id.ensures ∙ ap (option_map (λ (o : Bor Request). o.now)) c.in-Some.is in
    ap (with_items requests) (amend_same test with_abort requests.items r found (ap (λ (m : Bool). record r { marked = m }) (sym c.if-is_marked.true ∙ c.is_marked.ensures)))

pub invariant_of-self : goal.invariant_of-self
invariant_of-self g c =
    let test = this_request c.args.id in
    let places = c.self.inside.places.items in
    let place : c.place_of_id-place.result ≡ position (holds test) places = c.place_of_id-place.ensures.place in
    let after : c.mark_at.new.places.items ≡ amend (holds test) (changed with_abort) places = c.mark_at.ensures.after test place in
    let order = c.self.inside.order in
    record {
      order = λ rising. subst (λ (xs : List Place). IsOrdered order.next order.from order.served xs) (sym after) (ordered_marked (holds test) places order.next order.from order.served (c.self.invariant.order rising));
      waiting = subst (λ (xs : List Place). AreFrom c.self.inside.reads.from xs) (sym after) (reads_changed with_abort (λ r. refl) (holds test) places c.self.inside.reads.from c.self.invariant.waiting);
    }

pub returns-2-clause-after : goal.returns-2-clause-after
returns-2-clause-after g c =
    let test = this_request c.args.id in
    let places = c.self.inside.places.items in
    let place : c.place_of_id-place.result ≡ position (holds test) places = c.place_of_id-place.ensures.place in
    let after : c.mark_at.new.places.items ≡ amend (holds test) (changed with_abort) places = c.mark_at.ensures.after test place in
    rw (← c.self.view_is) (same_room (ap live after ∙ amend_live test with_abort places) c.mark_at.ensures.capacity)
