use Rattle.std.proofs.Common.{◌≡◌, ◌∙◌, List, None, Some, position, ap, sym, subst}
use Rattle.std.specs.List.{find}
use Rattle.vx_base.specs.Roomy.{Roomy}
use Rattle.vx_record.specs.Types.{Msg}
use Rattle.vx_record.specs.Mailboxes.{this_message}
use Rattle.vx_record.proofs.Lists.{all_find}
use Rattle.vx_mailbox.specs.Boxes.{IsShort}
use Rattle.vx_mailbox.specs.Places.{AreStored}
use Rattle.vx_mailbox.proofs.Stored.{stored_still, stored_taken}
use Rattle.vx_mailbox.proofs.messages.Messages.take.Goals as goal

pub invariant_of-self : goal.invariant_of-self
invariant_of-self c =
    let test = this_message c.args.id in
    let items = c.self.inside.items.items in
    let place : c.place_of-place.result ≡ position test items = c.place_of-place.ensures.place ∙ ap (position test) c.as_slice.ensures in
    let none : find test items ≡ None = sym (c.take.ensures.found test place) ∙ c.in_err-msg.was in
    subst (λ (xs : List Msg). AreStored xs c.self.inside.bytes) (sym (ap (λ (q : Roomy Msg). q.items) (c.take.ensures.after test place))) (stored_still test items c.self.inside.bytes none c.self.invariant)

pub invariant_of-self-2 : goal.invariant_of-self-2
invariant_of-self-2 c =
    let test = this_message c.args.id in
    let items = c.self.inside.items.items in
    let place : c.place_of-place.result ≡ position test items = c.place_of-place.ensures.place ∙ ap (position test) c.as_slice.ensures in
    let found : find test items ≡ Some c.in_ok-msg.msg = sym (c.take.ensures.found test place) ∙ c.in_ok-msg.was in
    subst (λ (xs : List Msg). AreStored xs c.without_bytes-self-inside.result) (sym (ap (λ (q : Roomy Msg). q.items) (c.take.ensures.after test place)))
    (stored_taken test items c.in_ok-msg.msg c.self.inside.bytes c.without_bytes-self-inside.result found c.self.invariant (λ n is. c.without_bytes-self-inside.ensures n (rw c.body_len.ensures is)))

pub returns-clause-size : goal.returns-clause-size
returns-clause-size c =
    let test = this_message c.args.id in
    let items = c.self.inside.items.items in
    let place : c.place_of-place.result ≡ position test items = c.place_of-place.ensures.place ∙ ap (position test) c.as_slice.ensures in
    let found : find test items ≡ Some c.in_ok-msg.msg = sym (c.take.ensures.found test place) ∙ c.in_ok-msg.was in
    all_find IsShort test items c.in_ok-msg.msg c.self.invariant.short found
