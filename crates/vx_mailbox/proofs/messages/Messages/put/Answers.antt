use Rattle.std.proofs.Common.{List, ap, sym, subst}
use Rattle.vx_base.specs.Roomy.{Roomy}
use Rattle.vx_record.specs.Types.{Msg}
use Rattle.vx_mailbox.specs.Places.{AreStored}
use Rattle.vx_mailbox.proofs.Stored.{stored_put}
use Rattle.vx_mailbox.proofs.messages.Messages.put.Goals as goal

pub invariant_of-self : goal.invariant_of-self
invariant_of-self c =
    subst (λ (xs : List Msg). AreStored xs c.with_bytes-self-inside.result) (sym (ap (λ (q : Roomy Msg). q.items) c.put.ensures))
    (stored_put c.self.inside.items.items c.args.msg c.self.inside.bytes c.with_bytes-self-inside.result c.self.invariant c.requires.size (λ n is. rw (← c.body_len-len.ensures) (c.with_bytes-self-inside.ensures n is)))
