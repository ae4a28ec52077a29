use Rattle.std.proofs.Common.{arith, Some, true}
use Rattle.vx_record.specs.Mailboxes.{or_no_box}
use Rattle.vx_mailbox.proofs.Table.{changed_there, table_kept}
use Rattle.vx_mailbox.proofs.boxes.Boxes.mark.Goals as goal

pub invariant_of-self : goal.invariant_of-self
invariant_of-self c = table_kept c.self.inside.places.items c.self.inside.short c.self.inside.used c.args.self.now c.args.b c.index_mut.result.now _ _ c.self.view_is c.requires c.self.invariant c.index_mut.ensures.value c.mark.ensures (omega arith)

pub returns : goal.returns
returns c = changed_there (λ o. Some (record (or_no_box o) { marked = true })) c.self.inside.places.items c.args.self.now c.args.b c.index_mut.result.now _ c.self.view_is c.requires c.index_mut.ensures.value c.mark.ensures
