use Rattle.std.proofs.Common.{Some}
use Rattle.vx_base.specs.Lists.{less}
use Rattle.vx_record.specs.Mailboxes.{or_no_box, this_message}
use Rattle.vx_mailbox.specs.Boxes.{holding}
use Rattle.vx_mailbox.proofs.Table.{changed_there, table_kept}
use Rattle.vx_mailbox.proofs.boxes.Boxes.take.Goals as goal

pub invariant_of-self : goal.invariant_of-self
invariant_of-self c = table_kept c.self.inside.places.items c.self.inside.short c.self.inside.used c.args.self.now c.args.b c.index_mut.result.now _ _ c.self.view_is c.requires c.self.invariant c.index_mut.ensures.value c.take.ensures.after (rw c.take.ensures.after at c.take.ensures.fewer)

pub returns-clause-after : goal.returns-clause-after
returns-clause-after c = changed_there (λ o. Some (holding (or_no_box o) (less (this_message c.args.id) (or_no_box o).messages))) c.self.inside.places.items c.args.self.now c.args.b c.index_mut.result.now _ c.self.view_is c.requires c.index_mut.ensures.value c.take.ensures.after
