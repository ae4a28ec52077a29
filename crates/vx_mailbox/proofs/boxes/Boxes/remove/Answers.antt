use Rattle.std.proofs.Common.{arith, None}
use Rattle.vx_mailbox.proofs.Table.{changed_there, table_kept}
use Rattle.vx_mailbox.proofs.boxes.Boxes.remove.Goals as goal

pub invariant_of-self : goal.invariant_of-self
invariant_of-self c = table_kept c.self.inside.places.items c.self.inside.short c.self.inside.used c.args.self.now c.args.b c.index_mut.result.now _ _ c.self.view_is c.requires c.self.invariant c.index_mut.ensures.value c.remove.ensures (omega arith)

pub returns : goal.returns
returns c = changed_there (λ _. None) c.self.inside.places.items c.args.self.now c.args.b c.index_mut.result.now _ c.self.view_is c.requires c.index_mut.ensures.value c.remove.ensures
