use Rattle.std.proofs.Common.{◌++◌, ◌∷◌, [], Some}
use Rattle.vx_record.specs.Mailboxes.{or_no_box}
use Rattle.vx_mailbox.specs.Boxes.{holding}
use Rattle.vx_mailbox.proofs.Table.{changed_there, stands_in, table_put, used_there}
use Rattle.vx_mailbox.proofs.boxes.Boxes.put.Goals as goal

pub invariant_of-self : goal.invariant_of-self
invariant_of-self c =
    let places = c.self.inside.places.items in
    table_put places c.self.inside.short c.self.inside.used c.args.b.0 c.self.inside.used c.args.self.now _ c.self.view_is c.self.invariant c.requires.room (stands_in places c.args.self.now c.args.b c.self.view_is c.requires.stands)
    c.self.invariant.most (used_there places c.args.self.now c.args.b c.self.inside.used _ c.self.view_is c.requires.stands c.self.invariant.behind)

pub returns : goal.returns
returns c = changed_there (λ o. Some (holding (or_no_box o) ((or_no_box o).messages ++ c.args.msg ∷ []))) c.self.inside.places.items c.args.self.now c.args.b c.index_mut.result.now _ c.self.view_is c.requires.stands c.index_mut.ensures.value c.put.ensures
