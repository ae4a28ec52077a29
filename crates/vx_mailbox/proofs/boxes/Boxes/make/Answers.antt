use Rattle.std.proofs.Common.{[], Some, false, arith}
use Rattle.std.proofs.Math.Nat.{max-le}
use Rattle.vx_record.specs.Types.{Mailbox}
use Rattle.vx_mailbox.proofs.Table.{changed_at, table_put, used_made}
use Rattle.vx_mailbox.proofs.boxes.Boxes.make.Goals as goal

pub invariant_of-self : goal.invariant_of-self
invariant_of-self c =
    let places = c.self.inside.places.items in
    let used = c.self.inside.used in
    let is = c.max-self-inside.ensures in
    table_put places c.self.inside.short used c.args.b.0 c.max-self-inside.result c.args.self.now _ c.self.view_is c.self.invariant c.requires.room (omega (arith, c.requires.within, c.self.invariant.count))
    (rw is (max-le c.self.invariant.most (omega (arith, c.requires.within)))) (rw is (used_made places used c.args.b.0 _ c.self.invariant.behind))

pub returns : goal.returns
returns c =
    let made : Mailbox = record { name = c.args.name; permanent = c.args.permanent; marked = false; maxmsg = c.args.maxmsg; bufquo = c.args.bufquo; messages = [] } in
    changed_at (λ _. Some made) c.self.inside.places.items c.args.self.now c.args.b c.index_mut.result.now _ c.self.view_is (omega (arith, c.requires.within, c.self.invariant.count)) c.index_mut.ensures.value c.make.ensures
