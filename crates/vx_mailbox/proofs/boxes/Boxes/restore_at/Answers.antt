use Rattle.std.proofs.Common.{◌∙◌, ap, arith, slice_set}
use Rattle.std.proofs.lemmas.Result.{on_ok_weaker}
use Rattle.std.proofs.Math.Nat.{max-le}
use Rattle.vx_mailbox.proofs.Table.{boxes_set, table_any, table_full, table_put, used_made}
use Rattle.vx_mailbox.proofs.boxes.Boxes.restore_at.Goals as goal

pub invariant_of-self : goal.invariant_of-self
invariant_of-self c =
    let places = c.self.inside.places.items in
    let used = c.self.inside.used in
    let is = c.max-self-inside.ensures in
    table_put places c.self.inside.short used c.args.place c.max-self-inside.result c.args.self.now _ c.self.view_is c.self.invariant c.requires.room (omega (arith, c.requires.within, c.self.invariant.count))
    (rw is (max-le c.self.invariant.most (omega (arith, c.requires.within)))) (rw is (used_made places used c.args.place _ c.self.invariant.behind))

pub returns-clause-mailbox : goal.returns-clause-mailbox
returns-clause-mailbox c = on_ok_weaker c.restore_place.result (λ is. boxes_set c.self.inside.places.items c.args.place c.args.self.now c.restore_place.new.place c.self.view_is ∙ ap (slice_set c.args.self.now.boxes c.args.place) is) c.restore_place.ensures.mailbox

pub returns-clause-room : goal.returns-clause-room
returns-clause-room c = on_ok_weaker c.restore_place.result (table_full c.self.inside.places.items c.args.place c.self.inside.used c.restore_place.new.place (table_any c.self.inside.places.items c.self.inside.short c.self.inside.used c.args.place c.args.self.now c.self.view_is c.self.invariant c.requires.room c.requires.within)) c.restore_place.ensures.room
