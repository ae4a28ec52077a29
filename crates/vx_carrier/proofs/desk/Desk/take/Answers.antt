use Rattle.std.proofs.Common.{sym, ◌∙◌}
use Rattle.vx_carrier.specs.Desk.{Desk}
use Rattle.vx_carrier.proofs.Opened.{moved_opens, none_else, seen_takes, turn_takes, turned_kept}
use Rattle.vx_carrier.proofs.desk.Desk.take.Goals as goal

pub invariant_of-self-2 : goal.invariant_of-self-2
invariant_of-self-2 g c =
    let i = c.self.inside in
    let room = c.make_room.ensures in
    turned_kept g.J.Naming.plan i.exec i.recs.items c.make_room.new.recs.items c.in-Some-first_open.event c.open.result (record { leasing = c.open.new.exec; recs = c.open.new.recs.items })
    i.recs.capacity c.make_room.new.recs.capacity c.open.new.recs.capacity c.make_room.result c.self.invariant (sym c.ended.ensures ∙ none_else c.ended.result c.in_default.not-Some) (sym c.first_open.ensures ∙ c.in-Some-first_open.is)
    room.items room.kept (sym c.is_err.ensures.value ∙ c.if-is_err.false) room.ok c.open.ensures.room c.open.ensures.opens

pub returns : goal.returns
returns g c =
    let i = c.self.inside in
    let d : Desk = record { leasing = i.exec; recs = i.recs.items } in
    let after_it : Desk = record { leasing = c.open.new.exec; recs = c.open.new.recs.items } in
    let e = c.in-Some-first_open.event in
    let opens = moved_opens i.exec i.recs.items c.make_room.new.recs.items e c.open.result after_it c.make_room.ensures.items c.open.ensures.opens in
    seen_takes g.J.Naming.plan d c.args.self.now after_it c.open.result (sym c.self.view_is) (turn_takes g.J.Naming.plan d after_it e c.open.result c.self.invariant.run (sym c.ended.ensures ∙ none_else c.ended.result c.in_default.not-Some) (sym c.first_open.ensures ∙ c.in-Some-first_open.is) opens)
