use Rattle.std.proofs.Common.{◌≡◌, List, ◌++◌, true, false, sym, subst, ◌∙◌, None}
use Rattle.vx_record.specs.Types.{Rec}
use Rattle.vx_carrier.specs.Desk.{Desk}
use Rattle.vx_carrier.specs.Turns.{Gives, SawBeg}
use Rattle.vx_carrier.specs.declared.turn.Turn.TheVariants.{Took, Stale, Ended}
use Rattle.vx_carrier.proofs.Back.{back_enabled, back_gives, back_in, back_kept, back_room, don_kept, don_said, fits_back, stale_gives}
use Rattle.vx_carrier.proofs.desk.Desk.put.Goals as goal

pub returns-then-not-is_out : goal.returns-then-not-is_out
returns-then-not-is_out g c =
    let plan = g.J.Naming.plan in
    let s = c.args.served in
    let d : Desk = record { leasing = c.self.inside.exec; recs = c.self.inside.recs.items } in
    subst (λ (x : Desk). (more : List Rec) × (x.recs ≡ x.recs ++ more) × Gives plan x.recs s Stale more) c.self.view_is
    (stale_gives plan d s c.self.inside.recs.capacity c.self.invariant (λ out. (let yes = c.is_out.ensures.1 out in let never : true ≡ false = sym yes ∙ c.if-not-is_out.true in cc)))

pub give_back-requires : goal.give_back-requires
give_back-requires g c =
    let plan = g.J.Naming.plan in
    let d : Desk = record { leasing = c.self.inside.exec; recs = c.self.inside.recs.items } in
    fits_back plan d c.args.served c.self.invariant.run (subst (λ (x : Desk). SawBeg plan x.recs c.args.served.lease) (sym c.self.view_is) c.requires) (c.is_out.ensures.0 c.if-not-is_out.false)

pub invariant_of-self : goal.invariant_of-self
invariant_of-self g c =
    back_kept g.J.Naming.plan c.self.inside.exec c.give_back.new.self c.self.inside.recs.items c.args.served.lease.unit c.ended.result c.in-Some.end c.self.inside.recs.capacity c.self.invariant c.give_back.ensures c.ended.ensures c.in-Some.is

pub returns-in-Some : goal.returns-in-Some
returns-in-Some g c =
    let plan = g.J.Naming.plan in
    let s = c.args.served in
    subst (λ (x : Desk). (more : List Rec) × (c.self.inside.recs.items ≡ x.recs ++ more) × Gives plan x.recs s (Ended c.in-Some.end) more) c.self.view_is
    (back_gives plan c.self.inside.exec c.give_back.new.self c.self.inside.recs.items s c.ended.result c.in-Some.end c.self.invariant.run (c.is_out.ensures.0 c.if-not-is_out.false) c.give_back.ensures c.ended.ensures c.in-Some.is)

pub grow-requires-clause-enabled : goal.grow-requires-clause-enabled
grow-requires-clause-enabled g c =
    back_enabled g.J.Naming.plan c.self.inside.exec c.give_back.new.self c.self.inside.recs.items c.args.served c.unit-unit.result c.self.inside.recs.capacity c.self.invariant (c.is_out.ensures.0 c.if-not-is_out.false) c.give_back.ensures c.unit-unit.ensures

pub grow-requires-clause-home : goal.grow-requires-clause-home
grow-requires-clause-home g c = back_in c.self.inside.exec c.give_back.new.self c.args.served c.unit-unit.result c.give_back.ensures c.unit-unit.ensures

pub grow-requires-clause-room : goal.grow-requires-clause-room
grow-requires-clause-room g c = back_room g.J.Naming.plan c.self.inside.exec c.self.inside.recs.items c.args.served c.self.inside.recs.capacity c.self.invariant (c.is_out.ensures.0 c.if-not-is_out.false)

pub invariant_of-self-2 : goal.invariant_of-self-2
invariant_of-self-2 g c =
    let plan = g.J.Naming.plan in
    don_kept plan c.self.inside.exec c.give_back.new.self c.grow.new.exec c.self.inside.recs.items c.grow.new.recs.items c.args.served c.unit-unit.result c.ended.result c.self.inside.recs.capacity c.grow.new.recs.capacity c.self.invariant (subst (λ (x : Desk). SawBeg plan x.recs c.args.served.lease) (sym c.self.view_is) c.requires) (c.is_out.ensures.0 c.if-not-is_out.false)
    c.give_back.ensures c.ended.ensures c.in_default.not-Some c.unit-unit.ensures c.in-Ok.ensures.ok c.grow.ensures.room

pub returns : goal.returns
returns g c =
    let plan = g.J.Naming.plan in
    let s = c.args.served in
    subst (λ (x : Desk). (more : List Rec) × (c.grow.new.recs.items ≡ x.recs ++ more) × Gives plan x.recs s (Took None) more) c.self.view_is
    (don_said plan c.self.inside.exec c.give_back.new.self c.grow.new.exec c.self.inside.recs.items c.grow.new.recs.items s c.unit-unit.result c.ended.result c.self.invariant.run (c.is_out.ensures.0 c.if-not-is_out.false) c.give_back.ensures c.ended.ensures c.in_default.not-Some c.unit-unit.ensures c.in-Ok.ensures.ok)
