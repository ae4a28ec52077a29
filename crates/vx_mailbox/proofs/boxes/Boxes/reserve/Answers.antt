use Rattle.std.proofs.Common.{◌∙◌, ap, refl}
use Rattle.std.proofs.Math.Seq.{map-set_same}
use Rattle.std.proofs.lemmas.Result.{on_ok_weaker}
use Rattle.vx_mailbox.specs.Boxes.{Boxes}
use Rattle.vx_mailbox.specs.Places.{box_at}
use Rattle.vx_mailbox.proofs.Table.{table_changed, table_full, used_same}
use Rattle.vx_mailbox.proofs.boxes.Boxes.reserve.Goals as goal

pub invariant_of-self : goal.invariant_of-self
invariant_of-self c =
    let places = c.self.inside.places.items in
    let short = c.self.inside.short in
    table_changed places short c.self.inside.used short c.reserve.new.self c.self.invariant (λ apart. absurd (apart refl))
    (used_same places c.self.inside.used short c.index_mut.result.now c.reserve.new.self c.reserve.ensures.same c.index_mut.ensures.value c.self.invariant.behind)

pub returns-clause-same : goal.returns-clause-same
returns-clause-same c = map-set_same box_at c.self.inside.places.items c.self.inside.short c.reserve.new.self c.index_mut.result.now (c.reserve.ensures.same ∙ ap box_at c.index_mut.ensures.value) ∙ ap (λ (k : Boxes). k.boxes) c.self.view_is

pub returns-clause-ok : goal.returns-clause-ok
returns-clause-ok c = on_ok_weaker c.reserve.result (table_full c.self.inside.places.items c.self.inside.short c.self.inside.used c.reserve.new.self c.self.invariant) c.reserve.ensures.ok
