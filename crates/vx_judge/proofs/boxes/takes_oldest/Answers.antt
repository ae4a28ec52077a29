use Rattle.std.proofs.Common.{◌≡◌, true, ap, sym, ◌∙◌, eq-eqb}
use Rattle.vx_record.specs.Types.{Id}
use Rattle.vx_laws.specs.Items.{is_id}
use Rattle.vx_laws.specs.Lives.{life}
use Rattle.vx_judge.proofs.boxes.takes_oldest.Goals as goal

pub returns-then-id-write : goal.returns-then-id-write
returns-then-id-write c = λ past is are.
    let same : is_id c.in-Some.m.now.id c.args.write ≡ true = eq-eqb c.in-Some.m.now.id.0 c.args.write.0 (ap (λ (i : Id). i.0) (sym c.id.ensures) ∙ c.if-id-write.true) in
    rw (c.in-Some.ensures.cases.0, same) (rw c.body.ensures at (c.is_told.ensures (life past c.args.write) (life past c.args.read) (c.of.ensures past is) (c.of-then-id-write.ensures past is) (c.of-then-id-write-2.ensures past are)))
