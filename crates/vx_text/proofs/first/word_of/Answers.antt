use Rattle.std.proofs.Common.{arith, map}
use Rattle.std.proofs.lemmas.List.{length-map}
use Rattle.vx_text.specs.Bytes.{to_upper}
use Rattle.vx_text.proofs.Turns.{word_of-cond}
use Rattle.vx_text.proofs.first.word_of.Goals as goal

pub returns-then-starts_with : goal.returns-then-starts_with
returns-then-starts_with c =
    let same = c.capitals-capitals.ensures in
    word_of-cond (map to_upper c.args.run.now) _ (omega (arith, length-map c.args.run.now to_upper, c.if-run-gt31.false)) (rw same at c.if-starts_with.ensures.value) (rw same at c.cond_of.ensures)
