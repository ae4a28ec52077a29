use Rattle.std.proofs.Common.{◌∙◌, ◌∷◌, [], arith}
use Rattle.std.proofs.lemmas.List.{length-append}
use Rattle.vx_image.proofs.Filled.{next_filled}
use Rattle.vx_image.proofs.buffers.fill.Goals as goal

pub loop-pages-preserved : goal.loop-pages-preserved
loop-pages-preserved c =
    let lt = c.loop-pages-test.true in
    let len = c.len.ensures in
    let few = c.requires.few in
    record {
      same = next_filled c.loop-pages.pages c.put.new.self c.new.result c.new.ensures (omega (arith, lt, len, few)) c.put.ensures ∙ c.loop-pages.invariant.same;
      few = let longer = length-append c.loop-pages.pages.items (c.new.result ∷ []) in rw c.put.ensures (omega (arith, lt, len, few, longer));
      exact = λ _. let longer = length-append c.loop-pages.pages.items (c.new.result ∷ []) in rw c.put.ensures (omega (arith, lt, len, longer));
      room = rw c.put.ensures c.loop-pages.invariant.room;
    }
