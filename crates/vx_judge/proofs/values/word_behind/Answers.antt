use Rattle.std.proofs.Common.{◌≡◌, length, map, take, arith}
use Rattle.vx_laws.specs.Items.{Did, later}
use Rattle.vx_judge.proofs.Passes.{later_step, all_taken}
use Rattle.vx_judge.proofs.values.word_behind.Goals as goal

pub loop-effect-preserved : goal.loop-effect-preserved
loop-effect-preserved c = λ past h.
    rw (later_step past c.args.effects.now c.loop-effect.effect-index c.effect-item.result c.loop-effect-test.true c.effect-item.is)
    (c.word_after-word.ensures (later past (map Did (take c.loop-effect.effect-index c.args.effects.now))) (c.loop-effect.invariant past h))

pub returns : goal.returns
returns c = λ past h.
    let n : c.loop-effect.effect-index ≡ length c.args.effects.now = omega arith in
    rw (all_taken c.args.effects.now c.loop-effect.effect-index n) at (c.loop-effect.invariant past h)
