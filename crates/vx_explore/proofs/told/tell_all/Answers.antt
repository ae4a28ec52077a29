use Rattle.std.proofs.lemmas.List.{take_all}
use Rattle.vx_explore.proofs.Finding.{ends_more}
use Rattle.vx_explore.proofs.told.tell_all.Goals as goal

pub loop-there-preserved : goal.loop-there-preserved
loop-there-preserved g c = λ xs t.
    let m = g.M.Machine in
    let more = ends_more m.enabled m.ending_of xs c.args.last c.args.reached.now c.loop-there.there-index c.there-item.result c.loop-there-test.true c.there-item.is in
    rw more at (c.in_ok-tell_one.ensures _ (c.loop-there.invariant xs t))

pub returns : goal.returns
returns g c = λ xs t. rw (take_all _ c.args.reached.now c.loop-there-test.false) at (c.loop-there.invariant xs t)
