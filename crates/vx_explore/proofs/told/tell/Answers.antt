use Rattle.std.proofs.Common.{◌≤◌, arith}
use Rattle.vx_explore.proofs.Telling.{Tells-pushed, Tells-counted}
use Rattle.vx_explore.proofs.told.tell.Goals as goal

pub returns-in-Some : goal.returns-in-Some
returns-in-Some g c = λ xs t.
    let there = c.in-Some.ensures in
    let row = c.index_mut-row.result.now in
    Tells-counted g.E.Ending.is_same g.met.E.Ending.same_as_itself g.met.E.Ending.same_is_equal
    (record { what = c.args.what; ways = c.args.ways; picks = c.args.picks.now }) c.in-Some.i row _
    (rw c.as_slice.ensures.value at there.0) c.index_mut-row.ensures.value (rw c.as_slice.ensures.value at (there.1 row))
    c.saturating_add-row.ensures t

pub returns-in_ok-push-in-None : goal.returns-in_ok-push-in-None
returns-in_ok-push-in-None g c = λ xs t.
    let fits : c.args.ways ≤ 18446744073709551615 = omega (arith, c.ranges.ways.fits) in
    rw (c.in_ok-push-in-None.ensures.items, c.in_ok-picks-in-None.ensures)
    (Tells-pushed g.E.Ending.is_same g.met.E.Ending.same_as_itself g.met.E.Ending.same_is_equal
    (record { what = c.args.what; ways = c.args.ways; picks = c.args.picks.now }) fits
    (rw c.as_slice.ensures.value at c.in-None.ensures) t)
