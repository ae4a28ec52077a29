use Rattle.std.proofs.Common.{◌+◌, ◌-◌, ◌/◌, arith}
use Rattle.vx_reqs.proofs.Among.{below_middle, above_middle}
use Rattle.vx_reqs.proofs.found.first_from.Goals as goal

pub loop-low-preserved-then-id-number : goal.loop-low-preserved-then-id-number
loop-low-preserved-then-id-number g c =
    let l = c.loop-low in
    record {
      order = omega (arith, c.loop-low-test.true);
      within = l.invariant.within;
      below = below_middle c.args.places.now.items c.args._next c.args.number (l.low + (l.high - l.low) / 2) c.id.result c.requires (omega (arith, c.loop-low-test.true, l.invariant.within)) c.id.ensures c.if-id-number.true;
      above = l.invariant.above;
    }

pub loop-low-preserved : goal.loop-low-preserved
loop-low-preserved g c =
    let l = c.loop-low in
    record {
      order = omega (arith, c.loop-low-test.true);
      within = omega (arith, c.loop-low-test.true, l.invariant.within);
      below = l.invariant.below;
      above = above_middle c.args.places.now.items c.args._next c.args.number (l.low + (l.high - l.low) / 2) c.id.result c.requires (omega (arith, c.loop-low-test.true, l.invariant.within)) c.id.ensures c.if-id-number.false;
    }
