use Rattle.std.proofs.lemmas.Bool.{MatchBool-at_false, MatchBool-at_true}
use Rattle.vx_explore.specs.Index.{whats}
use Rattle.vx_explore.proofs.Adding.{Rising-more, alike_next, led_some}
use Rattle.vx_explore.proofs.Indexed.{length-whats}
use Rattle.vx_explore.proofs.step.next_level.Goals as goal

pub add_next-requires : goal.add_next-requires
add_next-requires g c = let m = g.M.Machine in
    alike_next m.enabled m.after m.origin _ c.args.reached.items c.loop-there.yielded _ _ c.loop-there.next c.in-Some.there
    c.in-Some.ensures.steps.0 c.loop-there.invariant.0 c.requires.0 c.requires.1

pub returns-then-not-branch-clause-many : goal.returns-then-not-branch-clause-many
returns-then-not-branch-clause-many g c = λ k s led.
    let m = g.M.Machine in
    let over = MatchBool-at_false _ _ c.if-not-branch.true c.in_ok-add_next.ensures.most in (
      whats c.add_next.new.next,
      record {
        more = rw (length-whats c.add_next.new.next) over.0;
        different = over.1;
        led = led_some m.enabled m.after m.origin _ c.args.reached.items c.loop-there.yielded _ _ c.loop-there.next c.in-Some.there
            c.in-Some.ensures.steps.0 c.loop-there.invariant.0 c.add_next.new.next _ c.in_ok-add_next.ensures.spreads k s led;
      },
    )

pub loop-there-preserved : goal.loop-there-preserved
loop-there-preserved g c = let m = g.M.Machine in let added = c.in_ok-add_next.ensures in (
  Rising-more m.enabled m.after m.origin _ c.args.reached.items c.loop-there.yielded _ _ c.loop-there.next c.in-Some.there
      c.in-Some.ensures.steps.0 c.loop-there.invariant.0 c.add_next.new.next _ c.if-not-branch.false
      (added.like c.if-not-branch.false) added.spreads,
  MatchBool-at_true _ _ c.if-not-branch.false added.most c.loop-there.invariant.1,
)
