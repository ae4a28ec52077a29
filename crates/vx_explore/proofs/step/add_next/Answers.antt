use Rattle.std.proofs.Common.{arith, ◌+◌}
use Rattle.vx_explore.proofs.Adding.{Adding-more, Spreads-some}
use Rattle.vx_explore.proofs.step.add_next.Goals as goal

pub returns-then-len-most-clause-spreads : goal.returns-then-len-most-clause-spreads
returns-then-len-most-clause-spreads g c = let m = g.M.Machine in
    let added = c.in_ok-add.ensures in
    Spreads-some m.enabled m.after m.origin _ c.args.next.now c.args.there.now c.add.new.self (c.loop-pick.pick + 1)
    (Adding-more m.enabled m.after m.origin _ c.args.next.now c.args.there.now c.loop-pick.next c.add.new.self c.loop-pick.pick
    (m.state_of c.take.new.machine) c.loop-pick.invariant.0 (rw c.count-pick-end.ensures at c.loop-pick-test.true)
    c.in_ok-take.ensures.after c.in_ok-take.ensures.origin added.like added.states)

pub loop-pick-preserved : goal.loop-pick-preserved
loop-pick-preserved g c = let m = g.M.Machine in let added = c.in_ok-add.ensures in (
  Adding-more m.enabled m.after m.origin _ c.args.next.now c.args.there.now c.loop-pick.next c.add.new.self c.loop-pick.pick
      (m.state_of c.take.new.machine) c.loop-pick.invariant.0 (rw c.count-pick-end.ensures at c.loop-pick-test.true)
      c.in_ok-take.ensures.after c.in_ok-take.ensures.origin added.like added.states,
  λ _. omega (arith, c.if-len-most.false, c.len.ensures.len),
)
