use Rattle.std.proofs.Common.{◌≡◌, ◌≤◌, ◌∙◌, sym, suc, [], length, vec_len, eqb-true, arith}
use Rattle.std.proofs.lemmas.List.{nil_from_length}
use Rattle.vx_explore.proofs.Levels.{few_early, few_last, Explores-more, told_early, told_last, too_many}
use Rattle.vx_explore.proofs.exploring.explore.Goals as goal

pub returns-then-most-eq0-clause-cut : goal.returns-then-most-eq0-clause-cut
returns-then-most-eq0-clause-cut g c = too_many g.M.Machine.enabled g.M.Machine.after c.args.limit c.args.most c.args.first c.if-most-eq0.true

pub returns-then-is_empty-clause-told : goal.returns-then-is_empty-clause-told
returns-then-is_empty-clause-told g c = let m = g.M.Machine in let e = g.met.M.Ending.Ending in
    let no_len : vec_len c.loop-step.level ≡ 0 = eqb-true _ 0 (sym c.if-is_empty.ensures) in
    let no_length : length c.loop-step.level.items ≡ 0 = sym c.loop-step.level.ok.0 ∙ no_len in
    let empty : c.loop-step.level.items ≡ [] = nil_from_length c.loop-step.level.items no_length in
    told_early m.enabled m.after m.ending_of g.M.Ending.Ending.is_same e.same_as_itself e.same_is_equal c.args.limit c.args.most c.args.first
    c.loop-step.rows.items c.loop-step._step c.loop-step-test.true (rw empty at c.loop-step.invariant.0)

pub returns-in_default-clause-cut : goal.returns-in_default-clause-cut
returns-in_default-clause-cut g c =
    let many = rw c.in_default.is at c.in_ok-next.ensures.many in
    let here = many c.loop-step._step c.args.first c.loop-step.invariant.0.led in
    let within : suc c.loop-step._step ≤ c.args.limit = omega (arith, c.loop-step-test.true) in
    (suc c.loop-step._step, here.0, within, here.1)

pub loop-step-preserved : goal.loop-step-preserved
loop-step-preserved g c = let m = g.M.Machine in (
  Explores-more m.enabled m.after m.ending_of g.M.Ending.Ending.is_same _ c.args.limit c.args.most c.args.first
      c.loop-step.rows.items c.tell_all.new.rows.items c.loop-step.level.items c.in-Some.next.items c.loop-step._step
      c.loop-step-test.true c.loop-step.invariant.0 (rw c.as_slice.ensures.value at c.in_ok-tell_all.ensures)
      (rw c.in-Some.is at c.in_ok-next.ensures.like) (rw c.in-Some.is at c.in_ok-next.ensures.few) (rw c.in-Some.is at c.in_ok-next.ensures.states),
  (rw c.in-Some.is at c.in_ok-next.ensures.states).alike c.args.first c.loop-step.invariant.1,
)

pub returns-clause-told : goal.returns-clause-told
returns-clause-told g c = let m = g.M.Machine in let e = g.met.M.Ending.Ending in
    let at_end : c.loop-step._step ≡ c.args.limit = omega arith in
    told_last m.enabled m.after m.ending_of g.M.Ending.Ending.is_same e.same_as_itself e.same_is_equal c.args.limit c.args.most c.args.first
    c.loop-step.rows.items c.tell_all-2.new.rows.items c.loop-step.level.items c.loop-step._step at_end
    c.loop-step.invariant.0 (rw c.as_slice-2.ensures.value at c.in_ok-tell_all-2.ensures)

pub returns-then-is_empty-clause-whole : goal.returns-then-is_empty-clause-whole
returns-then-is_empty-clause-whole g c = let m = g.M.Machine in
    let no_len : vec_len c.loop-step.level ≡ 0 = eqb-true _ 0 (sym c.if-is_empty.ensures) in
    let no_length : length c.loop-step.level.items ≡ 0 = sym c.loop-step.level.ok.0 ∙ no_len in
    let empty : c.loop-step.level.items ≡ [] = nil_from_length c.loop-step.level.items no_length in
    few_early m.enabled m.after m.ending_of g.M.Ending.Ending.is_same _ c.args.limit c.args.most c.args.first
    c.loop-step.rows.items c.loop-step._step (rw empty at c.loop-step.invariant.0)

pub returns-clause-whole : goal.returns-clause-whole
returns-clause-whole g c = let m = g.M.Machine in
    let at_end : c.loop-step._step ≡ c.args.limit = omega arith in
    few_last m.enabled m.after m.ending_of g.M.Ending.Ending.is_same _ c.args.limit c.args.most c.args.first
    c.loop-step.rows.items c.loop-step.level.items c.loop-step._step at_end c.loop-step.invariant.0
