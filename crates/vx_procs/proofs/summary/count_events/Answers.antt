use Rattle.std.proofs.Common.{◌≡◌, ◌+◌, map, ap, sym, subst, arith, ◌∙◌}
use Rattle.vx_base.specs.Flags.{one}
use Rattle.vx_procs.specs.Own.{AreOwn}
use Rattle.vx_procs.specs.Processes.{process}
use Rattle.vx_procs.proofs.Booked.{one_few}
use Rattle.vx_procs.proofs.Remembered.{own_next}
use Rattle.vx_procs.proofs.summary.count_events.Goals as goal
use Rattle.vx_procs.proofs.summary.count_events.Goals.{then-branch, else-branch}

pub loop-place-preserved : goal.loop-place-preserved
loop-place-preserved g c =
    let b = c.in_ok-event_at.field-0 in
    let i = c.loop-place.place in
    let count = c.loop-place.count in
    let counted : c.if-branch.count ≡ count + one b = elim c.if-branch.branch [
      | then-branch w ↦ omega (arith, w.count-is, ap one w.if-branch.true)
      | else-branch w ↦ omega (arith, w.count-is, ap one w.if-branch.false)
    ] in
    record {
      few = omega (arith, c.loop-place.invariant.few, one_few b, counted);
      rest = λ n own.
          let more : count + (one b + n) ≡ c.if-branch.count + n = omega (arith, counted) in
          subst (λ m. AreOwn m (map process c.args.procs.now)) more (c.loop-place.invariant.rest (one b + n) (own_next n i b c.args.procs.now c.index-procs-place.result c.loop-place-test.true c.index-procs-place.is (sym c.event_at.ensures ∙ c.in_ok-event_at.was) own));
    }
