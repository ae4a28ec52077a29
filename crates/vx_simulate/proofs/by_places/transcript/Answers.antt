use Rattle.std.proofs.Common.{refl}
use Rattle.vx_simulate.proofs.Picking.{is_picked_text}
use Rattle.vx_simulate.proofs.by_places.transcript.Goals as goal

pub returns-in-Ok-clause-done : goal.returns-in-Ok-clause-done
returns-in-Ok-clause-done c =
    is_picked_text c.args.system c.args.picks.now c.in_ok-exec.exec c.in_ok-exec.recs c.in_ok-exec.end c.print_run-printed.new.text (rw c.as_slice-places.ensures at c.in_ok-exec.ensures.done)
    (rw (c.in-Ok.ensures, c.as_slice.ensures, c.in_ok-text.ensures) refl)
