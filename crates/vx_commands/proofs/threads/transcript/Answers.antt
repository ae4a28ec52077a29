use Rattle.std.proofs.Common.{refl}
use Rattle.vx_commands.proofs.Carrying.{is_carried_text}
use Rattle.vx_commands.proofs.threads.transcript.Goals as goal

pub returns-in-Ok : goal.returns-in-Ok
returns-in-Ok g c =
    is_carried_text c.args.system c.args.crew.limit c.in_ok-exec.exec c.in_ok-exec-2.exec c.in_ok-exec-2.recs c.in_ok-exec-2.end c.print_run-printed.new.text c.in_ok-exec.ensures c.in_ok-exec-2.ensures
    (rw (c.in-Ok.ensures, c.as_slice.ensures, c.in_ok-text.ensures) refl)
