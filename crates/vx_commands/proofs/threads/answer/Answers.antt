use Rattle.vx_commands.specs.Carried.{IsRunText, carried}
use Rattle.vx_tell.specs.Scripts.{of_system}
use Rattle.vx_tell.proofs.Told.{refused_output}
use Rattle.vx_commands.proofs.threads.answer.Goals as goal

pub returns-in_ok-text-in-Ok : goal.returns-in_ok-text-in-Ok
returns-in_ok-text-in-Ok g c = rw c.from.ensures (of_system c.in-Ok.system _ _ c.in-Ok.ensures.spelled.0 (carried c.in_ok-text-in-Ok.end c.in_ok-text-in-Ok.text c.in_ok-text-in-Ok.ensures))

pub returns-in-Err : goal.returns-in-Err
returns-in-Err g c = refused_output (IsRunText c.args.crew.limit) c.args.input.now c.in-Err.fail _ c.in-Err.ensures.fault c.refusal.ensures
