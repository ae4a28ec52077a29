use Rattle.vx_commands.specs.Shown.{IsShowText, shown}
use Rattle.vx_tell.specs.Scripts.{of_system}
use Rattle.vx_tell.proofs.Told.{refused_output}
use Rattle.vx_commands.proofs.show.answer.Goals as goal

pub returns-in_ok-print_script-in-Ok : goal.returns-in_ok-print_script-in-Ok
returns-in_ok-print_script-in-Ok c = rw c.in_ok-print_script-in-Ok.ensures (of_system c.in-Ok.system _ _ c.in-Ok.ensures.spelled.0 shown)

pub returns-in-Err : goal.returns-in-Err
returns-in-Err c = refused_output IsShowText c.args.input.now c.in-Err.fail _ c.in-Err.ensures.fault c.refusal.ensures
