use Rattle.vx_commands.specs.Explored.{IsExploreText}
use Rattle.vx_tell.proofs.Told.{of_system_output, refused_output}
use Rattle.vx_commands.proofs.survey.answer.Goals as goal

pub returns-in-Ok : goal.returns-in-Ok
returns-in-Ok c = of_system_output (IsExploreText c.args.scope) c.args.input.now c.in-Ok.system _ c.in-Ok.ensures.spelled.0 c.tell_endings.ensures

pub returns-in-Err : goal.returns-in-Err
returns-in-Err c = refused_output (IsExploreText c.args.scope) c.args.input.now c.in-Err.fail _ c.in-Err.ensures.fault c.refusal.ensures
