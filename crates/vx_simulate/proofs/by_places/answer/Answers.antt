use Rattle.vx_simulate.specs.Followed.{IsFollowText}
use Rattle.vx_tell.proofs.Told.{of_system_output, refused_output}
use Rattle.vx_simulate.proofs.by_places.answer.Goals as goal

pub returns-in-Ok : goal.returns-in-Ok
returns-in-Ok c = of_system_output (IsFollowText c.args.picks.now) c.args.input.now c.in-Ok.system _ c.in-Ok.ensures.spelled.0 c.followed.ensures

pub returns-in-Err : goal.returns-in-Err
returns-in-Err c = refused_output (IsFollowText c.args.picks.now) c.args.input.now c.in-Err.fail _ c.in-Err.ensures.fault c.refusal.ensures
