-- The law of steps, whole.
use Rattle.vx_record.proofs.SoundSteps.{step_sound}
use Rattle.vx_record.proofs.law.references_stand_after_each_step.Goals as goal

pub returns : goal.returns
returns c = step_sound
