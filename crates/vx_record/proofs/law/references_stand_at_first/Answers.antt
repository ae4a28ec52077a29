-- The first state.
use Rattle.vx_record.proofs.SoundSteps.{first_sound}
use Rattle.vx_record.proofs.law.references_stand_at_first.Goals as goal

pub returns : goal.returns
returns c = first_sound
