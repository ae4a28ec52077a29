-- The law of services, whole.
use Rattle.vx_record.proofs.SoundSteps.{service_sound}
use Rattle.vx_record.proofs.law.references_stand_after_each_service.Goals as goal

pub returns : goal.returns
returns c = service_sound
