use Rattle.vx_check.proofs.EndedText.{ended_text}
use Rattle.vx_check.proofs.law.an_ended_text_is_the_transcript.Goals as goal

pub returns : goal.returns
returns c = ended_text
