use Rattle.vx_check.proofs.RunJudged.{run_judged, transcript_judged}
use Rattle.vx_check.proofs.law.the_transcript_of_a_run_is_judged_by_its_end.Goals as goal

pub returns : goal.returns
returns c = record { journal = run_judged; transcript = transcript_judged }
