use Rattle.vx_check.proofs.OneVerdict.{one_verdict}
use Rattle.vx_check.proofs.law.no_transcript_has_two_verdicts.Goals as goal

pub returns : goal.returns
returns c = one_verdict
