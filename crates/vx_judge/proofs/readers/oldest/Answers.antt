use Rattle.std.proofs.Common.{ap, ◌∙◌}
use Rattle.vx_judge.specs.Readers.{counted_wait, least_of}
use Rattle.vx_judge.proofs.ReadsListed.{oldest_is}
use Rattle.vx_judge.proofs.readers.oldest.Goals as goal

pub returns : goal.returns
returns c = λ past is are has. c.least.ensures ∙ (ap (least_of (counted_wait c.args.lives.now c.args.requests.now c.args.name.now)) c.at.ensures ∙ oldest_is c.args.lives.now c.args.requests.now c.args.readers.now past c.args.name.now is are has)
