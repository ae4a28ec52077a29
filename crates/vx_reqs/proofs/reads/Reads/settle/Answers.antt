use Rattle.std.proofs.Common.{◌∙◌, sym}
use Rattle.vx_reqs.proofs.Waiting.{settled_read, settled_no_read}
use Rattle.vx_reqs.proofs.reads.Reads.settle.Goals as goal

pub returns-in-Some : goal.returns-in-Some
returns-in-Some c = λ places next rises is reads. settled_read c.args.b places c.args.self.now.from _ c.put.ensures.others reads c.in-Some.id next (sym c.in-Some.is ∙ is) c.put.ensures.here rises

pub returns-in-None : goal.returns-in-None
returns-in-None c = λ places next rises is reads. settled_no_read c.args.b places c.args.self.now.from _ c.put-in-None.ensures.others reads (sym c.in-None.is ∙ is)
