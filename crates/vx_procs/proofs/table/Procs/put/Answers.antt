use Rattle.std.proofs.Common.{◌∙◌}
use Rattle.vx_procs.proofs.Remembered.{right_more}
use Rattle.vx_procs.proofs.table.Procs.put.Goals as goal

pub invariant_of-self : goal.invariant_of-self
invariant_of-self g c = rw (c.forget.ensures, c.forget-2.ensures, c.in-Ok.ensures.items) (right_more c.len-place.result c.self.inside.seen.items c.self.inside.summaries.items c.self.inside.items.items c.args.proc (c.len-place.ensures ∙ c.self.inside.items.ok.0) c.self.invariant)
