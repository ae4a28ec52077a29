use Rattle.std.proofs.Common.{◌∙◌, Bor, ap, sym, is_some}
use Rattle.vx_record.proofs.Lists.{mapped_some}
use Rattle.vx_record.specs.Types.{Request}
use Rattle.vx_reqs.proofs.Live.{any_found}
use Rattle.vx_reqs.proofs.reqs.Reqs.has.Goals as goal
use Rattle.vx_record.specs.Finish.{this_request}

pub returns : goal.returns
returns g c = c.is_some.ensures ∙ sym (mapped_some (λ (o : Bor Request). o.now) c.with_id.result) ∙ ap is_some c.with_id.ensures ∙ sym (any_found (this_request c.args.id) c.args.self.now.items)
