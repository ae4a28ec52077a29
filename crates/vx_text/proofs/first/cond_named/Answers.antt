use Rattle.vx_text.proofs.Conditions.{cond_found}
use Rattle.vx_text.proofs.first.cond_named.Goals as goal

pub returns : goal.returns
returns c = cond_found c.args.text.now c.from_name.result c.from_name.ensures.exact
