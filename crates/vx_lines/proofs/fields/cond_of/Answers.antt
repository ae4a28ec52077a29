use Rattle.vx_text.proofs.Conditions.{cond_found}
use Rattle.vx_lines.proofs.fields.cond_of.Goals as goal

pub returns : goal.returns
returns c = cond_found c.args.word.now c.from_name.result c.from_name.ensures.exact
