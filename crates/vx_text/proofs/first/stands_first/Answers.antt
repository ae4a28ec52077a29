use Rattle.vx_text.proofs.Local.{if_ok-reading}
use Rattle.vx_text.proofs.first.stands_first.Goals as goal

pub returns-clause-reading : goal.returns-clause-reading
returns-clause-reading c = if_ok-reading c.args.bytes.now c.leading.result c.leading.ensures
