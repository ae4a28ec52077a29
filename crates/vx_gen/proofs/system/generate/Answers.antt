use Rattle.vx_gen.proofs.Formed.{formed_as}
use Rattle.vx_gen.proofs.system.generate.Goals as goal

pub returns-clause-formed : goal.returns-clause-formed
returns-clause-formed c = formed_as c.args.n c.system.result c.requires.within c.system.ensures
