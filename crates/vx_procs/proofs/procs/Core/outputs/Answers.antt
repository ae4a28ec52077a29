use Rattle.vx_procs.proofs.Leased.{read_in}
use Rattle.vx_procs.proofs.Requested.{unit_within}
use Rattle.vx_procs.proofs.procs.Core.outputs.Goals as goal

pub outputs-requires : goal.outputs-requires
outputs-requires g c = read_in c.self.inside c.args.self.now c.args.u c.index.result.now c.self.view_is (unit_within c.self.inside c.args.self.now c.args.u c.self.view_is c.requires.unit) c.index.ensures c.requires.home
