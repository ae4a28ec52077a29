use Rattle.std.proofs.Common.{Some}
use Rattle.vx_procs.proofs.Created.{held_same}
use Rattle.vx_procs.proofs.procs.Core.make_spare.Goals as goal

pub invariant_of-self-2 : goal.invariant_of-self-2
invariant_of-self-2 g c = held_same c.self.inside (record c.self.inside { procs = c.reserve.new.self; spare = Some c.in_ok-new.field-0 }) c.reserve.ensures.items c.self.invariant
