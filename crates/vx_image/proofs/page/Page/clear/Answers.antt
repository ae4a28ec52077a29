use Rattle.std.proofs.Common.{arith}
use Rattle.vx_image.proofs.Filled.{zeros_all}
use Rattle.vx_image.proofs.page.Page.clear.Goals as goal

pub invariant_of-self : goal.invariant_of-self
invariant_of-self c = (omega arith, zeros_all c.self.inside.bytes c.clear_front.new.bytes c.self.inside.written c.self.invariant.0 c.self.invariant.1 c.clear_front.ensures)

pub returns : goal.returns
returns c = zeros_all c.self.inside.bytes c.clear_front.new.bytes c.self.inside.written c.self.invariant.0 c.self.invariant.1 c.clear_front.ensures
