use Rattle.std.proofs.Common.{ap}
use Rattle.vx_procs.specs.Kernel.{Kernel}
use Rattle.vx_procs.proofs.Leased.{on_ok}
use Rattle.vx_exec.proofs.Engines.{prepared_stands}
use Rattle.vx_exec.proofs.room.prepare.Goals as goal

pub returns-clause-home : goal.returns-clause-home
returns-clause-home g c = on_ok c.prepare.result (λ made. prepared_stands c.args.core.now c.begin.new.self c.prepare.new.self c.args.u c.begin.ensures.ends (ap (λ (k : Kernel). k.ends) c.prepare.ensures.after) made.home) c.prepare.ensures.ok
