use Rattle.std.proofs.Common.{sym, subst}
use Rattle.vx_record.specs.Types.{Answer}
use Rattle.vx_record.specs.Parts.{Outcome}
use Rattle.vx_procs.specs.Kernel.{Does}
use Rattle.vx_exec.proofs.Running.{goes_at}
use Rattle.vx_exec.proofs.machine.run.Goals as goal

pub returns-in-None : goal.returns-in-None
returns-in-None g c =
    let e = goes_at c.args.core.now.state c.args.p c.in-Some.frame c.in-Some.ensures (sym c.in-None.is) in
    subst (λ (o : Outcome Answer). Does o c.go_on.result c.args.core.now c.go_on.new.core) (sym e) c.go_on.ensures
