use Rattle.std.proofs.Common.{length, subst, sym}
use Rattle.vx_record.specs.Types.{Pid}
use Rattle.vx_record.specs.State.{IsProcess}
use Rattle.vx_record.specs.Timers.{is_due}
use Rattle.vx_timers.specs.declared.due.Falls.{Falls}
use Rattle.vx_procs.specs.Kernel.{Kernel}
use Rattle.vx_procs.specs.View.{state}
use Rattle.vx_procs.specs.Words.{IsWoken}
use Rattle.vx_procs.proofs.Ops.{own_timer, woken}
use Rattle.vx_procs.proofs.procs.Core.due_entry.Goals as goal

pub returns-clause-made : goal.returns-clause-made
returns-clause-made g c =
    let own = own_timer (is_due c.args.now) c.self.inside c.in_ok-due.due.now c.self.invariant c.in_ok-due.ensures in
    subst (λ (k : Kernel). IsProcess k.state c.p.result) c.self.view_is (subst (λ (p : Pid). IsProcess (state c.self.inside) p) (sym c.p.ensures) own.made)

pub returns-clause-woken : goal.returns-clause-woken
returns-clause-woken g c =
    let t = c.in_ok-due.due.now in
    let own = own_timer (is_due c.args.now) c.self.inside t c.self.invariant c.in_ok-due.ensures in
    subst (λ (k : Kernel). IsWoken (length k.state.procs) c.falls.result) c.self.view_is (subst (λ (f : Falls). IsWoken (length (state c.self.inside).procs) f) (sym c.falls.ensures) (woken (length (state c.self.inside).procs) t.what own.target))
