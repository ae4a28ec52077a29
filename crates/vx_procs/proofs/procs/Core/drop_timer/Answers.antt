use Rattle.std.proofs.Common.{IsTrue, ap, subst, sym, ◌∙◌}
use Rattle.vx_base.specs.Lists.{less}
use Rattle.vx_base.specs.Quotas.{is_within}
use Rattle.vx_record.specs.Types.{Need, Pid}
use Rattle.vx_record.specs.State.{State, IsProcess}
use Rattle.vx_quota.specs.Account.{released}
use Rattle.vx_timers.specs.Seen.{passes}
use Rattle.vx_procs.specs.Kernel.{Kernel}
use Rattle.vx_procs.specs.View.{state}
use Rattle.vx_procs.proofs.Changed.{timers_alone}
use Rattle.vx_procs.proofs.Ops.{charged_one, charged_tqe, held_dropped, own_timer, same_timers, within_alarm}
use Rattle.vx_procs.proofs.Standing.{standing}
use Rattle.vx_procs.proofs.procs.Core.drop_timer.Goals as goal

pub invariant_of-self : goal.invariant_of-self
invariant_of-self g c = rw (same_timers (passes c.args.which) c.self.inside.timers c.take_first.new.self c.in_err-due.ensures.found c.in_err-due.ensures.after) c.self.invariant

pub at_mut-requires : goal.at_mut-requires
at_mut-requires g c =
    let own = own_timer (passes c.args.which) c.self.inside c.in_ok-due.due c.self.invariant c.in_ok-due.ensures.found in
    standing c.self.inside c.in_ok-due.due.p c.p-p.result c.p-p.ensures own.made

pub release-requires : goal.release-requires
release-requires g c =
    let t = c.in_ok-due.due in
    let r = c.at_mut.result.now in
    subst (λ (n : Need). IsTrue (is_within n r.account.used)) (sym c.due_need.ensures) (within_alarm t.what r.account.used
    (charged_one (passes c.args.which) c.self.inside c.p-p.result t r c.self.invariant c.in_ok-due.ensures.found (sym c.p-p.ensures) c.at_mut.ensures.value)
    (charged_tqe (passes c.args.which) c.self.inside c.p-p.result t r c.self.invariant c.in_ok-due.ensures.found (sym c.p-p.ensures) c.at_mut.ensures.value))

pub invariant_of-self-2 : goal.invariant_of-self-2
invariant_of-self-2 g c =
    held_dropped (passes c.args.which) c.self.inside c.p-p.result c.in_ok-due.due c.at_mut.result.now _ _ c.in_ok-due.ensures.found c.p-p.ensures c.in_ok-due.ensures.after c.at_mut.ensures.value c.release.ensures.after c.release.ensures.room (c.release.ensures.account ∙ ap (λ n. released c.at_mut.result.now.account n) c.due_need.ensures) c.self.invariant

pub returns-clause-after : goal.returns-clause-after
returns-clause-after g c =
    let k = c.args.self.now in
    let own = own_timer (passes c.args.which) c.self.inside c.in_ok-due.due c.self.invariant c.in_ok-due.ensures.found in
    let made : IsProcess k.state c.p-p.result = subst (λ (x : Kernel). IsProcess x.state c.p-p.result) c.self.view_is (subst (λ (x : Pid). IsProcess (state c.self.inside) x) (sym c.p-p.ensures) own.made) in
    timers_alone (λ (s : State). less (passes c.args.which) s.timers) c.self.inside k c.p-p.result c.at_mut.result.now _ _ c.self.view_is made c.at_mut.ensures.value c.release.ensures.after c.release.ensures.room c.in_ok-due.ensures.after
