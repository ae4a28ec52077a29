use Rattle.std.proofs.Common.{◌∷◌, ◌++◌, [], ap, sym, subst, ◌∙◌}
use Rattle.vx_record.specs.Types.{Pid}
use Rattle.vx_record.specs.State.{State, IsProcess}
use Rattle.vx_record.specs.Charges.{exceeds}
use Rattle.vx_procs.specs.Words.{alarm_need}
use Rattle.vx_quota.specs.Account.{charged}
use Rattle.vx_procs.proofs.Changed.{made_in, timers_alone}
use Rattle.vx_procs.proofs.Ops.{held_timed}
use Rattle.vx_procs.proofs.Standing.{standing}
use Rattle.vx_procs.proofs.procs.Core.add.Goals as goal

pub at_mut-requires : goal.at_mut-requires
at_mut-requires g c = standing c.self.inside c.args.due.p c.p-p.result c.p-p.ensures (made_in c.self.inside c.args.self.now c.args.due.p c.self.view_is c.requires.own.made)

pub invariant_of-self : goal.invariant_of-self
invariant_of-self g c =
    let k = c.args.self.now in
    let made : IsProcess k.state c.p-p.result = subst (λ (p : Pid). IsProcess k.state p) (sym c.p-p.ensures) c.requires.own.made in
    held_timed c.args.due c.self.inside k c.p-p.result c.at_mut.result.now _ c.put.new.self c.self.view_is made c.requires.spares (sym c.p-p.ensures) c.requires.own (ap (λ (p : Pid). exceeds k.state p (alarm_need c.args.due.what)) c.p-p.ensures ∙ c.requires.within) c.at_mut.ensures.value c.charge.ensures.after c.charge.ensures.room (c.charge.ensures.account ∙ ap (λ n. charged c.at_mut.result.now.account n) c.due_need.ensures) c.put.ensures c.self.invariant

pub returns : goal.returns
returns g c =
    let k = c.args.self.now in
    let made : IsProcess k.state c.p-p.result = subst (λ (p : Pid). IsProcess k.state p) (sym c.p-p.ensures) c.requires.own.made in
    timers_alone (λ (s : State). s.timers ++ c.args.due ∷ []) c.self.inside k c.p-p.result c.at_mut.result.now _ c.put.new.self c.self.view_is made c.at_mut.ensures.value c.charge.ensures.after c.charge.ensures.room c.put.ensures
