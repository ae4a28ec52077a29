use Rattle.std.proofs.Common.{◌∷◌, ◌++◌, [], ap, sym, subst, true, ◌∙◌}
use Rattle.vx_record.specs.Types.{Pid}
use Rattle.vx_record.specs.State.{State, IsProcess}
use Rattle.vx_record.specs.Charges.{ast_need, exceeds}
use Rattle.vx_quota.specs.Account.{charged}
use Rattle.vx_procs.proofs.Called.{held_called}
use Rattle.vx_procs.proofs.Changed.{attention_alone, made_in}
use Rattle.vx_procs.proofs.Standing.{standing}
use Rattle.vx_procs.proofs.procs.Core.add_attention.Goals as goal

pub at_mut-requires : goal.at_mut-requires
at_mut-requires g c = standing c.self.inside c.args.entry.p c.p-p.result c.p-p.ensures (made_in c.self.inside c.args.self.now c.args.entry.p c.self.view_is c.requires.made)

pub invariant_of-self : goal.invariant_of-self
invariant_of-self g c =
    let k = c.args.self.now in
    let r = c.at_mut.result.now in
    let made : IsProcess k.state c.p-p.result = subst (λ (p : Pid). IsProcess k.state p) (sym c.p-p.ensures) c.requires.made in
    held_called c.args.entry c.self.inside k c.p-p.result r _ c.add.new.self c.self.view_is made c.requires.spares (sym c.p-p.ensures) (ap (λ (p : Pid). exceeds k.state p (ast_need true)) c.p-p.ensures ∙ c.requires.within) c.at_mut.ensures.value c.charge.ensures.after c.charge.ensures.room (c.charge.ensures.account ∙ ap (λ n. charged r.account n) c.ast_need.ensures) c.add.ensures c.self.invariant

pub returns : goal.returns
returns g c =
    let k = c.args.self.now in
    let made : IsProcess k.state c.p-p.result = subst (λ (p : Pid). IsProcess k.state p) (sym c.p-p.ensures) c.requires.made in
    attention_alone (λ (s : State). s.attention ++ c.args.entry ∷ []) c.self.inside k c.p-p.result c.at_mut.result.now _ c.add.new.self c.self.view_is made c.at_mut.ensures.value c.charge.ensures.after c.charge.ensures.room c.add.ensures
