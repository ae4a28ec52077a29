use Rattle.std.proofs.Common.{refl, IsTrue, List, ap, subst, sym, ◌∙◌}
use Rattle.vx_base.specs.Lists.{less}
use Rattle.vx_record.specs.Types.{Attention, Need}
use Rattle.vx_base.specs.Quotas.{is_within}
use Rattle.vx_base.specs.Roomy.{Roomy}
use Rattle.vx_base.proofs.First.{less_none}
use Rattle.vx_record.specs.Mailboxes.{this_attention}
use Rattle.vx_record.specs.State.{State, IsProcess}
use Rattle.vx_quota.specs.Account.{released}
use Rattle.vx_procs.specs.Kernel.{Kernel, with_state}
use Rattle.vx_procs.specs.View.{kernel}
use Rattle.vx_procs.proofs.Called.{called_in, held_dropped, process_called, within_call}
use Rattle.vx_procs.proofs.Changed.{attention_alone}
use Rattle.vx_procs.proofs.Ops.{same_timers}
use Rattle.vx_procs.proofs.Standing.{standing}
use Rattle.vx_procs.proofs.procs.Core.drop_attention.Goals as goal

pub invariant_of-self : goal.invariant_of-self
invariant_of-self g c = rw (same_timers (this_attention c.args.id) c.self.inside.attention c.take.new.self c.in_default.ensures.found c.in_default.ensures.after) c.self.invariant

pub returns-in_default : goal.returns-in_default
returns-in_default g c =
    let k = c.args.self.now in
    let test = this_attention c.args.id in
    let same = same_timers test c.self.inside.attention c.take.new.self c.in_default.ensures.found c.in_default.ensures.after in
    ap (λ (es : Roomy Attention). kernel (record c.self.inside { attention = es })) same
    ∙ (c.self.view_is ∙ ap (λ (xs : List Attention). with_state k (record k.state { attention = xs })) (sym (less_none test k.state.attention (sym (called_in c.args.id c.self.inside k _ c.self.view_is c.in_default.ensures.found)))))

pub at_mut-requires : goal.at_mut-requires
at_mut-requires g c = standing c.self.inside c.p-p.result c.p-p.result refl (process_called c.args.id c.self.inside c.p-p.result c.in-Some.entry c.self.invariant c.in-Some.ensures.found c.p-p.ensures)

pub release-requires : goal.release-requires
release-requires g c =
    let r = c.at_mut.result.now in
    subst (λ (n : Need). IsTrue (is_within n r.account.used)) (sym c.ast_need.ensures) (within_call c.args.id c.self.inside c.p-p.result c.in-Some.entry r c.self.invariant c.in-Some.ensures.found c.p-p.ensures c.at_mut.ensures.value)

pub invariant_of-self-2 : goal.invariant_of-self-2
invariant_of-self-2 g c =
    let r = c.at_mut.result.now in
    held_dropped c.args.id c.self.inside c.p-p.result c.in-Some.entry r _ c.take.new.self c.in-Some.ensures.found c.p-p.ensures c.in-Some.ensures.after c.at_mut.ensures.value c.release.ensures.after c.release.ensures.room (c.release.ensures.account ∙ ap (λ n. released r.account n) c.ast_need.ensures) c.self.invariant

pub returns : goal.returns
returns g c =
    let k = c.args.self.now in
    let made : IsProcess k.state c.p-p.result = subst (λ (x : Kernel). IsProcess x.state c.p-p.result) c.self.view_is (process_called c.args.id c.self.inside c.p-p.result c.in-Some.entry c.self.invariant c.in-Some.ensures.found c.p-p.ensures) in
    attention_alone (λ (s : State). less (this_attention c.args.id) s.attention) c.self.inside k c.p-p.result c.at_mut.result.now _ c.take.new.self c.self.view_is made c.at_mut.ensures.value c.release.ensures.after c.release.ensures.room c.in-Some.ensures.after
