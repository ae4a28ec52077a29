use Rattle.std.proofs.Common.{◌+◌, ◌≤◌, Option, Some, None, IsTrue, length, ap, sym, subst, ◌∙◌}
use Rattle.vx_base.specs.Flags.{one}
use Rattle.vx_base.specs.Lists.{less}
use Rattle.vx_record.specs.Types.{Alarm, Id, Pid, Timer}
use Rattle.vx_base.specs.Roomy.{Roomy}
use Rattle.vx_record.specs.State.{State, IsProcess, change}
use Rattle.vx_base.specs.Quotas.{is_within}
use Rattle.vx_record.specs.Charges.{takes_ast}
use Rattle.vx_record.specs.Timers.{is_due}
use Rattle.vx_procs.specs.Kernel.{Kernel, with_state}
use Rattle.vx_procs.specs.View.{kernel, process, room_of, state}
use Rattle.vx_procs.specs.Words.{alarm_ast, fired_need, moved_on, with_queued_if}
use Rattle.vx_timers.specs.Seen.{alarm_of}
use Rattle.vx_procs.proofs.Changed.{found_in, timers_as}
use Rattle.vx_procs.proofs.Ops.{charged_one, charged_tqe, held_fired, own_timer, place_free, same_timers, within_fired}
use Rattle.vx_procs.proofs.Standing.{standing}
use Rattle.vx_procs.proofs.procs.Core.fire.Goals as goal

pub invariant_of-self : goal.invariant_of-self
invariant_of-self g c = rw (same_timers (is_due c.args.now) c.self.inside.timers c.take_first.new.self c.in_default.ensures.found c.in_default.ensures.after) c.self.invariant

pub returns-in_default-clause-after : goal.returns-in_default-clause-after
returns-in_default-clause-after g c =
    let same = same_timers (is_due c.args.now) c.self.inside.timers c.take_first.new.self c.in_default.ensures.found c.in_default.ensures.after in
    let k = c.args.self.now in
    ap (λ (ts : Roomy Timer). kernel (record c.self.inside { timers = ts })) same ∙ (c.self.view_is ∙ ap (λ (o : Option Timer). with_state k (moved_on k.state c.args.now o)) (found_in (is_due c.args.now) c.self.inside k None c.self.view_is c.in_default.ensures.found))

pub at_mut-requires : goal.at_mut-requires
at_mut-requires g c =
    let own = own_timer (is_due c.args.now) c.self.inside c.in-Some.due c.self.invariant c.in-Some.ensures.found in
    standing c.self.inside c.in-Some.due.p c.p-p.result c.p-p.ensures own.made

pub fire-requires-clause-free : goal.fire-requires-clause-free
fire-requires-clause-free g c = subst (λ (a : Alarm). length (process c.at_mut.result.now).asts + one (takes_ast a) ≤ (room_of c.at_mut.result.now).asts) (sym c.into_what.ensures) (place_free (is_due c.args.now) c.self.inside c.p-p.result c.in-Some.due c.at_mut.result.now c.self.invariant c.in-Some.ensures.found (sym c.p-p.ensures) c.at_mut.ensures.value)

pub fire-requires-clause-charged : goal.fire-requires-clause-charged
fire-requires-clause-charged g c =
    let t = c.in-Some.due in
    let r = c.at_mut.result.now in
    subst (λ (a : Alarm). IsTrue (is_within (fired_need a) r.account.used)) (sym c.into_what.ensures) (within_fired t.what r.account.used
    (charged_one (is_due c.args.now) c.self.inside c.p-p.result t r c.self.invariant c.in-Some.ensures.found (sym c.p-p.ensures) c.at_mut.ensures.value)
    (charged_tqe (is_due c.args.now) c.self.inside c.p-p.result t r c.self.invariant c.in-Some.ensures.found (sym c.p-p.ensures) c.at_mut.ensures.value))

pub invariant_of-self-2 : goal.invariant_of-self-2
invariant_of-self-2 g c =
    held_fired (is_due c.args.now) c.id-id.result (alarm_of g.R.Routine.tagged c.into_what.result) c.self.inside c.p-p.result c.in-Some.due c.at_mut.result.now _ _ c.in-Some.ensures.found c.p-p.ensures c.into_what.ensures c.in-Some.ensures.after c.at_mut.ensures.value c.fire.ensures.after c.fire.ensures.room c.fire.ensures.account c.self.invariant

pub returns-clause-after : goal.returns-clause-after
returns-clause-after g c =
    let k = c.args.self.now in
    let t = c.in-Some.due in
    let a = alarm_of g.R.Routine.tagged c.into_what.result in
    let own = own_timer (is_due c.args.now) c.self.inside t c.self.invariant c.in-Some.ensures.found in
    let made : IsProcess k.state c.p-p.result = subst (λ (x : Kernel). IsProcess x.state c.p-p.result) c.self.view_is (subst (λ (x : Pid). IsProcess (state c.self.inside) x) (sym c.p-p.ensures) own.made) in
    let out : State = record k.state { timers = less (is_due c.args.now) k.state.timers } in
    timers_as (with_queued_if (alarm_ast c.id-id.result a)) (λ (s : State). less (is_due c.args.now) s.timers) c.self.inside k c.p-p.result c.at_mut.result.now _ _ c.self.view_is made c.at_mut.ensures.value c.fire.ensures.after c.fire.ensures.room c.in-Some.ensures.after
    ∙ (ap (λ (x : Pid). with_state k (change out x (with_queued_if (alarm_ast c.id-id.result a)))) c.p-p.ensures
    ∙ (ap (λ (x : Id). with_state k (change out t.p (with_queued_if (alarm_ast x a)))) c.id-id.ensures
    ∙ (ap (λ (x : Alarm). with_state k (change out t.p (with_queued_if (alarm_ast t.id x)))) c.into_what.ensures
    ∙ ap (λ (o : Option Timer). with_state k (moved_on k.state c.args.now o)) (found_in (is_due c.args.now) c.self.inside k (Some t) c.self.view_is c.in-Some.ensures.found))))
