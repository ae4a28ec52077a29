use Rattle.std.proofs.Common.{Option, None, ap, arith, refl, ◌∙◌}
use Rattle.vx_record.specs.Types.{Attention, Entry, Id, Mode}
use Rattle.vx_base.specs.Roomy.{Roomy}
use Rattle.vx_record.specs.Asts.{charged_ast, with_queued}
use Rattle.vx_record.specs.Mailboxes.{this_attention}
use Rattle.vx_procs.specs.Attention.{fired_attention_if}
use Rattle.vx_procs.specs.Held.{Books}
use Rattle.vx_procs.specs.Kernel.{with_state}
use Rattle.vx_procs.specs.View.{kernel, process}
use Rattle.vx_procs.proofs.Called.{called_in, fired_as, held_fired, place_called, process_called}
use Rattle.vx_procs.proofs.Ops.{same_timers}
use Rattle.vx_procs.proofs.Standing.{standing}
use Rattle.vx_procs.proofs.procs.Core.fire_attention.Goals as goal

pub invariant_of-self : goal.invariant_of-self
invariant_of-self g c = rw (same_timers (this_attention c.args.id) c.self.inside.attention c.take.new.self c.in_default.ensures.found c.in_default.ensures.after) c.self.invariant

pub returns-in_default-clause-after : goal.returns-in_default-clause-after
returns-in_default-clause-after g c =
    let same = same_timers (this_attention c.args.id) c.self.inside.attention c.take.new.self c.in_default.ensures.found c.in_default.ensures.after in
    let k = c.args.self.now in
    ap (λ (es : Roomy Attention). kernel (record c.self.inside { attention = es })) same
    ∙ (c.self.view_is ∙ ap (λ (o : Option Attention). with_state k (fired_attention_if k.state o)) (called_in c.args.id c.self.inside k None c.self.view_is c.in_default.ensures.found))

pub at_mut-requires : goal.at_mut-requires
at_mut-requires g c = standing c.self.inside c.p-p.result c.p-p.result refl (process_called c.args.id c.self.inside c.p-p.result c.in-Some.entry c.self.invariant c.in-Some.ensures.found c.p-p.ensures)

pub call_attention-requires : goal.call_attention-requires
call_attention-requires g c = omega (arith, place_called c.args.id c.self.inside c.p-p.result c.in-Some.entry c.at_mut.result.now c.self.invariant c.in-Some.ensures.found c.p-p.ensures c.at_mut.ensures.value)

pub invariant_of-self-2 : goal.invariant_of-self-2
invariant_of-self-2 g c =
    held_fired (charged_ast c.id-id.result c.mode-mode.result (g.R.Routine.tagged c.into_routine.result)) c.args.id c.self.inside c.p-p.result c.in-Some.entry c.at_mut.result.now _ c.take.new.self refl c.in-Some.ensures.found c.p-p.ensures c.in-Some.ensures.after c.at_mut.ensures.value c.call_attention.ensures.after (ap (λ (b : Books). b.room) c.call_attention.ensures.books) (ap (λ (b : Books). b.account) c.call_attention.ensures.books) c.self.invariant

pub returns-clause-after : goal.returns-clause-after
returns-clause-after g c =
    let a = c.in-Some.entry in
    let pr = process c.at_mut.result.now in
    let tag = g.R.Routine.tagged c.into_routine.result in
    let after = c.call_attention.ensures.after
    ∙ (ap (λ (x : Id). with_queued (charged_ast x c.mode-mode.result tag) pr) c.id-id.ensures
    ∙ (ap (λ (x : Mode). with_queued (charged_ast a.id x tag) pr) c.mode-mode.ensures
    ∙ ap (λ (x : Entry). with_queued (charged_ast a.id a.mode x) pr) c.into_routine.ensures)) in
    fired_as c.args.id c.self.inside c.args.self.now c.p-p.result a c.at_mut.result.now _ c.take.new.self c.self.view_is c.self.invariant c.in-Some.ensures.found c.p-p.ensures c.at_mut.ensures.value after (ap (λ (b : Books). b.room) c.call_attention.ensures.books) c.in-Some.ensures.after
