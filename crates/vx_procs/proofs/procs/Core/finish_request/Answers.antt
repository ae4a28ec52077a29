use Rattle.std.proofs.Common.{None, Option, false, option_map, is_some, arith, ap, sym, ◌∙◌}
use Rattle.vx_base.specs.Flags.{one}
use Rattle.vx_record.specs.Types.{Promised, Req, Request, System}
use Rattle.vx_base.specs.Roomy.{Roomy}
use Rattle.vx_reqs.specs.Requests.{promised_of}
use Rattle.vx_record.specs.Charges.{request_need}
use Rattle.vx_record.specs.Finish.{this_request}
use Rattle.vx_record.specs.Runs.{first}
use Rattle.vx_procs.specs.Kernel.{with_state}
use Rattle.vx_procs.specs.Requests.{ended_if, promised_ast}
use Rattle.vx_procs.specs.View.{kernel, process, state}
use Rattle.vx_procs.specs.Words.{with_queued_if}
use Rattle.vx_procs.proofs.Ops.{same_timers}
use Rattle.vx_procs.proofs.Requested.{asked_in, charged_request, ended_as, held_ended, own_found, place_kept}
use Rattle.vx_procs.proofs.Standing.{standing}
use Rattle.vx_procs.proofs.procs.Core.finish_request.Goals as goal
use Rattle.vx_record.proofs.Lists.{mapped_some}

pub invariant_of-self : goal.invariant_of-self
invariant_of-self g c = rw (same_timers (this_request c.args.id) c.self.inside.requests c.finish.new.self c.in_err-done.ensures.found c.in_err-done.ensures.after) c.self.invariant

pub returns-in_err-done-clause-after : goal.returns-in_err-done-clause-after
returns-in_err-done-clause-after g c =
    let test = this_request c.args.id in
    let k = c.args.self.now in
    let same = same_timers test c.self.inside.requests c.finish.new.self c.in_err-done.ensures.found c.in_err-done.ensures.after in
    ap (λ (rs : Roomy Request). kernel (record c.self.inside { requests = rs })) same
    ∙ (c.self.view_is ∙ ap (λ (o : Option Request). with_state k (ended_if k.state o)) (asked_in test c.self.inside k None c.self.view_is c.in_err-done.ensures.found))

pub at_mut-requires : goal.at_mut-requires
at_mut-requires g c =
    let own = own_found (this_request c.args.id) c.self.inside c.in_ok-done.done c.self.invariant c.in_ok-done.ensures.found in
    standing c.self.inside c.in_ok-done.done.req.p c.parts-req.result.0.p (ap (λ (x : Req). x.p) c.parts-req.ensures.req) own.made

pub end_request-queued-requires-clause-free : goal.end_request-queued-requires-clause-free
end_request-queued-requires-clause-free g c =
    let r = c.in_ok-done.done in
    let place = place_kept (this_request c.args.id) c.self.inside c.parts-req.result.0.p r c.at_mut.result.now c.self.invariant c.in_ok-done.ensures.found (sym (ap (λ (x : Req). x.p) c.parts-req.ensures.req)) c.at_mut.ensures.value in
    let same = sym (mapped_some (promised_of g.R.Routine.tagged) c.parts-req.result.1) ∙ ap (λ (a : Option Promised). is_some a) c.parts-req.ensures.ast in
    omega (arith, place, ap one same)

pub end_request-queued-requires-clause-charged : goal.end_request-queued-requires-clause-charged
end_request-queued-requires-clause-charged g c =
    let r = c.in_ok-done.done in
    let own = c.need_of-need.ensures ∙ ap (λ (x : System). request_need (first x) c.parts-req.result.0.device c.parts-req.result.0.func false c.parts-req.result.0.len) c.get.ensures in
    let needs = own ∙ ap (λ (x : Req). request_need (state c.self.inside) x.device x.func false x.len) c.parts-req.ensures.req in
    charged_request (this_request c.args.id) c.need_of-need.result c.self.inside c.parts-req.result.0.p r c.at_mut.result.now c.self.invariant c.in_ok-done.ensures.found (sym (ap (λ (x : Req). x.p) c.parts-req.ensures.req)) needs c.at_mut.ensures.value

pub invariant_of-self-2 : goal.invariant_of-self-2
invariant_of-self-2 g c =
    let r = c.in_ok-done.done in
    let pr = process c.at_mut.result.now in
    let own = c.need_of-need.ensures ∙ ap (λ (x : System). request_need (first x) c.parts-req.result.0.device c.parts-req.result.0.func false c.parts-req.result.0.len) c.get.ensures in
    let needs = own ∙ ap (λ (x : Req). request_need (state c.self.inside) x.device x.func false x.len) c.parts-req.ensures.req in
    let after = c.end_request-queued.ensures.after ∙ (ap (λ (x : Req). with_queued_if (promised_ast x.id (option_map (promised_of g.R.Routine.tagged) c.parts-req.result.1)) pr) c.parts-req.ensures.req ∙ ap (λ (a : Option Promised). with_queued_if (promised_ast r.req.id a) pr) c.parts-req.ensures.ast) in
    held_ended (this_request c.args.id) c.need_of-need.result c.self.inside c.parts-req.result.0.p r c.at_mut.result.now _ c.finish.new.self c.in_ok-done.ensures.found (sym (ap (λ (x : Req). x.p) c.parts-req.ensures.req)) needs c.in_ok-done.ensures.after c.at_mut.ensures.value after c.end_request-queued.ensures.room c.end_request-queued.ensures.account c.self.invariant

pub returns-clause-after : goal.returns-clause-after
returns-clause-after g c =
    let r = c.in_ok-done.done in
    let pr = process c.at_mut.result.now in
    let after = c.end_request-queued.ensures.after ∙ (ap (λ (x : Req). with_queued_if (promised_ast x.id (option_map (promised_of g.R.Routine.tagged) c.parts-req.result.1)) pr) c.parts-req.ensures.req ∙ ap (λ (a : Option Promised). with_queued_if (promised_ast r.req.id a) pr) c.parts-req.ensures.ast) in
    ended_as c.args.id c.self.inside c.args.self.now c.parts-req.result.0.p r c.at_mut.result.now _ c.finish.new.self c.self.view_is c.self.invariant c.in_ok-done.ensures.found (sym (ap (λ (x : Req). x.p) c.parts-req.ensures.req)) c.at_mut.ensures.value after c.end_request-queued.ensures.room c.in_ok-done.ensures.after
