use Rattle.std.proofs.Common.{◌∷◌, ◌++◌, [], Bool, false, is_some, option_map, refl, ap, sym, ◌∙◌}
use Rattle.vx_record.specs.Types.{Request, System}
use Rattle.vx_reqs.specs.Requests.{promised_of}
use Rattle.vx_record.specs.Charges.{exceeds, request_need}
use Rattle.vx_record.specs.Runs.{first}
use Rattle.vx_record.specs.State.{State}
use Rattle.vx_procs.specs.Kernel.{Kernel}
use Rattle.vx_procs.specs.View.{state}
use Rattle.vx_procs.proofs.Changed.{requests_alone}
use Rattle.vx_procs.proofs.Requested.{held_asked}
use Rattle.vx_procs.proofs.procs.Core.accept.Goals as goal
use Rattle.vx_record.proofs.Lists.{mapped_some}

pub invariant_of-self : goal.invariant_of-self
invariant_of-self g c =
    let q = c.args.req in
    let k = c.args.self.now in
    let r : Request = record { req = q; ast = option_map (promised_of g.R.Routine.tagged) c.args.ast; served = false; marked = false } in
    let own = c.need_of-need.ensures ∙ ap (λ (x : System). request_need (first x) q.device q.func c.is_some.result q.len) c.get.ensures in
    let needs = own ∙ ap (λ (b : Bool). request_need (state c.self.inside) q.device q.func b q.len) (c.is_some.ensures ∙ sym (mapped_some (promised_of g.R.Routine.tagged) c.args.ast)) in
    let within = ap (exceeds k.state q.p) (own ∙ (ap (λ (b : Bool). request_need (state c.self.inside) q.device q.func b q.len) c.is_some.ensures ∙ ap (λ (x : Kernel). request_need x.state q.device q.func (is_some c.args.ast) q.len) c.self.view_is)) ∙ c.requires.within in
    held_asked r c.need_of-need.result c.self.inside k q.p c.at_mut.result.now _ c.accept.new.self c.self.view_is c.requires.spares refl refl c.requires.own needs within c.at_mut.ensures.value c.charge.ensures.after c.charge.ensures.room c.charge.ensures.account c.accept.ensures c.self.invariant

pub returns : goal.returns
returns g c =
    let r : Request = record { req = c.args.req; ast = option_map (promised_of g.R.Routine.tagged) c.args.ast; served = false; marked = false } in
    requests_alone (λ (s : State). s.requests ++ r ∷ []) c.self.inside c.args.self.now c.args.req.p c.at_mut.result.now _ c.accept.new.self c.self.view_is c.requires.own.made c.at_mut.ensures.value c.charge.ensures.after c.charge.ensures.room c.accept.ensures
