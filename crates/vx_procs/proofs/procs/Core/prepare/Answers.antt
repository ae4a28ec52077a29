use Rattle.std.proofs.Common.{arith}
use Rattle.vx_procs.proofs.Leased.{on_err, on_ok, unit_stayed}
use Rattle.vx_procs.proofs.Requested.{free_serving, front_free, front_own, held_unit, made_for, prepared_as}
use Rattle.vx_procs.proofs.procs.Core.prepare.Goals as goal

pub index_mut-requires : goal.index_mut-requires
index_mut-requires g c = omega (arith, (front_own c.self.inside c.args.u c.in-Some.req.now c.self.invariant c.in-Some.ensures).0)

pub prepare-requires : goal.prepare-requires
prepare-requires g c = (front_own c.self.inside c.args.u c.in-Some.req.now c.self.invariant c.in-Some.ensures).1

pub invariant_of-self : goal.invariant_of-self
invariant_of-self g c =
    let u = c.args.u in
    let req = c.in-Some.req.now in
    let rs = c.self.inside.requests.items in
    held_unit c.self.inside u c.prepare.new.self c.self.inside.log (front_own c.self.inside u req c.self.invariant c.in-Some.ensures).0 (free_serving u rs _ (front_free u rs req c.in-Some.ensures)) c.self.invariant

pub returns-clause-ok : goal.returns-clause-ok
returns-clause-ok g c =
    let u = c.args.u in
    let req = c.in-Some.req.now in
    on_ok c.prepare.result (λ made. made_for c.self.inside u c.prepare.new.self req (front_own c.self.inside u req c.self.invariant c.in-Some.ensures).0 c.in-Some.ensures made) c.prepare.ensures.ok

pub returns-clause-after : goal.returns-clause-after
returns-clause-after g c = prepared_as c.self.inside c.args.self.now c.args.u c.index_mut.result.now c.prepare.new.self c.self.view_is (front_own c.self.inside c.args.u c.in-Some.req.now c.self.invariant c.in-Some.ensures).0 c.index_mut.ensures.value c.prepare.ensures.unit

pub returns-clause-err : goal.returns-clause-err
returns-clause-err g c = on_err c.prepare.result (λ same. unit_stayed c.self.inside c.args.self.now c.args.u c.index_mut.result.now c.prepare.new.self c.self.view_is c.index_mut.ensures.value same) c.prepare.ensures.err
