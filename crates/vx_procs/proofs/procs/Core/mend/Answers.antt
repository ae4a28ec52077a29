use Rattle.std.proofs.Common.{Option, IfSome, refl, None, ◌-◌, subst}
use Rattle.vx_record.specs.Types.{Pid}
use Rattle.vx_record.specs.State.{IsProcess}
use Rattle.vx_procs.specs.View.{state}
use Rattle.std.specs.Vec.{with_item}
use Rattle.vx_procs.proofs.Changed.{roomier_state}
use Rattle.vx_procs.proofs.Ops.{held_mended, held_roomier, spares_none}
use Rattle.vx_procs.proofs.procs.Core.mend.Goals as goal

pub returns-in_default-clause-spares : goal.returns-in_default-clause-spares
returns-in_default-clause-spares g c = spares_none c.self.inside c.args.self.now c.self.view_is c.in_default.is c.self.invariant

pub invariant_of-self : goal.invariant_of-self
invariant_of-self g c = held_roomier c.self.inside c.in-Some.p c.at_mut.result.now _ (subst (λ (o : Option Pid). IfSome o (IsProcess (state c.self.inside))) c.in-Some.is c.self.invariant.marked) c.at_mut.ensures.value c.reserve.ensures.after c.reserve.ensures.account c.reserve.ensures.kept c.self.invariant

pub returns-in_err-reserve-clause-same : goal.returns-in_err-reserve-clause-same
returns-in_err-reserve-clause-same g c = roomier_state c.self.inside c.args.self.now c.in-Some.p c.at_mut.result.now _ c.self.view_is c.at_mut.ensures.value c.reserve.ensures.after

pub invariant_of-self-2 : goal.invariant_of-self-2
invariant_of-self-2 g c = held_mended c.self.inside c.in-Some.p c.at_mut.result.now _ c.in-Some.is c.at_mut.ensures.value c.reserve.ensures.after c.reserve.ensures.account c.in_ok-reserve.ensures.frame c.in_ok-reserve.ensures.ast c.self.invariant

pub returns-clause-same : goal.returns-clause-same
returns-clause-same g c = roomier_state c.self.inside c.args.self.now c.in-Some.p c.at_mut.result.now _ c.self.view_is c.at_mut.ensures.value c.reserve.ensures.after

pub returns-clause-spares : goal.returns-clause-spares
returns-clause-spares g c = spares_none (record c.self.inside { procs = with_item c.self.inside.procs (c.in-Some.p.0 - 1) c.reserve.new.self; short = None }) _ refl refl (invariant_of-self-2 g c)
