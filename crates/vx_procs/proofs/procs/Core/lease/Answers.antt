use Rattle.std.proofs.Common.{◌<◌, arith, subst, sym}
use Rattle.vx_record.specs.Types.{DeviceUnit}
use Rattle.vx_procs.proofs.Leased.{busy_id, ending_made, held_asked_same, if_none, if_some, lease_of, not_to_lease, on_some, unit_stayed, unit_stood}
use Rattle.vx_procs.proofs.Requested.{seen_unit}
use Rattle.vx_procs.specs.Leases.{IsLeaseOf}
use Rattle.vx_procs.specs.Units.{IsTakenOf}
use Rattle.vx_units.specs.Leases.{Out}
use Rattle.vx_procs.proofs.procs.Core.lease.Goals as goal

pub index_mut-requires : goal.index_mut-requires
index_mut-requires g c = omega (arith, (busy_id c.self.inside c.args.u _ c.self.invariant c.in-Some.ensures).1.within)

pub lease-requires : goal.lease-requires
lease-requires g c =
    let busy = (busy_id c.self.inside c.args.u _ c.self.invariant c.in-Some.ensures).1 in
    subst (λ (d : DeviceUnit). d.services < 4294967295) (sym (seen_unit c.self.inside c.args.self.now c.args.u c.index_mut.result.now c.self.view_is busy.within c.index_mut.ensures.value).0) c.requires

pub invariant_of-self : goal.invariant_of-self
invariant_of-self g c =
    let busy = (busy_id c.self.inside c.args.u _ c.self.invariant c.in-Some.ensures).1 in
    held_asked_same c.self.inside c.args.self.now c.args.u c.index_mut.result.now c.lease.new.self c.self.view_is busy.within c.index_mut.ensures.value c.lease.ensures.asked c.self.invariant

pub returns-in-Some-clause-lease : goal.returns-in-Some-clause-lease
returns-in-Some-clause-lease g c =
    let busy = busy_id c.self.inside c.args.u _ c.self.invariant c.in-Some.ensures in
    if_some (IsTakenOf c.index_mut.result.now c.args.u) (IsLeaseOf c.args.self.now c.args.u) c.lease.result (λ lease taken. lease_of c.self.inside c.args.self.now c.args.u busy.0 c.index_mut.result.now lease c.self.view_is busy.1 c.index_mut.ensures.value taken) c.lease.ensures.lease

pub returns-in-Some-clause-out : goal.returns-in-Some-clause-out
returns-in-Some-clause-out g c =
    let busy = busy_id c.self.inside c.args.u _ c.self.invariant c.in-Some.ensures in
    let asked = ending_made c.self.inside c.args.self.now c.args.u busy.0 c.self.view_is busy.1 in
    on_some c.lease.result (λ after. (asked, unit_stood c.self.inside c.args.self.now c.args.u c.index_mut.result.now c.lease.new.self Out c.self.view_is busy.1.within c.index_mut.ensures.value after)) c.lease.ensures.out

pub returns-in-Some-clause-kept : goal.returns-in-Some-clause-kept
returns-in-Some-clause-kept g c = if_none c.lease.result (λ same. unit_stayed c.self.inside c.args.self.now c.args.u c.index_mut.result.now c.lease.new.self c.self.view_is c.index_mut.ensures.value same) c.lease.ensures.kept

pub returns-in-Some-clause-none : goal.returns-in-Some-clause-none
returns-in-Some-clause-none g c =
    let busy = busy_id c.self.inside c.args.u _ c.self.invariant c.in-Some.ensures in
    if_none c.lease.result (λ none. not_to_lease c.self.inside c.args.self.now c.args.u busy.0 c.index_mut.result.now c.self.view_is busy.1 c.index_mut.ensures.value none) c.lease.ensures.none
