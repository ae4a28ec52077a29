use Rattle.std.proofs.Common.{List, ap, refl, arith, sym, subst}
use Rattle.vx_record.specs.Types.{Handler}
use Rattle.vx_procs.specs.Kernel.{Kernel}
use Rattle.vx_procs.specs.Ready.{HasSpares}
use Rattle.vx_procs.specs.View.{process}
use Rattle.vx_procs.proofs.Changed.{made_in, roomier_state}
use Rattle.vx_procs.proofs.Left.{handler_room, spares_roomier}
use Rattle.vx_procs.proofs.Ops.{held_roomier}
use Rattle.vx_procs.proofs.procs.Core.make_handler_room.Goals as goal

pub invariant_of-self : goal.invariant_of-self
invariant_of-self g c =
    let r = c.at_mut.result.now in
    held_roomier c.self.inside c.args.p r _ (made_in c.self.inside c.args.self.now c.args.p c.self.view_is c.requires) c.at_mut.ensures.value (ap (λ (hs : List Handler). record (process r) { handlers = hs }) c.reserve.ensures.items) refl (record { frames = omega arith; asts = omega arith; handlers = c.reserve.ensures.kept }) c.self.invariant

pub invariant_of-self-2 : goal.invariant_of-self-2
invariant_of-self-2 g c =
    let r = c.at_mut.result.now in
    held_roomier c.self.inside c.args.p r _ (made_in c.self.inside c.args.self.now c.args.p c.self.view_is c.requires) c.at_mut.ensures.value (ap (λ (hs : List Handler). record (process r) { handlers = hs }) c.reserve.ensures.items) refl (record { frames = omega arith; asts = omega arith; handlers = c.reserve.ensures.kept }) c.self.invariant

pub returns-clause-same : goal.returns-clause-same
returns-clause-same g c =
    let r = c.at_mut.result.now in
    roomier_state c.self.inside c.args.self.now c.args.p r _ c.self.view_is c.at_mut.ensures.value (ap (λ (hs : List Handler). record (process r) { handlers = hs }) c.reserve.ensures.items)

pub returns-clause-spares : goal.returns-clause-spares
returns-clause-spares g c = λ spares.
    let r = c.at_mut.result.now in
    spares_roomier c.self.inside c.args.p r _ (made_in c.self.inside c.args.self.now c.args.p c.self.view_is c.requires) c.at_mut.ensures.value (ap (λ (hs : List Handler). record (process r) { handlers = hs }) c.reserve.ensures.items) refl refl (subst (λ (k : Kernel). HasSpares k) (sym c.self.view_is) spares)

pub returns-clause-room : goal.returns-clause-room
returns-clause-room g c = handler_room c.self.inside c.args.p _ (made_in c.self.inside c.args.self.now c.args.p c.self.view_is c.requires) c.in_ok-reserve.ensures.ok
