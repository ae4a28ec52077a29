use Rattle.std.proofs.Common.{◌∙◌}
use Rattle.vx_record.specs.Parts.{nothing, part_of}
use Rattle.vx_record.specs.Rundown.{cancel_modes, cancelled_in, draining}
use Rattle.vx_procs.proofs.Rest.{room_first}
use Rattle.vx_rundown.specs.Steps.{drained}
use Rattle.vx_rundown.proofs.Entering.{drain_on, drained_at}
use Rattle.vx_rundown.proofs.Left.{leaving_acted}
use Rattle.vx_rundown.proofs.Modes.{cancel_made, cancelled_leaving, cancelled_phase}
use Rattle.vx_rundown.proofs.mode.cancel_and_drain.Goals as goal

pub cancel_modes-requires-clause-room : goal.cancel_modes-requires-clause-room
cancel_modes-requires-clause-room g c =
    let k = c.args.core.now in
    room_first k (cancel_modes k.state c.args.p c.args.mode) (λ a. nothing (draining c.args.p c.args.mode a)) (room_first k (cancelled_in k.state c.args.p c.args.mode) (λ s. part_of (drained c.args.p c.args.mode s)) c.requires.room)

pub set_phase-requires : goal.set_phase-requires
set_phase-requires g c = rw c.cancel_modes.ensures (cancel_made c.args.p c.args.mode c.args.core.now c.requires.leaving)

pub drain-requires-clause-leaving : goal.drain-requires-clause-leaving
drain-requires-clause-leaving g c =
    let k = c.args.core.now in
    leaving_acted k (cancelled_in k.state c.args.p c.args.mode) (drained_at k c.cancel_modes.new.core c.set_phase.new.self c.args.p c.args.mode c.cancel_modes.ensures c.set_phase.ensures) (cancelled_leaving c.args.p c.args.mode k c.requires.leaving)

pub drain-requires-clause-phase : goal.drain-requires-clause-phase
drain-requires-clause-phase g c =
    let k = c.args.core.now in
    rw (drained_at k c.cancel_modes.new.core c.set_phase.new.self c.args.p c.args.mode c.cancel_modes.ensures c.set_phase.ensures) (cancelled_phase c.args.p c.args.mode k c.requires.leaving)

pub drain-requires-clause-room : goal.drain-requires-clause-room
drain-requires-clause-room g c = (drain_on c.args.core.now c.cancel_modes.new.core c.set_phase.new.self c.args.p c.args.mode c.requires.room c.cancel_modes.ensures c.set_phase.ensures).doing.room

pub returns : goal.returns
returns g c =
    let on = drain_on c.args.core.now c.cancel_modes.new.core c.set_phase.new.self c.args.p c.args.mode c.requires.room c.cancel_modes.ensures c.set_phase.ensures in
    let did = c.drain.ensures in
    record { answers = did.answers ∙ on.answers; leaves = did.leaves ∙ on.doing.leaves }
