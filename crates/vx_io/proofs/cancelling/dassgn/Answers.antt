use Rattle.vx_io.specs.Asking.{to_device}
use Rattle.vx_io.proofs.Freed.{cancel_first, clear_made, clear_number, clear_stands, clear_there, cleared_as, free_next}
use Rattle.vx_io.proofs.cancelling.dassgn.Goals as goal

pub cancel_channel-requires-clause-room : goal.cancel_channel-requires-clause-room
cancel_channel-requires-clause-room g c = cancel_first c.args.core.now c.args.p c.args.chan (to_device c.in-Ok.field-0.0 c.in-Ok.field-0.1) c.in-Ok.ensures.channel c.requires.room

pub free_channel-requires-clause-made : goal.free_channel-requires-clause-made
free_channel-requires-clause-made g c =
    clear_made c.args.core.now c.cancel_channel.new.core c.args.p c.args.chan (to_device c.in-Ok.field-0.0 c.in-Ok.field-0.1) (record { test = c.in-Ok.ensures.channel; did = c.cancel_channel.ensures }) c.requires.ready.made

pub free_channel-requires-clause-number : goal.free_channel-requires-clause-number
free_channel-requires-clause-number g c =
    clear_number c.args.core.now c.cancel_channel.new.core c.args.p c.args.chan (to_device c.in-Ok.field-0.0 c.in-Ok.field-0.1) (record { test = c.in-Ok.ensures.channel; did = c.cancel_channel.ensures })

pub free_channel-requires-clause-assigned : goal.free_channel-requires-clause-assigned
free_channel-requires-clause-assigned g c =
    clear_there c.args.core.now c.cancel_channel.new.core c.args.p c.args.chan (to_device c.in-Ok.field-0.0 c.in-Ok.field-0.1) (record { test = c.in-Ok.ensures.channel; did = c.cancel_channel.ensures })

pub free_channel-requires-clause-stands : goal.free_channel-requires-clause-stands
free_channel-requires-clause-stands g c =
    clear_stands c.args.core.now c.cancel_channel.new.core c.args.p c.args.chan (to_device c.in-Ok.field-0.0 c.in-Ok.field-0.1) (record { test = c.in-Ok.ensures.channel; did = c.cancel_channel.ensures }) c.requires.open.channels

pub free_channel-requires-clause-room : goal.free_channel-requires-clause-room
free_channel-requires-clause-room g c =
    free_next c.args.core.now c.cancel_channel.new.core c.args.p c.args.chan (to_device c.in-Ok.field-0.0 c.in-Ok.field-0.1) (record { test = c.in-Ok.ensures.channel; did = c.cancel_channel.ensures }) c.requires.room

pub returns-in-Ok : goal.returns-in-Ok
returns-in-Ok g c =
    cleared_as c.args.core.now c.cancel_channel.new.core c.free_channel.new.core c.args.p c.args.chan (to_device c.in-Ok.field-0.0 c.in-Ok.field-0.1) (record { test = c.in-Ok.ensures.channel; did = c.cancel_channel.ensures }) c.free_channel.ensures
