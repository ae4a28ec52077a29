use Rattle.std.proofs.Common.{is_some, option_map}
use Rattle.vx_io.proofs.Opening.{box_moved, box_room, box_serving}
use Rattle.vx_io.proofs.accept.transfer.Goals as goal

pub move_message-requires-clause-serving : goal.move_message-requires-clause-serving
move_message-requires-clause-serving g c =
    let o = option_map g.R.Routine.tagged c.args.ast in
    box_serving c.args.core.now c.open-id.new.core c.args.p c.args.ask o c.args.device c.args.chan_mode c.in-Mailbox.b c.args.ask.func (is_some o) c.args.ask.len (record { is = c.in-Mailbox.is; did = c.open-id.ensures.does }) c.requires.opening c.requires.range

pub move_message-requires-clause-room : goal.move_message-requires-clause-room
move_message-requires-clause-room g c =
    let o = option_map g.R.Routine.tagged c.args.ast in
    box_room c.args.core.now c.open-id.new.core c.args.p c.args.ask o c.args.device c.args.chan_mode c.in-Mailbox.b c.open-id.result (record { is = c.in-Mailbox.is; did = c.open-id.ensures.does }) c.requires.opening.steady.order c.open-id.ensures.id c.requires.room

pub returns-in-Mailbox : goal.returns-in-Mailbox
returns-in-Mailbox g c =
    let o = option_map g.R.Routine.tagged c.args.ast in
    box_moved c.args.core.now c.open-id.new.core c.move_message.new.core c.args.p c.args.ask o c.args.device c.args.chan_mode c.in-Mailbox.b c.open-id.result (record { is = c.in-Mailbox.is; did = c.open-id.ensures.does }) c.requires.opening.steady.order c.open-id.ensures.id c.move_message.ensures
