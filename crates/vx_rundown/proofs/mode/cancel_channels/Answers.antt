use Rattle.vx_rundown.proofs.Cancelled.{cancelling_begun, cancelling_end, cancelling_fewer, cancelling_more, cancelling_room}
use Rattle.vx_rundown.proofs.mode.cancel_channels.Goals as goal

pub channels-init : goal.channels-init
channels-init g c = cancelling_begun c.args.p c.args.mode c.args.core.now c.requires.leaving c.requires.room

pub next_channel-requires : goal.next_channel-requires
next_channel-requires g c = c.channels.invariant.leaving.made

pub cancel_channel-requires-clause-requests : goal.cancel_channel-requires-clause-requests
cancel_channel-requires-clause-requests g c = record { stand = c.channels.invariant.leaving.sound.requests; order = c.channels.invariant.leaving.sound.request_ids }

pub cancel_channel-requires-clause-entries : goal.cancel_channel-requires-clause-entries
cancel_channel-requires-clause-entries g c = c.channels.invariant.leaving.sound.attention_ids

pub cancel_channel-requires-clause-room : goal.cancel_channel-requires-clause-room
cancel_channel-requires-clause-room g c = cancelling_room c.args.p c.args.mode c.args.core.now c.channels.core c.channels.after c.in-Some.n c.channels.invariant c.in-Some.ensures

pub channels-smaller : goal.channels-smaller
channels-smaller g c = cancelling_fewer c.args.p c.args.mode c.channels.core c.cancel_channel.new.core c.channels.after c.in-Some.n c.channels.invariant.leaving c.in-Some.ensures c.cancel_channel.ensures

pub channels-preserved : goal.channels-preserved
channels-preserved g c = cancelling_more c.args.p c.args.mode c.args.core.now c.channels.core c.cancel_channel.new.core c.channels.after c.in-Some.n c.channels.invariant c.in-Some.ensures c.cancel_channel.ensures

pub returns : goal.returns
returns g c = cancelling_end c.args.p c.args.mode c.args.core.now c.channels.core c.channels.after c.channels.invariant c.in_default.ensures
