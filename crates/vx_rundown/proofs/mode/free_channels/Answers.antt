use Rattle.vx_rundown.proofs.Freed.{freeing_begun, freeing_end, freeing_fewer, freeing_more, freeing_number, freeing_room, freeing_stands, next_here}
use Rattle.vx_rundown.proofs.mode.free_channels.Goals as goal

pub channels-init : goal.channels-init
channels-init g c = freeing_begun c.args.p c.args.mode c.args.core.now c.requires.leaving c.requires.drained c.requires.room

pub next_channel-requires : goal.next_channel-requires
next_channel-requires g c = c.channels.invariant.leaving.made

pub free_channel-requires-clause-made : goal.free_channel-requires-clause-made
free_channel-requires-clause-made g c = c.channels.invariant.leaving.made

pub free_channel-requires-clause-number : goal.free_channel-requires-clause-number
free_channel-requires-clause-number g c = freeing_number c.args.p c.args.mode c.args.core.now c.channels.core c.in-Some.n c.channels.invariant c.in-Some.ensures

pub free_channel-requires-clause-assigned : goal.free_channel-requires-clause-assigned
free_channel-requires-clause-assigned g c = (next_here c.args.p c.args.mode c.channels.core c.in-Some.n c.channels.invariant.leaving c.channels.invariant.released c.in-Some.ensures).1.at.there

pub free_channel-requires-clause-stands : goal.free_channel-requires-clause-stands
free_channel-requires-clause-stands g c = freeing_stands c.args.p c.channels.core c.in-Some.n c.channels.invariant.leaving

pub free_channel-requires-clause-room : goal.free_channel-requires-clause-room
free_channel-requires-clause-room g c = freeing_room c.args.p c.args.mode c.args.core.now c.channels.core c.in-Some.n c.channels.invariant c.in-Some.ensures

pub channels-smaller : goal.channels-smaller
channels-smaller g c = freeing_fewer c.args.p c.args.mode c.args.core.now c.channels.core c.free_channel.new.core c.in-Some.n c.channels.invariant c.in-Some.ensures c.free_channel.ensures

pub channels-preserved : goal.channels-preserved
channels-preserved g c = freeing_more c.args.p c.args.mode c.args.core.now c.channels.core c.free_channel.new.core c.in-Some.n c.channels.invariant c.in-Some.ensures c.free_channel.ensures

pub returns : goal.returns
returns g c = freeing_end c.args.p c.args.mode c.args.core.now c.channels.core c.channels.invariant c.in_default.ensures
