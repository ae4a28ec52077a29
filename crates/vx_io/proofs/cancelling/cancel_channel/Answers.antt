use Rattle.vx_io.proofs.Freed.{cancellable, channel_cancelled, entries_after, entries_room, requests_room}
use Rattle.vx_io.proofs.cancelling.cancel_channel.Goals as goal

pub cancel_requests-requires-clause-open : goal.cancel_requests-requires-clause-open
cancel_requests-requires-clause-open g c = cancellable c.args.core.now.state c.requires.requests c.requires.entries

pub cancel_requests-requires-clause-room : goal.cancel_requests-requires-clause-room
cancel_requests-requires-clause-room g c = requests_room c.args.core.now c.args.p c.args.chan c.requires.room

pub drop_attentions-requires-clause-order : goal.drop_attentions-requires-clause-order
drop_attentions-requires-clause-order g c = entries_after c.args.core.now c.cancel_requests.new.core c.args.p c.args.chan c.requires.entries c.cancel_requests.ensures

pub drop_attentions-requires-clause-room : goal.drop_attentions-requires-clause-room
drop_attentions-requires-clause-room g c = entries_room c.args.core.now c.cancel_requests.new.core c.args.p c.args.chan c.cancel_requests.ensures c.requires.room

pub returns : goal.returns
returns g c = channel_cancelled c.args.core.now c.cancel_requests.new.core c.drop_attentions.new.core c.args.p c.args.chan c.cancel_requests.ensures c.drop_attentions.ensures
