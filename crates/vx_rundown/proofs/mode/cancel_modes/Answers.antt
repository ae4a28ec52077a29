use Rattle.vx_base.specs.Channels.{channels_of}
use Rattle.vx_record.specs.Rundown.{is_timer_in, is_wake_by}
use Rattle.vx_record.specs.State.{process_at}
use Rattle.vx_record.specs.Timers.{drop_timers}
use Rattle.vx_rundown.proofs.Cancelled.{cancel_all, leaving_cancels}
use Rattle.vx_rundown.proofs.Left.{leaving_acted, leaving_timers}
use Rattle.vx_rundown.proofs.Modes.{three_parts}
use Rattle.vx_rundown.proofs.mode.cancel_modes.Goals as goal

pub cancel_channels-requires-clause-room : goal.cancel_channels-requires-clause-room
cancel_channels-requires-clause-room g c = (three_parts c.args.core.now (cancel_all c.args.p c.args.mode c.args.core.now.state) (drop_timers (is_timer_in c.args.p c.args.mode)) (drop_timers (is_wake_by c.args.p)) c.requires.room).0

pub drop_timers-requires-clause-order : goal.drop_timers-requires-clause-order
drop_timers-requires-clause-order g c =
    let k = c.args.core.now in
    (leaving_acted k (cancel_all c.args.p c.args.mode k.state) c.cancel_channels.ensures (leaving_cancels c.args.p (channels_of c.args.mode (process_at k.state c.args.p).channels) k c.requires.leaving)).sound.timer_ids

pub drop_timers-requires-clause-room : goal.drop_timers-requires-clause-room
drop_timers-requires-clause-room g c = ((three_parts c.args.core.now (cancel_all c.args.p c.args.mode c.args.core.now.state) (drop_timers (is_timer_in c.args.p c.args.mode)) (drop_timers (is_wake_by c.args.p)) c.requires.room).1 c.cancel_channels.new.core c.cancel_channels.ensures).0

pub drop_timers-requires-2-clause-order : goal.drop_timers-requires-2-clause-order
drop_timers-requires-2-clause-order g c =
    let k = c.args.core.now in
    let l = c.cancel_channels.new.core in
    let h = leaving_acted k (cancel_all c.args.p c.args.mode k.state) c.cancel_channels.ensures (leaving_cancels c.args.p (channels_of c.args.mode (process_at k.state c.args.p).channels) k c.requires.leaving) in
    (leaving_acted l (drop_timers (is_timer_in c.args.p c.args.mode) l.state) c.drop_timers.ensures (leaving_timers (is_timer_in c.args.p c.args.mode) h)).sound.timer_ids

pub drop_timers-requires-2-clause-room : goal.drop_timers-requires-2-clause-room
drop_timers-requires-2-clause-room g c = (((three_parts c.args.core.now (cancel_all c.args.p c.args.mode c.args.core.now.state) (drop_timers (is_timer_in c.args.p c.args.mode)) (drop_timers (is_wake_by c.args.p)) c.requires.room).1 c.cancel_channels.new.core c.cancel_channels.ensures).1 c.drop_timers.new.core c.drop_timers.ensures).0

pub returns : goal.returns
returns g c = (((three_parts c.args.core.now (cancel_all c.args.p c.args.mode c.args.core.now.state) (drop_timers (is_timer_in c.args.p c.args.mode)) (drop_timers (is_wake_by c.args.p)) c.requires.room).1 c.cancel_channels.new.core c.cancel_channels.ensures).1 c.drop_timers.new.core c.drop_timers.ensures).1 c.drop_timers-2.new.core c.drop_timers-2.ensures
