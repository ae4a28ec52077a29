use Rattle.vx_record.specs.Rundown.{any_handler, drop_handlers}
use Rattle.vx_record.specs.Timers.{drop_timers, is_wake_for}
use Rattle.vx_rundown.proofs.Left.{leaving_acted, leaving_handlers, leaving_timers}
use Rattle.vx_rundown.proofs.Standing.{own_handlers_at}
use Rattle.vx_rundown.proofs.rundown.end.Goals as goal

pub drop_handlers-requires-clause-ids : goal.drop_handlers-requires-clause-ids
drop_handlers-requires-clause-ids g c = own_handlers_at c.args.core.now.state c.args.p c.requires.leaving.sound c.requires.leaving.made

pub drop_timers-requires-clause-order : goal.drop_timers-requires-clause-order
drop_timers-requires-clause-order g c =
    let k = c.args.core.now in
    (leaving_acted k (drop_handlers k.state c.args.p any_handler) c.drop_handlers.ensures (leaving_handlers c.args.p any_handler k c.requires.leaving)).sound.timer_ids

pub set_phase-requires : goal.set_phase-requires
set_phase-requires g c =
    let k = c.args.core.now in
    let l = c.drop_handlers.new.core in
    let h = leaving_acted k (drop_handlers k.state c.args.p any_handler) c.drop_handlers.ensures (leaving_handlers c.args.p any_handler k c.requires.leaving) in
    rw c.tell.ensures (leaving_acted l (drop_timers (is_wake_for c.args.p) l.state) c.drop_timers.ensures (leaving_timers (is_wake_for c.args.p) h)).made
