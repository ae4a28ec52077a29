use Rattle.vx_timers.specs.Seen.{passes}
use Rattle.vx_procs.proofs.Ended.{ending_begun, ending_end, ending_fewer, ending_more, ending_room}
use Rattle.vx_procs.proofs.timers.drop_timers.Goals as goal

pub timers-init : goal.timers-init
timers-init g c = ending_begun (passes c.args.which) c.args.core.now c.requires.order c.requires.room

pub tell-requires : goal.tell-requires
tell-requires g c = ending_room (passes c.args.which) c.args.core.now c.timers.core c.drop_timer.new.self c.in-Some.id c.timers.invariant c.in-Some.ensures.id c.drop_timer.ensures.after

pub timers-smaller : goal.timers-smaller
timers-smaller g c = rw c.tell.ensures (ending_fewer (passes c.args.which) c.timers.core c.drop_timer.new.self c.in-Some.id c.in-Some.ensures.id c.drop_timer.ensures.after)

pub timers-preserved : goal.timers-preserved
timers-preserved g c = ending_more (passes c.args.which) c.args.core.now c.timers.core c.drop_timer.new.self c.tell.new.self c.in-Some.id c.timers.invariant c.in-Some.ensures.id c.drop_timer.ensures.after c.tell.ensures

pub returns : goal.returns
returns g c = ending_end (passes c.args.which) c.args.core.now c.timers.core c.drop_timer.new.self c.timers.invariant c.in_default.ensures.id c.drop_timer.ensures.after
