use Rattle.std.proofs.Common.{arith}
use Rattle.vx_ctl.proofs.Ticking.{firing_begun, firing_end, firing_fewer, firing_more, firing_room}
use Rattle.vx_ctl.proofs.time.fire_due.Goals as goal

pub due-init : goal.due-init
due-init g c = firing_begun c.args.now c.args.core.now c.requires.timers c.requires.room

pub fire_first-requires-clause-past : goal.fire_first-requires-clause-past
fire_first-requires-clause-past g c = let time = c.due.invariant.timers.time in omega (arith, time)

pub fire_first-requires-clause-counted : goal.fire_first-requires-clause-counted
fire_first-requires-clause-counted g c = c.due.invariant.timers.counted

pub fire_first-requires-clause-room : goal.fire_first-requires-clause-room
fire_first-requires-clause-room g c = firing_room c.args.now c.args.core.now c.due.core c.due.invariant

pub due-smaller : goal.due-smaller
due-smaller g c = firing_fewer c.args.now c.args.core.now c.due.core c.fire_first.new.core c.due-test.ensures.found c.due.invariant c.due-test.ensures.fires

pub due-preserved : goal.due-preserved
due-preserved g c = firing_more c.args.now c.args.core.now c.due.core c.fire_first.new.core c.due-test.ensures.found c.due.invariant c.due-test.ensures.fires

pub returns : goal.returns
returns g c = firing_end c.args.now c.args.core.now c.due.core c.fire_first.new.core c.due-test.ensures.found c.due.invariant c.due-test.ensures.fires
