use Rattle.vx_ctl.proofs.timers.open_timer.Goals as goal
use Rattle.vx_record.proofs.Lists.{mapped_some}

pub add_timer-requires-clause-within : goal.add_timer-requires-clause-within
add_timer-requires-clause-within g c = rw (c.tell.ensures, c.new_id-id.ensures.after, mapped_some g.R.Routine.tagged c.args.routine) c.requires.within
