use Rattle.vx_exec.proofs.Enabled.{own_iff, tick_iff, unit_iff}
use Rattle.vx_exec.proofs.events.is_enabled.Goals as goal

pub returns-in-Run : goal.returns-in-Run
returns-in-Run g c = own_iff c.args.core.now.state c.in-Run.p c.args.event c.in-Run.event c.has_event.result c.in-Run.is c.in-Run.event-is c.has_event.ensures.made c.has_event.ensures.has c.has_event.ensures.only

pub returns-in-Tick : goal.returns-in-Tick
returns-in-Tick g c = tick_iff c.args.core.now.state c.args.event c.timer_count.result c.in-Tick.is c.timer_count.ensures

pub returns-in-Beg : goal.returns-in-Beg
returns-in-Beg g c = unit_iff c.args.core.now.state c.in-Beg.u c.args.event c.in-Beg.event c.has_unit_event.result c.in-Beg.is c.in-Beg.event-is c.has_unit_event.ensures.made c.has_unit_event.ensures.has c.has_unit_event.ensures.only
