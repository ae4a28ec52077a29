use Rattle.std.proofs.Common.{None, is_some, option_map}
use Rattle.vx_io.specs.Asking.{asked, to_device}
use Rattle.vx_io.proofs.Many.{asked_made}
use Rattle.vx_io.proofs.Opening.{opening_cleared}
use Rattle.vx_io.proofs.accept.accept.Goals as goal

pub ask_device-requires-clause-opening : goal.ask_device-requires-clause-opening
ask_device-requires-clause-opening g c =
    opening_cleared c.args.core.now c.clear.new.core c.args.p (asked c.args.ask None) c.args.to.cell c.args.to.device c.args.ask.func (is_some (option_map g.R.Routine.tagged c.args.ast)) c.args.ask.len c.requires.opening c.clear.ensures

pub returns-clause-made : goal.returns-clause-made
returns-clause-made g c =
    asked_made c.args.core.now c.clear.new.core c.ask_device.new.core c.args.p (asked c.args.ask None) (asked c.args.ask (option_map g.R.Routine.tagged c.args.ast)) c.args.to.cell (to_device c.args.to.device c.args.to.mode) c.requires.opening.made c.clear.ensures c.ask_device.ensures
