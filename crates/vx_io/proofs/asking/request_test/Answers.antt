use Rattle.std.proofs.Common.{option_map, sym, ◌∙◌}
use Rattle.vx_io.specs.Asking.{asked, to_device}
use Rattle.vx_io.proofs.Asked.{tested}
use Rattle.vx_io.proofs.asking.request_test.Goals as goal

pub returns-clause-test : goal.returns-clause-test
returns-clause-test g c =
    tested c.args.core.now.state c.args.p (asked c.args.ask.now (option_map g.R.Routine.tagged c.args.ast.now)) c.in_ok-cell.cell (to_device c.in_ok-device.device c.in_ok-device.mode) (sym c.is_bad.ensures.bad ∙ c.if-is_bad.false) c.in_ok-cell.ensures c.in_ok-device.ensures.channel
    ∙ c.device_test.ensures.test
