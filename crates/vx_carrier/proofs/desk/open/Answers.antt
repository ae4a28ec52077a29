use Rattle.std.proofs.Common.{sym, ◌∙◌}
use Rattle.vx_carrier.proofs.Opened.{open_beg}
use Rattle.vx_carrier.proofs.Running.{open_enabled, open_in}
use Rattle.vx_carrier.proofs.desk.open.Goals as goal

pub grow-requires-clause-enabled : goal.grow-requires-clause-enabled
grow-requires-clause-enabled g c = open_enabled c.args.exec.now.exec.state c.args.event c.requires.first

pub grow-requires-clause-home : goal.grow-requires-clause-home
grow-requires-clause-home g c = open_in c.args.exec.now c.args.event c.requires.first

pub returns-in-Beg-clause-opens : goal.returns-in-Beg-clause-opens
returns-in-Beg-clause-opens g c =
    let e = c.lease.ensures in
    open_beg c.requires.run.0 (record { leasing = c.args.exec.now; recs = c.args.recs.now.items }) c.args.event c.in-Beg.u c.lease.new.self c.grow.new.exec c.grow.new.recs.items c.lease.result c.grow.result c.requires.run.1 c.requires.first c.in-Beg.is (sym c.is_err.ensures.value ∙ c.if-is_err.false) c.grow.ensures.ok e.lease e.out e.none
