use Rattle.std.proofs.Common.{false, ap, sym, ◌∙◌}
use Rattle.vx_record.specs.Charges.{exceeds, timer_need}
use Rattle.vx_ctl.proofs.Flagged.{flagged_exceeds, flagged_made, flagged_spares}
use Rattle.vx_ctl.proofs.timers.setimr.Goals as goal

pub open_timer-requires-clause-made : goal.open_timer-requires-clause-made
open_timer-requires-clause-made g c = rw c.put_cell.ensures (flagged_made c.args.core.now.state c.in-Ok.cell false c.args.p c.requires.ready.made)

pub open_timer-requires-clause-spares : goal.open_timer-requires-clause-spares
open_timer-requires-clause-spares g c = flagged_spares c.args.core.now c.put_cell.new.core c.in-Ok.cell false c.requires.ready.spares c.put_cell.ensures

pub open_timer-requires-clause-within : goal.open_timer-requires-clause-within
open_timer-requires-clause-within g c =
    let s = c.args.core.now.state in
    rw c.put_cell.ensures
    (flagged_exceeds s c.in-Ok.cell false c.args.p _
    ∙ (ap (λ n. exceeds s c.args.p n) (sym (c.timer_need.ensures ∙ ap timer_need c.is_some.ensures)) ∙ (sym c.exceeds.ensures ∙ c.if-exceeds.false)))
