use Rattle.std.proofs.Common.{subst}
use Rattle.vx_simulate.specs.Picking.{tells_missing}
use Rattle.vx_simulate.specs.Followed.{followed, lacks}
use Rattle.vx_simulate.proofs.by_places.followed.Goals as goal

pub returns-in-Ok : goal.returns-in-Ok
returns-in-Ok c = rw c.from.ensures (followed c.in-Ok.end c.in-Ok.text c.in-Ok.ensures.done)

pub returns-in_ok-pick_line-in-Err-Missing : goal.returns-in_ok-pick_line-in-Err-Missing
returns-in_ok-pick_line-in-Err-Missing c = lacks c.in_ok-pick_line-in-Err-Missing.field-0 (record {
  n = c.in-Err-Missing.number;
  m = c.in-Err-Missing.count;
  missing = subst (tells_missing c.args.system c.args.picks.now.places c.args.picks.now.limit) c.in-Err-Missing.field-0-is c.in-Err-Missing.ensures.missing;
  spells = c.in_ok-pick_line-in-Err-Missing.ensures;
})
