use Rattle.std.proofs.Common.{◌≡◌, take}
use Rattle.std.specs.List.{filter}
use Rattle.vx_judge.specs.OpenIds.{is_open_in}
use Rattle.vx_judge.proofs.open_ids.OpenIds.forget_ended.Given as goal

abbrev pub invariant-loop-id : goal.invariant-loop-id
invariant-loop-id l = l.left.items ≡ filter (is_open_in l.lives) (take l.id-index l.fn.self.ids.items)
