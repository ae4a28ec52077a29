use Rattle.std.proofs.Common.{◌≡◌, List, map, take}
use Rattle.vx_laws.specs.Items.{Item, Did, later}
use Rattle.vx_laws.specs.Values.{status_by}
use Rattle.vx_record.specs.Flags.{is_filled}
use Rattle.vx_judge.proofs.values.filled_behind.Given as goal

abbrev pub invariant-loop-effect : goal.invariant-loop-effect
invariant-loop-effect l = (past : List Item) → l.first ≡ is_filled (status_by past l.p l.i) → l.filled ≡ is_filled (status_by (later past (map Did (take l.effect-index l.effects))) l.p l.i)
