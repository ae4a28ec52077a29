use Rattle.std.proofs.Common.{◌≡◌, take}
use Rattle.std.specs.List.{filter}
use Rattle.vx_judge.specs.Readers.{waits_in}
use Rattle.vx_judge.proofs.readers.waiting.Given as goal

abbrev pub invariant-loop-id : goal.invariant-loop-id
invariant-loop-id l = l.left.items ≡ filter (waits_in l.lives l.requests l.name) (take l.id-index l.ids)
