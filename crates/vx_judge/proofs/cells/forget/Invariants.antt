use Rattle.std.proofs.Common.{◌≡◌, not, take}
use Rattle.std.specs.List.{filter}
use Rattle.vx_judge.specs.Cells.{is_word_of}
use Rattle.vx_judge.proofs.cells.forget.Given as goal

abbrev pub invariant-loop-x : goal.invariant-loop-x
invariant-loop-x l = l.left.items ≡ filter (λ x. not (is_word_of l.group l.name x)) (take l.x-index l.fn.items.items)
