use Rattle.std.proofs.Common.{◌≡◌, drop}
use Rattle.std.specs.List.{find}
use Rattle.vx_judge.specs.Cells.{is_word_of}
use Rattle.vx_judge.proofs.cells.common_word.Given as goal

abbrev pub invariant-loop-x : goal.invariant-loop-x
invariant-loop-x l = find (is_word_of l.group l.name) l.items ≡ find (is_word_of l.group l.name) (drop l.x-index l.items)
