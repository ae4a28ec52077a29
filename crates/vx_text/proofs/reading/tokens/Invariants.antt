use Rattle.std.proofs.Common.{◌≡◌, ◌≤◌, ◌-◌, drop, length}
use Rattle.std.specs.List.{AllByRecursion}
use Rattle.vx_text.specs.Lex.{with_front, lex_from, lex, IsToken, AreInOrder}
use Rattle.vx_text.proofs.reading.tokens.Given as goal

abbrev pub invariant-loop-at : goal.invariant-loop-at
invariant-loop-at l = record {
  within : l.at ≤ length l.line;
  same : with_front l.found.items (lex_from 0 l.at (drop l.at l.line)) ≡ lex l.line;
  slices : AllByRecursion (IsToken l.line) l.found.items;
  order : AreInOrder 0 l.at l.found.items;
}

abbrev pub decreases-loop-at : goal.decreases-loop-at
decreases-loop-at l = length l.line - l.at
