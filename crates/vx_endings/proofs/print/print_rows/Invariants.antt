use Rattle.std.proofs.Common.{◌≡◌, ◌+◌, ◌++◌, drop}
use Rattle.vx_endings.specs.Text.{rows_text}
use Rattle.vx_endings.proofs.print.print_rows.Given as goal

abbrev pub invariant-loop-i : goal.invariant-loop-i
invariant-loop-i l = l.out ++ rows_text (1 + l.i) (drop l.i l.rows) ≡ l.fn.out ++ rows_text 1 l.rows
