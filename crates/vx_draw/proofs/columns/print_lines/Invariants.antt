use Rattle.std.proofs.Common.{◌≡◌, ◌+◌, ◌++◌, drop}
use Rattle.vx_draw.specs.Columns.{lines}
use Rattle.vx_draw.proofs.columns.print_lines.Given as goal

abbrev pub invariant-loop-i : goal.invariant-loop-i
invariant-loop-i l = l.out ++ lines l.rule.text.now l.rule.processes (1 + l.i) (drop l.i l.recs) ≡ l.fn.out ++ lines l.rule.text.now l.rule.processes 1 l.recs
