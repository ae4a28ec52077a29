use Rattle.std.proofs.Common.{◌≡◌, ◌+◌, ◌++◌, drop}
use Rattle.vx_lines.specs.Records.{ended_lines, records_lines}
use Rattle.vx_lines.proofs.print.print_records.Given as goal

abbrev pub invariant-loop-i : goal.invariant-loop-i
invariant-loop-i l = l.out ++ ended_lines (records_lines l.units (1 + l.i) (drop l.i l.recs)) ≡ l.fn.out ++ ended_lines (records_lines l.units 1 l.recs)
