use Rattle.std.proofs.Common.{◌≡◌, ◌+◌, ◌-◌, ◌≤◌, length, drop}
use Rattle.vx_base.specs.Services.{service_rows}
use Rattle.vx_lines.specs.ReadRecords.{read_lines, nothing_read, fed_lines}
use Rattle.vx_lines.proofs.read.read_records.Given as goal

abbrev pub invariant-loop-alloc : goal.invariant-loop-alloc
invariant-loop-alloc l = record {
  rows : l.table ≡ service_rows;
  within : l.at ≤ length l.text;
  lines : l.line ≤ l.fn.line + l.at;
  read : read_lines l.units l.line l.at l.reading (fed_lines (drop l.at l.text)) ≡ read_lines l.units l.fn.line 0 nothing_read (fed_lines l.text);
}

abbrev pub decreases-loop-alloc : goal.decreases-loop-alloc
decreases-loop-alloc l = length l.text - l.at
