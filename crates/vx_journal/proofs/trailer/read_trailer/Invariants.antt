use Rattle.std.proofs.Common.{◌≡◌, ◌+◌, ◌-◌, ◌≤◌, length, drop}
use Rattle.vx_lines.specs.ReadRecords.{fed_lines}
use Rattle.vx_journal.specs.TrailerLines.{read_trailer, trailer_lines_from}
use Rattle.vx_journal.proofs.trailer.read_trailer.Given as goal

abbrev pub invariant-loop-at : goal.invariant-loop-at
invariant-loop-at l = record {
  within : l.at ≤ length l.text;
  lines : l.number ≤ l.line + l.at;
  read : trailer_lines_from l.units l.number l.place (fed_lines (drop l.at l.text)) ≡ read_trailer l.units l.line l.text;
}

abbrev pub decreases-loop-at : goal.decreases-loop-at
decreases-loop-at l = length l.text - l.at
