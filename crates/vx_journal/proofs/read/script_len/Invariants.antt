use Rattle.std.proofs.Common.{◌≡◌, ◌-◌, ◌≤◌, length, drop}
use Rattle.vx_lines.specs.ReadRecords.{fed_lines}
use Rattle.vx_journal.specs.ReadJournal.{len_before, script_len}
use Rattle.vx_journal.proofs.read.script_len.Given as goal

abbrev pub invariant-loop-at : goal.invariant-loop-at
invariant-loop-at l = record {
  within : l.at ≤ length l.text;
  len : len_before l.at (fed_lines (drop l.at l.text)) ≡ script_len l.text;
}

abbrev pub decreases-loop-at : goal.decreases-loop-at
decreases-loop-at l = length l.text - l.at
