use Rattle.std.proofs.Common.{◌≡◌, ◌+◌, ◌≤◌, length, drop}
use Rattle.vx_journal.specs.ReadJournal.{line_behind}
use Rattle.vx_journal.proofs.read.line_behind.Given as goal

abbrev pub invariant-loop-i : goal.invariant-loop-i
invariant-loop-i l = record {
  lines : l.number ≤ l.line + l.i;
  there : l.i ≤ length l.text;
  read : line_behind l.number (drop l.i l.front) (drop l.i l.text) ≡ line_behind l.line l.front l.text;
}
