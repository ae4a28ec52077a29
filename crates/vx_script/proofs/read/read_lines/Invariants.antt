use Rattle.std.proofs.Common.{◌≡◌, ◌+◌, ◌≤◌, length}
use Rattle.vx_script.specs.Lines.{lines_of}
use Rattle.vx_script.specs.Reading as spec
use Rattle.vx_script.proofs.read.read_lines.Given as goal

abbrev pub invariant-loop-rest : goal.invariant-loop-rest
invariant-loop-rest l = record {
  one : 1 ≤ l.line;
  few : l.line + length l.rest ≤ length l.text + 1;
  same : spec.read_lines l.line l.reading (lines_of l.rest) ≡ spec.read_lines 1 l.fn.reading (lines_of l.text);
}

abbrev pub decreases-loop-rest : goal.decreases-loop-rest
decreases-loop-rest l = length l.rest
