use Rattle.std.proofs.Common.{◌≡◌, ◌+◌, ◌-◌, ◌≤◌, length}
use Rattle.vx_base.specs.Services.{service_rows}
use Rattle.vx_check.proofs.Lines.{IsAt}
use Rattle.vx_check.proofs.following.follow.Given as goal

abbrev pub invariant-loop-alloc : goal.invariant-loop-alloc
invariant-loop-alloc l = record {
  rows : l.table ≡ service_rows;
  within : l.at ≤ length l.text;
  lines : l.line ≤ l.fn.line + l.at;
  counts : l.progress.count ≤ l.at;
  few : length l.exec.state.system.units ≤ 32;
  there : IsAt l.fn.exec.state l.exec l.progress l.line l.at l.fn.line l.text;
}

abbrev pub decreases-loop-alloc : goal.decreases-loop-alloc
decreases-loop-alloc l = length l.text - l.at
