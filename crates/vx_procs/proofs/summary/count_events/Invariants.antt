use Rattle.std.proofs.Common.{ℕ, ◌+◌, ◌≤◌, drop, map}
use Rattle.vx_procs.specs.Own.{AreOwn}
use Rattle.vx_procs.specs.Processes.{process}
use Rattle.vx_procs.proofs.summary.count_events.Given as goal

abbrev pub invariant-loop-place : goal.invariant-loop-place
invariant-loop-place g l = record {
  few : l.count ≤ l.place;
  rest : (n : ℕ) → AreOwn n (map process (drop l.place l.procs)) → AreOwn (l.count + n) (map process l.procs);
}
