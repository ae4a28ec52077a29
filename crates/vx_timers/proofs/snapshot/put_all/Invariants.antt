use Rattle.std.proofs.Common.{◌≡◌, ◌≤◌, length, take}
use Rattle.vx_timers.proofs.snapshot.put_all.Given as goal

abbrev pub invariant-loop-due : goal.invariant-loop-due
invariant-loop-due g l = record {
  copied : l.timers.items ≡ take l.due-index l.dues;
  fits : length l.dues ≤ l.timers.capacity;
}
