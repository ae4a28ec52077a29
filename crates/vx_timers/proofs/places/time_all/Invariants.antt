use Rattle.std.proofs.Common.{◌≡◌, length, map, take}
use Rattle.vx_timers.specs.Places.{time_of}
use Rattle.vx_timers.proofs.places.time_all.Given as goal

-- the times so far
abbrev pub invariant-loop-at : goal.invariant-loop-at
invariant-loop-at g l = record {
  long : length l.times ≡ length l.places;
  timed : take l.at l.times ≡ map time_of (take l.at l.places);
}
