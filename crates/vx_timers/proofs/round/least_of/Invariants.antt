use Rattle.std.proofs.Common.{◌≡◌, drop}
use Rattle.vx_timers.specs.Rounds.{least_of, lesser_of}
use Rattle.vx_timers.proofs.round.least_of.Given as goal

-- the least so far and the least of the rest give the least of all
abbrev pub invariant-loop-time : goal.invariant-loop-time
invariant-loop-time l = lesser_of l.least (least_of (drop l.time-index l.times)) ≡ least_of l.times
