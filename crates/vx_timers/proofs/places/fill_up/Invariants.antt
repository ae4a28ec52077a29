use Rattle.std.proofs.Common.{◌≡◌, ◌-◌, ◌≤◌, length, vec_capacity, vec_len}
use Rattle.vx_timers.specs.Places.{entries, IsFree}
use Rattle.vx_timers.proofs.places.fill_up.Given as goal

-- no entry comes, and there are not too many places
abbrev pub invariant-loop-places : goal.invariant-loop-places
invariant-loop-places g l = record {
  same : entries l.places.items ≡ entries l.initial.places.items;
  free : IsFree (length l.initial.places.items) l.places.items;
  within : length l.places.items ≤ l.len;
  room : l.len ≤ vec_capacity l.places;
}

abbrev pub decreases-loop-places : goal.decreases-loop-places
decreases-loop-places g l = l.len - vec_len l.places
