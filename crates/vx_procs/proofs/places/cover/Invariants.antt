use Rattle.std.proofs.Common.{◌≡◌, ℕ, ◌-◌, None, slice_index_or, vec_len}
use Rattle.vx_procs.proofs.places.cover.Given as goal

abbrev pub invariant-loop-places : goal.invariant-loop-places
invariant-loop-places g l = (i : ℕ) → slice_index_or l.places.items i None ≡ slice_index_or l.initial.places.items i None

abbrev pub decreases-loop-places : goal.decreases-loop-places
decreases-loop-places g l = l.things - vec_len l.places
