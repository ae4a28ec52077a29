-- What a seed picks of a list of events, and the seed after it: the seed moves if there is an event to pick.
use Rattle.std.specs.Prelude.{ℕ, List, [], ◌∷◌, Option, Some, None}
use Rattle.vx_record.specs.Types.{Event}
use Rattle.vx_record.specs.Runs.{next_seed, pick}

abbrev pub picked_event : ℕ → List Event → Option Event
picked_event x [] = None
picked_event x (e ∷ es) = Some (pick x e es)

abbrev pub moved_seed : ℕ → List Event → ℕ
moved_seed x [] = x
moved_seed x (e ∷ es) = next_seed x
