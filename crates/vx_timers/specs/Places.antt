-- Entries in places, of which some are empty.
use Rattle.std.specs.Prelude.{ℕ, ◌≡◌, ◌≤◌, Option, Some, None, List, [], ◌∷◌, length, map, option_map, slice_index_or}
use Rattle.vx_record.specs.Types.{Timer}

-- the entries, in the order of their places
abbrev pub entries : {A : Type 0} → List (Option A) → List A
entries [] = []
entries (None ∷ places) = entries places
entries (Some a ∷ places) = a ∷ entries places

-- when the entry of a place is due, if it has one
abbrev pub time_of : Option Timer → Option ℕ
time_of place = option_map (λ t. t.due) place

-- from this place on there is no entry
abbrev pub IsFree : {A : Type 0} → ℕ → List (Option A) → Type 0
IsFree {A} used places = (k : ℕ) → used ≤ k → slice_index_or places k None ≡ None

-- what is kept of the places: when each is due, from where on they are free, how many entries there are, and a room that they have
pub record IsKept (places : List (Option Timer)) (times : List (Option ℕ)) (used count room : ℕ) : Type 0 where
  pub timed : times ≡ map time_of places
  pub free : IsFree used places
  pub within : used ≤ length places
  pub counted : count ≡ length (entries places)
  pub wide : room ≤ length places
