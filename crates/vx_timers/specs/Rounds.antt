-- Times, each of which may be missing, and the lesser of each two.
use Rattle.std.specs.Prelude.{ℕ, ◌≡◌, ◌<◌, Bool, false, Option, Some, None, List, [], ◌∷◌, length, nat_le, if◌then◌else◌}

-- the lesser of two times, if each may be missing
abbrev pub lesser_of : Option ℕ → Option ℕ → Option ℕ
lesser_of None b = b
lesser_of (Some a) None = Some a
lesser_of (Some a) (Some b) = if nat_le a b then Some a else Some b

-- the least of a list
abbrev pub least_of : List (Option ℕ) → Option ℕ
least_of [] = None
least_of (a ∷ times) = lesser_of a (least_of times)

-- a time is there and has come
abbrev pub is_by : ℕ → Option ℕ → Bool
is_by now None = false
is_by now (Some time) = nat_le time now

-- the lesser of each two neighbours; the last of an odd number stays
abbrev pub winners : List (Option ℕ) → List (Option ℕ)
winners [] = []
winners (a ∷ []) = a ∷ []
winners (a ∷ b ∷ times) = lesser_of a b ∷ winners times

-- these are the times of the next round of a tournament
pub record IsNext (times next : List (Option ℕ)) : Type 0 where
  pub winners : next ≡ winners times
  pub fewer : length next < length times
