-- How a list of places is read: each part is tested, and then all are read.
use Rattle.std.specs.Prelude.{ℕ, List, Bool, unwrap_or}
use Rattle.std.specs.Option.{is_some}
use Rattle.vx_words.specs.Places.{place_in}

abbrev pub is_place : List ℕ → Bool
is_place part = is_some (place_in part)

abbrev pub place_of : List ℕ → ℕ
place_of part = unwrap_or (place_in part) 0
