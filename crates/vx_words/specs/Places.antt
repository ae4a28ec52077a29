-- What LIST of `sim --picks LIST` says.
use Rattle.std.specs.Prelude.{ℕ, List, [], ◌∷◌, Bool, ◌==◌, Option, None, Some, map, option_map}
use Rattle.std.specs.List.{slice_split}
use Rattle.vx_lines.specs.Numbers.{number_up_to}

-- all of these, if each is there
abbrev pub all_of : List (Option ℕ) → Option (List ℕ)
all_of [] = Some []
all_of (None ∷ ns) = None
all_of (Some n ∷ ns) = option_map (λ ms. n ∷ ms) (all_of ns)

-- a place is 0 to 4294967295
abbrev pub place_in : List ℕ → Option ℕ
place_in word = number_up_to 4294967295 word

abbrev pub is_comma : ℕ → Bool
is_comma b = b == 44

-- one place or more, with one comma between two
abbrev pub places_in : List ℕ → Option (List ℕ)
places_in list = all_of (map place_in (slice_split is_comma list))
