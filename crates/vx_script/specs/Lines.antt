-- The lines of a text.
use Rattle.std.specs.Prelude.{ℕ, ◌==◌, ◌&&◌, Bool, false, List, [], ◌∷◌, if◌then◌else◌}
use Rattle.std.specs.List.{onto_first}

abbrev pub begins_with : ℕ → List ℕ → Bool
begins_with b [] = false
begins_with b (c ∷ bytes) = c == b

-- Lines end with a line feed; the last may lack it. A return in front of a line feed is dropped.
unfoldable pub lines_of : List ℕ → List (List ℕ)
lines_of [] = []
lines_of (b ∷ bytes) = if b == 10 then [] ∷ lines_of bytes else (if (b == 13) && begins_with 10 bytes then lines_of bytes else onto_first b (lines_of bytes))
