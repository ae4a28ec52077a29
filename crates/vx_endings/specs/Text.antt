-- The text that tells how all runs end.
use Rattle.std.specs.Prelude.{ℕ, ◌+◌, List, [], ◌∷◌, ◌++◌, codes, decimal, flat_map, length}
use Rattle.vx_explore.specs.declared.answer.Answer.{Answer}
use Rattle.vx_explore.specs.declared.answer.Answer.TheVariants.{Told, Cut}
use Rattle.vx_explore.specs.declared.found.Found.{Found}
use Rattle.vx_lines.specs.Records.{ended_lines}
use Rattle.vx_journal.specs.Transcript.{end_word}
use Rattle.vx_endings.specs.declared.ending.RunEnding.{RunEnding}

-- each behind a comma
abbrev pub more_places : List ℕ → List ℕ
more_places places = flat_map (λ place. 44 ∷ decimal place) places

-- behind a space, with a comma between two
abbrev pub places_text : List ℕ → List ℕ
places_text [] = []
places_text (p ∷ ps) = 32 ∷ (decimal p ++ more_places ps)

-- the ending of this number: how it ended, and how many runs end so
abbrev pub head_line : ℕ → Found RunEnding → List ℕ
head_line n row = codes "ENDING " ++ (decimal n ++ 32 ∷ (end_word row.what.end ++ (codes " RUNS " ++ decimal row.ways)))

-- the places of the first run that ends so
abbrev pub picks_line : List ℕ → List ℕ
picks_line picks = codes " PICKS" ++ places_text picks

abbrev pub row_text : ℕ → Found RunEnding → List ℕ
row_text n row = ended_lines (head_line n row ∷ picks_line row.picks ∷ []) ++ row.what.trailer

-- endings, the first of them with the number n
abbrev pub rows_text : ℕ → List (Found RunEnding) → List ℕ
rows_text n [] = []
rows_text n (row ∷ rows) = row_text n row ++ rows_text (n + 1) rows

-- how the last line begins if all endings are told
unfoldable pub complete_words : List ℕ
complete_words = codes "explore complete limit"

-- the line of an exploration that was cut begins so
unfoldable pub cut_words : List ℕ
cut_words = codes "explore cut states"

abbrev pub complete_line : ℕ → ℕ → List ℕ
complete_line limit count = complete_words ++ 32 ∷ (decimal limit ++ (codes " endings " ++ decimal count))

abbrev pub cut_line : ℕ → List ℕ
cut_line states = cut_words ++ 32 ∷ decimal states

abbrev pub endings_text : ℕ → List (Found RunEnding) → List ℕ
endings_text limit rows = rows_text 1 rows ++ (complete_line limit (length rows) ++ 10 ∷ [])

-- what is told with this limit, or that it was cut with so many states
abbrev pub answer_text : ℕ → ℕ → Answer RunEnding → List ℕ
answer_text limit states (Told rows) = endings_text limit rows.items
answer_text limit states Cut = cut_line states ++ 10 ∷ []
