-- What a list of places comes to of a system: the run that it chooses, or the place that is not there.
use Rattle.std.specs.Prelude.{◌≡◌, ℕ, List, [], ◌∷◌, ◌++◌, codes, decimal, Some}
use Rattle.vx_record.specs.Types.{End, System}
use Rattle.vx_journal.specs.Transcript.{transcript}
use Rattle.vx_record.specs.Picked.{IsMissing, picked}
use Rattle.vx_record.specs.Runs.{IsRun, end_after}
use Rattle.vx_tell.specs.Code.{status_of_end}
use Rattle.vx_tell.specs.declared.status.Status.{Status}
use Rattle.vx_tell.specs.declared.status.Status.TheVariants as status
use Rattle.vx_words.specs.declared.picks.Picks.{Picks}

-- the line of a place that is not there: record n has none of m enabled events
abbrev pub pick_line : ℕ → ℕ → List ℕ
pick_line n m = codes "vms: pick " ++ (decimal n ++ (codes " of " ++ (decimal m ++ 10 ∷ [])))

-- What the places choose is a run of the machine from the system's first state, with at most as many records as the limit; it
-- has ended so; and the text is its transcript.
pub record IsPickedText (system : System) (picks : Picks) (end : End) (text : List ℕ) : Type 0 where
  pub run : IsRun system (picked system picks.places picks.limit)
  pub ended : end_after system (picked system picks.places picks.limit) picks.limit ≡ Some end
  pub spells : text ≡ transcript system (picked system picks.places picks.limit) end

-- Record n of the run has no event at its place, and the text is the line that tells it.
pub record LacksPlace (system : System) (picks : Picks) (text : List ℕ) : Type 0 where
  pub n : ℕ
  pub m : ℕ
  pub missing : IsMissing system picks.places picks.limit n m
  pub spells : text ≡ pick_line n m

-- what `sim --picks` comes to of a system
pub data IsFollowText (picks : Picks) (system : System) : Status → List ℕ → Type 0 where
  followed : (end : End) (text : List ℕ) → IsPickedText system picks end text → IsFollowText picks system (status_of_end end) text
  lacks : (text : List ℕ) → LacksPlace system picks text → IsFollowText picks system status.Illegal text
