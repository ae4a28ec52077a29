-- What the threads of `run` take of a system.
use Rattle.std.specs.Prelude.{◌≡◌, ℕ, List, Some}
use Rattle.vx_record.specs.Types.{End, Rec, System}
use Rattle.vx_journal.specs.Transcript.{transcript}
use Rattle.vx_record.specs.Runs.{IsRun, end_after}
use Rattle.vx_tell.specs.Code.{status_of_end}
use Rattle.vx_tell.specs.declared.status.Status.{Status}

-- Some records are a run of the machine from the system's first state; it has ended so, with at most as many records as the
-- limit; and the text is its transcript.
pub record IsCarriedText (system : System) (limit : ℕ) (end : End) (text : List ℕ) : Type 0 where
  pub recs : List Rec
  pub run : IsRun system recs
  pub ended : end_after system recs limit ≡ Some end
  pub spells : text ≡ transcript system recs end

-- what `run` comes to of a system
pub data IsRunText (limit : ℕ) (system : System) : Status → List ℕ → Type 0 where
  carried : (end : End) (text : List ℕ) → IsCarriedText system limit end text → IsRunText limit system (status_of_end end) text
