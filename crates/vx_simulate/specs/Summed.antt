-- What `gen` comes to: the summary of a run.
use Rattle.std.specs.Prelude.{◌≡◌, ℕ, List, [], ◌∷◌, ◌++◌, codes, decimal, Some}
use Rattle.vx_record.specs.Types.{End, System}
use Rattle.vx_gen.specs.Counted.{tally_of}
use Rattle.vx_gen.specs.Generated.{generated}
use Rattle.vx_gen.specs.declared.tally.Tally.{Tally}
use Rattle.vx_journal.specs.Transcript.{end_line}
use Rattle.vx_lines.specs.Records.{ended_lines}
use Rattle.vx_record.specs.Runs.{IsRun, chosen, end_after}
use Rattle.vx_tell.specs.Code.{status_of_end}
use Rattle.vx_tell.specs.Lines.{no_memory}
use Rattle.vx_tell.specs.declared.status.Status.{Status}
use Rattle.vx_tell.specs.declared.status.Status.TheVariants as status
use Rattle.vx_words.specs.declared.command.Options.{Options}

-- The summary of a run, and how it ended.

abbrev pub count_line : List ℕ → ℕ → List ℕ
count_line word n = word ++ 32 ∷ decimal n

abbrev pub summary_lines : Tally → End → List (List ℕ)
summary_lines t end = count_line (codes "records") t.records ∷ count_line (codes "requests") t.requests ∷ count_line (codes "finished") t.finished ∷
    count_line (codes "asts") t.asts ∷ count_line (codes "time") t.time ∷ end_line end t.records ∷ []

abbrev pub summary : Tally → End → List ℕ
summary t end = ended_lines (summary_lines t end)

-- the options of a generated run
unfoldable pub full_run : Options
full_run = record { seed = 0; limit = 100000 }

-- What the seed chooses is a run of the machine, which has ended so; and the text is the summary of its records.
pub record IsSummed (system : System) (options : Options) (end : End) (text : List ℕ) : Type 0 where
  pub run : IsRun system (chosen system options.seed options.limit)
  pub ended : end_after system (chosen system options.seed options.limit) options.limit ≡ Some end
  pub spells : text ≡ summary (tally_of (chosen system options.seed options.limit)) end

-- What `gen` comes to: the summary of the generated system's run at seed 0 and limit 100,000. Or memory ran out.
pub data IsGenText (size : ℕ) : Status → List ℕ → Type 0 where
  summed : (end : End) (text : List ℕ) → IsSummed (generated size) full_run end text → IsGenText size (status_of_end end) text
  short : IsGenText size status.NoMemory no_memory
