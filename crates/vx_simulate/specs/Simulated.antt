-- What the simulation of a system comes to: the run that a seed chooses, and its transcript.
use Rattle.std.specs.Prelude.{◌≡◌, ℕ, List, ◌++◌, Some}
use Rattle.vx_record.specs.Types.{End, System}
use Rattle.vx_journal.specs.Transcript.{transcript}
use Rattle.vx_lines.specs.Records.{ended_lines}
use Rattle.vx_record.specs.Runs.{IsRun, chosen, end_after}
use Rattle.vx_tell.specs.Code.{status_of_end}
use Rattle.vx_tell.specs.Lines.{no_memory}
use Rattle.vx_tell.specs.declared.status.Status.{Status}
use Rattle.vx_tell.specs.declared.status.Status.TheVariants as status
use Rattle.vx_words.specs.declared.command.Options.{Options}

-- What the seed chooses is a run of the machine from the system's first state, with at most as many records as the limit; it
-- has ended so; and the text is its transcript.
pub record IsSimulated (system : System) (options : Options) (end : End) (text : List ℕ) : Type 0 where
  pub run : IsRun system (chosen system options.seed options.limit)
  pub ended : end_after system (chosen system options.seed options.limit) options.limit ≡ Some end
  pub spells : text ≡ transcript system (chosen system options.seed options.limit) end

-- Memory ran out in that run: the text is whole lines from the front of its transcript, and then the line on memory.
pub record IsCut (system : System) (options : Options) (text : List ℕ) : Type 0 where
  pub end : End
  pub lines : List (List ℕ)
  pub rest : List ℕ
  pub simulated : IsSimulated system options end (ended_lines lines ++ rest)
  pub spells : text ≡ ended_lines lines ++ no_memory

-- what `sim` comes to of a system
pub data IsSimText (options : Options) (system : System) : Status → List ℕ → Type 0 where
  ran : (end : End) (text : List ℕ) → IsSimulated system options end text → IsSimText options system (status_of_end end) text
  cut : (text : List ℕ) → IsCut system options text → IsSimText options system status.NoMemory text
