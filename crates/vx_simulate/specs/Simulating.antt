-- A run that is written as it goes.
use Rattle.std.specs.Prelude.{◌≡◌, ℕ, List, [], ◌∷◌, ◌++◌, codes, Option}
use Rattle.std.specs.Io.KnownBytes.{Appends}
use Rattle.vx_record.specs.Types.{End, Rec, System}
use Rattle.vx_host.specs.Streams.{AppendsFront}
use Rattle.vx_lines.specs.Records.{ended_lines, records_lines}
use Rattle.vx_script.specs.Script.{script_lines}
use Rattle.vx_simulate.specs.Simulated.{IsSimulated}
use Rattle.vx_words.specs.declared.command.Options.{Options}

-- the lines of a transcript up to these records
abbrev pub lines_so_far : System → List Rec → List (List ℕ)
lines_so_far system recs = script_lines system ++ codes "$JOURNAL 1" ∷ records_lines system.units 1 recs

-- bytes that wait to be written stay, or the sink gained them and none wait
pub data Sends (held held_after : Option (List ℕ)) (pending : List ℕ) : List ℕ → Type 0 where
  kept : held_after ≡ held → Sends held held_after pending pending
  sent : Appends held held_after pending → Sends held held_after pending []

-- The sink gained the transcript of the run, which has ended so.
pub record GainsRun (system : System) (options : Options) (held held_after : Option (List ℕ)) (end : End) : Type 0 where
  pub text : List ℕ
  pub simulated : IsSimulated system options end text
  pub written : Appends held held_after text

-- The sink gained whole lines from the front of the transcript.
pub record GainsLines (system : System) (options : Options) (held held_after : Option (List ℕ)) : Type 0 where
  pub end : End
  pub lines : List (List ℕ)
  pub rest : List ℕ
  pub simulated : IsSimulated system options end (ended_lines lines ++ rest)
  pub written : Appends held held_after (ended_lines lines)

-- The sink gained the start of the transcript.
pub record GainsFront (system : System) (options : Options) (held held_after : Option (List ℕ)) : Type 0 where
  pub end : End
  pub text : List ℕ
  pub simulated : IsSimulated system options end text
  pub front : AppendsFront held held_after text
