-- What the program's call answers and writes: for `run`, whose schedule its threads choose, and for the words of `quiet_call`.
use Rattle.std.specs.Prelude.{◌≡◌, ℕ, List, Option, None, Some}
use Rattle.std.specs.Io.KnownBytes.{Appends}
use Rattle.vx_record.specs.Types.{End, Rec, System}
use Rattle.vx_commands.specs.Top.{IsAnswer, IsLawful}
use Rattle.vx_grammar.specs.Grammar.{Spells}
use Rattle.vx_host.specs.Streams.{TakesAll}
use Rattle.vx_journal.specs.Transcript.{transcript}
use Rattle.vx_laws.specs.Laws.{KeepLaws}
use Rattle.vx_commands.specs.Carried.{IsRunText}
use Rattle.vx_tell.specs.Code.{status_of_end}
use Rattle.vx_tell.specs.Scripts.{OfScript}
use Rattle.vx_tell.specs.Unread.{IsUnread}
use Rattle.vx_tell.specs.declared.status.Status.{Status}
use Rattle.vx_words.specs.Crew.{crew_of}
use Rattle.vx_words.specs.declared.crew.Crew.{Crew}

-- The words are `run`'s, and its input was read whole: to the source's end, and within the limit.
pub record ReadsForRun (words : List (List ℕ)) (crew : Crew) (left left_after : Option (List ℕ)) (input : List ℕ) : Type 0 where
  pub asked : crew_of words ≡ Some crew
  pub taken : TakesAll 67108864 left left_after input

-- What the words come to, by the status: what `quiet_call` says, of words that are not `run`'s; or what the threads of `run` come to, of an
-- input that is a script; or a line that tells why there is none. `run` answers neither `Illegal` nor `Cut`.
pub data IsProgramAnswer (words : List (List ℕ)) (left left_after : Option (List ℕ)) (faults faults_after : ℕ) : Status → List ℕ → Type 0 where
  of_quiet : (status : Status) (text : List ℕ) → crew_of words ≡ None → IsAnswer words left left_after faults faults_after status text
      → IsProgramAnswer words left left_after faults faults_after status text
  of_threads : (crew : Crew) (input : List ℕ) (status : Status) (text : List ℕ) → ReadsForRun words crew left left_after input → OfScript (IsRunText crew.limit) input status text
      → IsProgramAnswer words left left_after faults faults_after status text
  of_unread_for_run : (crew : Crew) (status : Status) (text : List ℕ) → crew_of words ≡ Some crew → IsUnread left left_after faults faults_after status text
      → IsProgramAnswer words left left_after faults faults_after status text

-- The words are `run`'s, the input is the script of a system, and the sink gained the transcript of records that keep the six laws.
pub record KeepsLawsInRun (words : List (List ℕ)) (left left_after held held_after : Option (List ℕ)) (status : Status) : Type 0 where
  pub crew : Crew
  pub input : List ℕ
  pub read : ReadsForRun words crew left left_after input
  pub system : System
  pub says : Spells input system
  pub recs : List Rec
  pub end : End
  pub so : status ≡ status_of_end end
  pub written : Appends held held_after (transcript system recs end)
  pub lawful : KeepLaws system recs

-- what was written or read keeps the six laws, as `IsLawful` says, or those records do whose transcript `run` wrote
pub data AllLawful (words : List (List ℕ)) (left left_after held held_after : Option (List ℕ)) (status : Status) : Type 0 where
  is_lawful : IsLawful words left left_after held held_after status → AllLawful words left left_after held held_after status
  carried_is_lawful : KeepsLawsInRun words left left_after held held_after status → AllLawful words left left_after held held_after status
