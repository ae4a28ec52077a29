-- What the call of all commands but `run` answers and writes, and what it read for it.
use Rattle.std.specs.Prelude.{◌≡◌, ℕ, List, Option, None, Some}
use Rattle.std.specs.Io.KnownBytes.{Appends, Keeps}
use Rattle.vx_record.specs.Types.{Rec, System}
use Rattle.vx_check.specs.declared.verdict.Verdict.TheVariants as verdict
use Rattle.vx_commands.specs.Shown.{IsShowText}
use Rattle.vx_gen.specs.Generated.{generated}
use Rattle.vx_grammar.specs.Grammar.{Spells}
use Rattle.vx_host.specs.Streams.{TakesAll}
use Rattle.vx_journal.specs.ReadJournal.{IsJournal}
use Rattle.vx_journal.specs.declared.journal.Journal.{Journal}
use Rattle.vx_laws.specs.Laws.{KeepLaws}
use Rattle.vx_record.specs.Picked.{picked}
use Rattle.vx_record.specs.Runs.{IsRun, chosen}
use Rattle.vx_commands.specs.Reported.{IsReported, IsReportText}
use Rattle.vx_simulate.specs.Followed.{IsFollowText, LacksPlace}
use Rattle.vx_simulate.specs.Simulated.{IsSimText}
use Rattle.vx_simulate.specs.Summed.{IsGenText, full_run}
use Rattle.vx_commands.specs.Explored.{IsExploreText}
use Rattle.vx_tell.specs.Lines.{usage}
use Rattle.vx_tell.specs.Scripts.{OfScript}
use Rattle.vx_tell.specs.Unread.{IsUnread}
use Rattle.vx_tell.specs.declared.status.Status.{Status}
use Rattle.vx_tell.specs.declared.status.Status.TheVariants as status
use Rattle.vx_words.specs.Words.{command_of, size_of}
use Rattle.vx_words.specs.declared.command.Command.{Command}
use Rattle.vx_words.specs.declared.command.Command.TheVariants.{Sim, Follow, Explore, Show, Check}
use Rattle.vx_words.specs.declared.command.Options.{Options}
use Rattle.vx_words.specs.declared.command.Report.{Report}
use Rattle.vx_words.specs.declared.picks.Picks.{Picks}
use Rattle.vx_words.specs.declared.scope.Scope.{Scope}

-- Why each answer comes: by the words, and by what the source gave, which had the bytes `left` before the call and
-- `left_after` after it, and as many faults as `faults` and `faults_after`.

-- The words are no command's, and nothing was read.
pub record RefusesWords (words : List (List ℕ)) (left left_after : Option (List ℕ)) : Type 0 where
  pub form : command_of words ≡ None
  pub size : size_of words ≡ None
  pub kept : Keeps left left_after

-- The words are this command's, and its input was read whole: to the source's end, and within the limit.
pub record ReadsInput (words : List (List ℕ)) (command : Command) (left left_after : Option (List ℕ)) (input : List ℕ) : Type 0 where
  pub asked : command_of words ≡ Some command
  pub taken : TakesAll 67108864 left left_after input

-- what a command comes to on its input, by the status
abbrev pub IsCommandText : Command → List ℕ → Status → List ℕ → Type 0
IsCommandText (Sim options) input = OfScript (IsSimText options) input
IsCommandText (Follow picks) input = OfScript (IsFollowText picks) input
IsCommandText (Explore scope) input = OfScript (IsExploreText scope) input
IsCommandText Show input = OfScript IsShowText input
IsCommandText (Check report) input = IsReportText report input

-- What the words come to, by the status: of a command on its input; of `gen N`, for which nothing is read; or a line that tells why there is none.
pub data IsAnswer (words : List (List ℕ)) (left left_after : Option (List ℕ)) (faults faults_after : ℕ) : Status → List ℕ → Type 0 where
  of_input : (command : Command) (input : List ℕ) (status : Status) (text : List ℕ) → ReadsInput words command left left_after input → IsCommandText command input status text
      → IsAnswer words left left_after faults faults_after status text
  of_size : (size : ℕ) (status : Status) (text : List ℕ) → size_of words ≡ Some size → Keeps left left_after → IsGenText size status text
      → IsAnswer words left left_after faults faults_after status text
  of_words : RefusesWords words left left_after → IsAnswer words left left_after faults faults_after status.Words usage
  of_unread : (command : Command) (status : Status) (text : List ℕ) → command_of words ≡ Some command → IsUnread left left_after faults faults_after status text
      → IsAnswer words left left_after faults faults_after status text

-- `sim` or `gen` took a run whose records keep the six laws of transcripts; or `explore` told of runs that all keep them; or `check` or `draw` read one, whole or cut; or `show` took none; or
-- one was read that is not the machine's, or a place is not there, and the sink gained the report of that: with no status but Illegal
pub data IsLawful (words : List (List ℕ)) (left left_after held held_after : Option (List ℕ)) : Status → Type 0 where
  run_is_lawful : (status : Status) (options : Options) (input : List ℕ) (system : System) → ReadsInput words (Sim options) left left_after input → Spells input system
      → KeepLaws system (chosen system options.seed options.limit) → IsLawful words left left_after held held_after status
  followed_is_lawful : (status : Status) (picks : Picks) (input : List ℕ) (system : System) → ReadsInput words (Follow picks) left left_after input → Spells input system
      → KeepLaws system (picked system picks.places picks.limit) → IsLawful words left left_after held held_after status
  explored_are_lawful : (status : Status) (scope : Scope) (input : List ℕ) (system : System) → ReadsInput words (Explore scope) left left_after input → Spells input system
      → ((recs : List Rec) → IsRun system recs → KeepLaws system recs) → IsLawful words left left_after held held_after status
  summed_is_lawful : (status : Status) (n : ℕ) → size_of words ≡ Some n → KeepLaws (generated n) (chosen (generated n) full_run.seed full_run.limit) → IsLawful words left left_after held held_after status
  read_is_lawful : (status : Status) (report : Report) (input : List ℕ) (journal : Journal) → ReadsInput words (Check report) left left_after input → IsJournal input journal
      → KeepLaws journal.system journal.recs → IsLawful words left left_after held held_after status
  no_run : (status : Status) (input : List ℕ) → ReadsInput words Show left left_after input → IsLawful words left left_after held held_after status
  read_is_bad : (report : Report) (input : List ℕ) (n : ℕ) (text : List ℕ) → ReadsInput words (Check report) left left_after input → IsReported input report (verdict.Bad n) text
      → Appends held held_after text → IsLawful words left left_after held held_after status.Illegal
  place_is_missing : (picks : Picks) (input : List ℕ) (system : System) (text : List ℕ) → ReadsInput words (Follow picks) left left_after input → Spells input system
      → LacksPlace system picks text → Appends held held_after text → IsLawful words left left_after held held_after status.Illegal
