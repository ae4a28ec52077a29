-- What the words come to.
use Rattle.std.proofs.Common.{◌≡◌, ℕ, List, Option, None, Some, sym, ◌∙◌}
use Rattle.std.specs.Io.KnownBytes.{Keeps}
use Rattle.std.specs.Option.{IsSome}
use Rattle.vx_commands.specs.Top.{IsAnswer, IsCommandText, ReadsInput, of_input, of_size, of_unread}
use Rattle.vx_simulate.specs.Summed.{IsGenText}
use Rattle.vx_tell.proofs.Told.{told_as}
use Rattle.vx_tell.specs.Lines.{no_memory}
use Rattle.vx_tell.specs.Told.{Told}
use Rattle.vx_tell.specs.Unread.{IsUnread, short}
use Rattle.vx_tell.specs.declared.status.Status.{Status}
use Rattle.vx_tell.specs.declared.status.Status.TheVariants.{NoMemory}
use Rattle.vx_words.specs.Words.{command_of, size_of}
use Rattle.vx_words.specs.declared.command.Command.{Command}

-- the words ask for this command
pub asks : (words : List (List ℕ)) (answer : Option Command) (command : Command) → answer ≡ command_of words → answer ≡ Some command → command_of words ≡ Some command
asks words answer command h k = sym h ∙ k

-- what a command comes to on an input that was read for it
pub told_input : (words : List (List ℕ)) (command : Command) (left left_after : Option (List ℕ)) (faults faults_after counted counted_after : ℕ) (held held_after : Option (List ℕ)) (answer : Status) (input : List ℕ) → ReadsInput words command left left_after input → Told (IsCommandText command input) counted counted_after held held_after answer → Told (IsAnswer words left left_after faults faults_after) counted counted_after held held_after answer
told_input words command left left_after faults faults_after counted counted_after held held_after answer input read told =
    told_as (IsCommandText command input) (IsAnswer words left left_after faults faults_after) counted counted_after held held_after answer (λ s text is. of_input command input s text read is) told

-- what `gen` comes to, for which nothing was read
pub told_size : (words : List (List ℕ)) (size : ℕ) (left left_after : Option (List ℕ)) (faults faults_after counted counted_after : ℕ) (held held_after : Option (List ℕ)) (answer : Status) → size_of words ≡ Some size → Keeps left left_after → Told (IsGenText size) counted counted_after held held_after answer → Told (IsAnswer words left left_after faults faults_after) counted counted_after held held_after answer
told_size words size left left_after faults faults_after counted counted_after held held_after answer asked kept told =
    told_as (IsGenText size) (IsAnswer words left left_after faults faults_after) counted counted_after held held_after answer (λ s text is. of_size size s text asked kept is) told

-- the words are a command's, of which memory ran out
pub ran_out : (words : List (List ℕ)) (left left_after : Option (List ℕ)) (faults faults_after : ℕ) (answer : Option Command) → command_of words ≡ answer → IsSome answer → IsAnswer words left left_after faults faults_after NoMemory no_memory
ran_out words left left_after faults faults_after None is there = absurd (cc)
ran_out words left left_after faults faults_after (Some command) is there = of_unread command NoMemory no_memory is short

-- or of which the input was not read whole
pub told_not_read : (words : List (List ℕ)) (command : Command) (left left_after : Option (List ℕ)) (faults faults_after counted counted_after : ℕ) (held held_after : Option (List ℕ)) (answer : Status) → command_of words ≡ Some command → Told (IsUnread left left_after faults faults_after) counted counted_after held held_after answer → Told (IsAnswer words left left_after faults faults_after) counted counted_after held held_after answer
told_not_read words command left left_after faults faults_after counted counted_after held held_after answer asked told =
    told_as (IsUnread left left_after faults faults_after) (IsAnswer words left left_after faults faults_after) counted counted_after held held_after answer (λ s text is. of_unread command s text asked is) told
