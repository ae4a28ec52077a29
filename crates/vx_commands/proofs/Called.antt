-- What `run` comes to, of the words and the source of the call.
use Rattle.std.proofs.Common.{◌≡◌, ℕ, List, Option, None, Some, refl, subst}
use Rattle.vx_commands.specs.Threads.{IsProgramAnswer, KeepsLawsInRun, ReadsForRun, of_quiet, of_threads, of_unread_for_run}
use Rattle.vx_commands.proofs.Lawful.{IsOfRun, ends}
use Rattle.vx_commands.specs.Top.{IsAnswer}
use Rattle.vx_laws.proofs.Whole.{every_run_lawful}
use Rattle.std.specs.Io.KnownBytes.{Appends}
use Rattle.vx_commands.specs.Carried.{IsRunText, carried}
use Rattle.vx_tell.proofs.Told.{told_as}
use Rattle.vx_tell.specs.Scripts.{OfScript, out_of_memory, no_script, of_system}
use Rattle.vx_tell.specs.Told.{Told, broken, whole}
use Rattle.vx_tell.specs.Unread.{IsUnread, failed, overflowed, short}
use Rattle.vx_tell.specs.declared.status.Status.{Status}
use Rattle.vx_tell.specs.declared.status.Status.TheVariants as status
use Rattle.vx_words.specs.Crew.{crew_of}
use Rattle.vx_words.specs.declared.crew.Crew.{Crew}

-- what other words come to
pub told_quiet : (words : List (List ℕ)) (left left_after : Option (List ℕ)) (faults faults_after counted counted_after : ℕ) (held held_after : Option (List ℕ)) (answer : Status) → crew_of words ≡ None → Told (IsAnswer words left left_after faults faults_after) counted counted_after held held_after answer → Told (IsProgramAnswer words left left_after faults faults_after) counted counted_after held held_after answer
told_quiet words left left_after faults faults_after counted counted_after held held_after answer none told =
    told_as (IsAnswer words left left_after faults faults_after) (IsProgramAnswer words left left_after faults faults_after) counted counted_after held held_after answer (λ s text is. of_quiet s text none is) told

-- what the threads come to on an input that was read for them
pub told_threads : (words : List (List ℕ)) (crew : Crew) (left left_after : Option (List ℕ)) (faults faults_after counted counted_after : ℕ) (held held_after : Option (List ℕ)) (answer : Status) (input : List ℕ) → ReadsForRun words crew left left_after input → Told (OfScript (IsRunText crew.limit) input) counted counted_after held held_after answer → Told (IsProgramAnswer words left left_after faults faults_after) counted counted_after held held_after answer
told_threads words crew left left_after faults faults_after counted counted_after held held_after answer input read told =
    told_as (OfScript (IsRunText crew.limit) input) (IsProgramAnswer words left left_after faults faults_after) counted counted_after held held_after answer (λ s text is. of_threads crew input s text read is) told

-- or of which the input was not read whole
pub told_not_read : (words : List (List ℕ)) (crew : Crew) (left left_after : Option (List ℕ)) (faults faults_after counted counted_after : ℕ) (held held_after : Option (List ℕ)) (answer : Status) → crew_of words ≡ Some crew → Told (IsUnread left left_after faults faults_after) counted counted_after held held_after answer → Told (IsProgramAnswer words left left_after faults faults_after) counted counted_after held held_after answer
told_not_read words crew left left_after faults faults_after counted counted_after held held_after answer asked told =
    told_as (IsUnread left left_after faults faults_after) (IsProgramAnswer words left left_after faults faults_after) counted counted_after held held_after answer (λ s text is. of_unread_for_run crew s text asked is) told

-- of that there is no run
pub never_unread : (left left_after : Option (List ℕ)) (faults faults_after counted counted_after : ℕ) (held held_after : Option (List ℕ)) (answer : Status) → Told (IsUnread left left_after faults faults_after) counted counted_after held held_after answer → IsOfRun answer → ⊥
never_unread left left_after faults faults_after counted counted_after held held_after answer (whole s text (failed took rose) written) e = ends status.ReadFault e
never_unread left left_after faults faults_after counted counted_after held held_after answer (whole s text (overflowed took) written) e = ends status.TooLong e
never_unread left left_after faults faults_after counted counted_after held held_after answer (whole s text short written) e = ends status.NoMemory e
never_unread left left_after faults faults_after counted counted_after held held_after answer (broken s text is front rose) e = ends status.WriteFault e

-- the records whose transcript was written keep the laws
threads_lawful : (words : List (List ℕ)) (crew : Crew) (left left_after held held_after : Option (List ℕ)) (input : List ℕ) (s : Status) (text : List ℕ) → ReadsForRun words crew left left_after input → OfScript (IsRunText crew.limit) input s text → IsOfRun s → Appends held held_after text → KeepsLawsInRun words left left_after held held_after s
threads_lawful words crew left left_after held held_after input s text read (of_system system _ _ says (carried end _ is)) e written = record {
  crew = crew;
  input = input;
  read = read;
  system = system;
  says = says;
  recs = is.recs;
  end = end;
  so = refl;
  written = subst (λ (l : List ℕ). Appends held held_after l) is.spells written;
  lawful = every_run_lawful system is.recs is.run;
}
threads_lawful words crew left left_after held held_after input s text read (no_script _ is) e written = absurd (ends status.Form e)
threads_lawful words crew left left_after held held_after input s text read out_of_memory e written = absurd (ends status.NoMemory e)

pub told_lawful : (words : List (List ℕ)) (crew : Crew) (left left_after : Option (List ℕ)) (counted counted_after : ℕ) (held held_after : Option (List ℕ)) (input : List ℕ) (answer : Status) → ReadsForRun words crew left left_after input → Told (OfScript (IsRunText crew.limit) input) counted counted_after held held_after answer → IsOfRun answer → KeepsLawsInRun words left left_after held held_after answer
told_lawful words crew left left_after counted counted_after held held_after input answer read (whole s text is written) e = threads_lawful words crew left left_after held held_after input s text read is e written
told_lawful words crew left left_after counted counted_after held held_after input answer read (broken s text is front rose) e = absurd (ends status.WriteFault e)
