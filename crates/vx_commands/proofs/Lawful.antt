-- The records that are told of keep the six laws.
use Rattle.std.proofs.Common.{◌≡◌, ◌⊎◌, inl, inr, ℕ, List, Option, subst, sym}
use Rattle.std.specs.Io.KnownBytes.{Appends}
use Rattle.vx_check.specs.Verdict.{IsVerdict, of_record, of_run}
use Rattle.vx_check.specs.declared.verdict.Verdict.{Verdict}
use Rattle.vx_commands.specs.Shown.{shown}
use Rattle.vx_commands.specs.Top.{IsAnswer, IsLawful, ReadsInput, explored_are_lawful, followed_is_lawful, no_run, of_input, of_size, of_unread, of_words, place_is_missing, read_is_bad, read_is_lawful, run_is_lawful, summed_is_lawful}
use Rattle.vx_gen.specs.Generated.{generated}
use Rattle.vx_laws.proofs.Whole.{every_run_lawful}
use Rattle.vx_record.specs.Picked.{picked}
use Rattle.vx_record.specs.Runs.{chosen}
use Rattle.vx_commands.specs.Reported.{IsReported, judged, refused, short as short_of_report, status_of}
use Rattle.vx_simulate.specs.Followed.{followed, lacks}
use Rattle.vx_simulate.specs.Simulated.{cut, ran}
use Rattle.vx_simulate.specs.Summed.{full_run, short, summed}
use Rattle.vx_commands.specs.Explored.{cut as cut_short, told}
use Rattle.vx_tell.specs.Code.{status_of_end}
use Rattle.vx_tell.specs.Scripts.{out_of_memory, no_script, of_system}
use Rattle.vx_tell.specs.Told.{Told, broken, whole}
use Rattle.vx_tell.specs.Unread.{failed, overflowed, short as short_of_input}
use Rattle.vx_tell.specs.declared.status.Status.{Status}
use Rattle.vx_tell.specs.declared.status.Status.TheVariants as status
use Rattle.vx_words.specs.declared.command.Command.TheVariants.{Sim, Follow, Explore, Show, Check}
use Rattle.vx_words.specs.declared.command.Report.{Report}

-- the status of a run that has ended, or of a report or a line that tells what is wrong
abbrev pub IsOfRun : Status → Type 0
IsOfRun s = (s ≡ status.Done) ⊎ (s ≡ status.Hung) ⊎ (s ≡ status.Limit) ⊎ (s ≡ status.Illegal)

-- these four statuses, and no other
abbrev pub Ends : Status → Type 0
Ends status.Done = Unit {0}
Ends status.Hung = Unit {0}
Ends status.Limit = Unit {0}
Ends status.Illegal = Unit {0}
Ends other = ⊥

pub ends : (s : Status) → IsOfRun s → Ends s
ends s (inl h) = subst Ends (sym h) tt
ends s (inr (inl h)) = subst Ends (sym h) tt
ends s (inr (inr (inl h))) = subst Ends (sym h) tt
ends s (inr (inr (inr h))) = subst Ends (sym h) tt

-- records that are a run keep the laws, whatever the verdict; others have the verdict bad
judged_lawful : (words : List (List ℕ)) (left left_after held held_after : Option (List ℕ)) (report : Report) (input : List ℕ) (verdict : Verdict) (text : List ℕ) → ReadsInput words (Check report) left left_after input → (reported : IsReported input report verdict text) → IsVerdict reported.journal verdict → Appends held held_after text → IsLawful words left left_after held held_after (status_of verdict)
judged_lawful words left left_after held held_after report input verdict text read reported (of_run run is) written =
    let j = reported.journal in
    read_is_lawful (status_of verdict) report input j read reported.says (every_run_lawful j.system j.recs run)
judged_lawful words left left_after held held_after report input verdict text read reported (of_record n wrong is) written =
    subst (λ (v : Verdict). IsLawful words left left_after held held_after (status_of v)) (sym is) (read_is_bad report input n text read (subst (λ (v : Verdict). IsReported input report v text) is reported) written)

answer_lawful : (words : List (List ℕ)) (left left_after : Option (List ℕ)) (faults faults_after : ℕ) (held held_after : Option (List ℕ)) (s : Status) (text : List ℕ) → IsAnswer words left left_after faults faults_after s text → IsOfRun s → Appends held held_after text → IsLawful words left left_after held held_after s
answer_lawful words left left_after faults faults_after held held_after s text (of_input (Sim options) input _ _ read (of_system system _ _ says (ran end _ is))) e written =
    run_is_lawful (status_of_end end) options input system read says (every_run_lawful system (chosen system options.seed options.limit) is.run)
answer_lawful words left left_after faults faults_after held held_after s text (of_input (Sim options) input _ _ read (of_system system _ _ says (cut _ is))) e written = absurd (ends status.NoMemory e)
answer_lawful words left left_after faults faults_after held held_after s text (of_input (Sim options) input _ _ read (no_script _ is)) e written = absurd (ends status.Form e)
answer_lawful words left left_after faults faults_after held held_after s text (of_input (Sim options) input _ _ read out_of_memory) e written = absurd (ends status.NoMemory e)
answer_lawful words left left_after faults faults_after held held_after s text (of_input (Follow picks) input _ _ read (of_system system _ _ says (followed end _ is))) e written =
    followed_is_lawful (status_of_end end) picks input system read says (every_run_lawful system (picked system picks.places picks.limit) is.run)
answer_lawful words left left_after faults faults_after held held_after s text (of_input (Follow picks) input _ _ read (of_system system _ _ says (lacks _ is))) e written = place_is_missing picks input system text read says is written
answer_lawful words left left_after faults faults_after held held_after s text (of_input (Follow picks) input _ _ read (no_script _ is)) e written = absurd (ends status.Form e)
answer_lawful words left left_after faults faults_after held held_after s text (of_input (Follow picks) input _ _ read out_of_memory) e written = absurd (ends status.NoMemory e)
answer_lawful words left left_after faults faults_after held held_after s text (of_input (Explore scope) input _ _ read (of_system system _ _ says (told end _ is))) e written =
    explored_are_lawful (status_of_end end) scope input system read says (every_run_lawful system)
answer_lawful words left left_after faults faults_after held held_after s text (of_input (Explore scope) input _ _ read (of_system system _ _ says (cut_short _ is))) e written = absurd (ends status.Cut e)
answer_lawful words left left_after faults faults_after held held_after s text (of_input (Explore scope) input _ _ read (no_script _ is)) e written = absurd (ends status.Form e)
answer_lawful words left left_after faults faults_after held held_after s text (of_input (Explore scope) input _ _ read out_of_memory) e written = absurd (ends status.NoMemory e)
answer_lawful words left left_after faults faults_after held held_after s text (of_input Show input _ _ read (of_system system _ _ says shown)) e written = no_run status.Done input read
answer_lawful words left left_after faults faults_after held held_after s text (of_input Show input _ _ read (no_script _ is)) e written = absurd (ends status.Form e)
answer_lawful words left left_after faults faults_after held held_after s text (of_input Show input _ _ read out_of_memory) e written = absurd (ends status.NoMemory e)
answer_lawful words left left_after faults faults_after held held_after s text (of_input (Check report) input _ _ read (judged verdict _ is)) e written = judged_lawful words left left_after held held_after report input verdict text read is is.judged written
answer_lawful words left left_after faults faults_after held held_after s text (of_input (Check report) input _ _ read (refused _ is)) e written = absurd (ends status.Form e)
answer_lawful words left left_after faults faults_after held held_after s text (of_input (Check report) input _ _ read short_of_report) e written = absurd (ends status.NoMemory e)
answer_lawful words left left_after faults faults_after held held_after s text (of_size size _ _ asked kept (summed end _ is)) e written =
    summed_is_lawful (status_of_end end) size asked (every_run_lawful (generated size) (chosen (generated size) full_run.seed full_run.limit) is.run)
answer_lawful words left left_after faults faults_after held held_after s text (of_size size _ _ asked kept short) e written = absurd (ends status.NoMemory e)
answer_lawful words left left_after faults faults_after held held_after s text (of_words is) e written = absurd (ends status.Words e)
answer_lawful words left left_after faults faults_after held held_after s text (of_unread command _ _ asked (failed took rose)) e written = absurd (ends status.ReadFault e)
answer_lawful words left left_after faults faults_after held held_after s text (of_unread command _ _ asked (overflowed took)) e written = absurd (ends status.TooLong e)
answer_lawful words left left_after faults faults_after held held_after s text (of_unread command _ _ asked short_of_input) e written = absurd (ends status.NoMemory e)

pub told_lawful : (words : List (List ℕ)) (left left_after : Option (List ℕ)) (faults faults_after counted counted_after : ℕ) (held held_after : Option (List ℕ)) (answer : Status) → Told (IsAnswer words left left_after faults faults_after) counted counted_after held held_after answer → IsOfRun answer → IsLawful words left left_after held held_after answer
told_lawful words left left_after faults faults_after counted counted_after held held_after answer (whole s text is written) e = answer_lawful words left left_after faults faults_after held held_after s text is e written
told_lawful words left left_after faults faults_after counted counted_after held held_after answer (broken s text is front rose) e = absurd (ends status.WriteFault e)
