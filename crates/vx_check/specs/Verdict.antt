-- The verdict on a transcript that was read: whether its records are the machine's, and its trailer.
use Rattle.std.specs.Prelude.{◌≡◌, ℕ, zero, suc, ◌+◌, List, [], ◌∷◌, ◌++◌, length, bytes_eq, if◌then◌else◌, Option, None, Some}
use Rattle.vx_record.specs.Types.{End, Rec, System}
use Rattle.vx_base.specs.declared.record.End.TheVariants as end
use Rattle.vx_lines.specs.Records.{ended_lines}
use Rattle.vx_record.specs.State.{State}
use Rattle.vx_record.specs.Runs.{IsRun, after, end_after}
use Rattle.vx_journal.specs.ReadJournal.{IsJournal}
use Rattle.vx_journal.specs.Transcript.{trailer_lines}
use Rattle.vx_journal.specs.declared.journal.Journal.{Journal}
use Rattle.vx_journal.specs.declared.journal.Part.{Part}
use Rattle.vx_journal.specs.declared.journal.Part.TheVariants.{Cut, Ended}
use Rattle.vx_check.specs.declared.verdict.Verdict.{Verdict}
use Rattle.vx_check.specs.declared.verdict.Verdict.TheVariants.{Complete, Hung, Limit, Prefix, Bad}

-- If a record is not the machine's.

-- The records before record n are a run of the system, and with record n they are none.
pub record IsFirstWrong (system : System) (recs : List Rec) (n : ℕ) : Type 0 where
  pub before : List Rec
  pub rec : Rec
  pub rest : List Rec
  pub split : recs ≡ before ++ rec ∷ rest
  pub place : n ≡ length before + 1
  pub run : IsRun system before
  pub wrong : IsRun system (before ++ rec ∷ []) → ⊥

-- If all of them are.

-- the limit by which n records are judged: their number, and 1 if there is none
abbrev pub limit_for : ℕ → ℕ
limit_for zero = 1
limit_for (suc n) = suc n

abbrev pub ended_verdict : End → ℕ → Verdict
ended_verdict end.Done n = Complete n
ended_verdict end.Hung n = Hung n
ended_verdict end.Limit n = Limit n

-- of the state after n records, by how the run has ended there, if it has: the trailer must be the machine's, byte for byte
abbrev pub trailer_verdict : State → ℕ → List ℕ → Option End → Verdict
trailer_verdict s n trailer None = Bad (n + 1)
trailer_verdict s n trailer (Some end) = if bytes_eq (ended_lines (trailer_lines s end n)) trailer then ended_verdict end n else Bad (n + 1)

-- the same of a cut transcript, which has no trailer, and of an ended one
abbrev pub part_verdict : State → ℕ → Part → List ℕ → Option End → Verdict
part_verdict s n Cut trailer ended = Prefix n
part_verdict s n Ended trailer ended = trailer_verdict s n trailer ended

-- the verdict on a journal whose records are a run
abbrev pub run_verdict : Journal → Verdict
run_verdict j = part_verdict (after j.system j.recs) (length j.recs) j.part j.trailer (end_after j.system j.recs (limit_for (length j.recs)))

-- The verdict.

-- bad at the first record that is not the machine's; and if there is none, by the part and the trailer
pub data IsVerdict (j : Journal) (v : Verdict) : Type 0 where
  of_record : (n : ℕ) → IsFirstWrong j.system j.recs n → v ≡ Bad n → IsVerdict j v
  of_run : IsRun j.system j.recs → v ≡ run_verdict j → IsVerdict j v

-- The text is a transcript, and this is the verdict on it.
pub record IsJudged (text : List ℕ) (v : Verdict) : Type 0 where
  pub journal : Journal
  pub says : IsJournal text journal
  pub judged : IsVerdict journal v
