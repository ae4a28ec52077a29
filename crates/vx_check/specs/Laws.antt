-- What verdicts say.
use Rattle.std.specs.Prelude.{◌≡◌, ◌≤◌, ℕ, List, Some, length}
use Rattle.vx_record.specs.Types.{End, Rec, System}
use Rattle.vx_record.specs.Runs.{IsRun, end_after}
use Rattle.vx_journal.specs.ReadJournal.{IsJournal}
use Rattle.vx_journal.specs.RunJournal.{IsHeldRun, run_journal}
use Rattle.vx_journal.specs.Transcript.{transcript}
use Rattle.vx_journal.specs.declared.journal.Journal.{Journal}
use Rattle.vx_check.specs.Verdict.{IsVerdict, ended_verdict}
use Rattle.vx_check.specs.declared.verdict.Verdict.{Verdict}

-- no journal has two verdicts
abbrev pub OneVerdict : Type 0
OneVerdict = (j : Journal) (v w : Verdict) → IsVerdict j v → IsVerdict j w → v ≡ w

-- a text whose verdict is an ending is the transcript of a run of its system with that ending, byte for byte
abbrev pub EndedText : Type 0
EndedText = (text : List ℕ) (j : Journal) (end : End) (n : ℕ) → IsJournal text j → IsVerdict j (ended_verdict end n) → IsRun j.system j.recs × (text ≡ transcript j.system j.recs end)

-- of a run with any limit, the journal of its transcript has its ending as verdict
abbrev pub RunJudged : Type 0
RunJudged = (system : System) (recs : List Rec) (limit : ℕ) (end : End) → IsRun system recs → 1 ≤ limit → end_after system recs limit ≡ Some end → IsVerdict (run_journal system recs end) (ended_verdict end (length recs))

-- the transcript of a run that has ended is the text of one journal, and that is judged as the run has ended
abbrev pub TranscriptJudged : Type 0
TranscriptJudged = (system : System) (recs : List Rec) (limit : ℕ) (end : End) → IsHeldRun system recs → 1 ≤ limit → end_after system recs limit ≡ Some end
    → IsJournal (transcript system recs end) (run_journal system recs end) × IsVerdict (run_journal system recs end) (ended_verdict end (length recs))
