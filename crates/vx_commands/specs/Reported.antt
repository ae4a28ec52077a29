-- What is told of a transcript: its verdict, and a picture of it.
use Rattle.std.specs.Prelude.{◌≡◌, ℕ, List, [], ◌∷◌, ◌++◌, codes, decimal, Option, None, Some}
use Rattle.vx_check.specs.Verdict.{IsVerdict}
use Rattle.vx_check.specs.declared.verdict.Verdict.{Verdict}
use Rattle.vx_check.specs.declared.verdict.Verdict.TheVariants as verdict
use Rattle.vx_draw.specs.Columns.{columns}
use Rattle.vx_draw.specs.Picture.{picture}
use Rattle.vx_journal.specs.ReadJournal.{script_part, IsJournal, IsBadLine}
use Rattle.vx_journal.specs.declared.journal.Journal.{Journal}
use Rattle.vx_tell.specs.Lines.{form_line, no_memory}
use Rattle.vx_tell.specs.Refused.{IsNoScript}
use Rattle.vx_tell.specs.declared.status.Status.{Status}
use Rattle.vx_tell.specs.declared.status.Status.TheVariants as status
use Rattle.vx_words.specs.declared.command.Report.{Report}
use Rattle.vx_words.specs.declared.command.Report.TheVariants.{Line, Picture, Columns}

-- The line of a verdict, and its status.

abbrev pub verdict_word : Verdict → List ℕ
verdict_word (verdict.Complete n) = codes "complete"
verdict_word (verdict.Hung n) = codes "hung"
verdict_word (verdict.Limit n) = codes "limit"
verdict_word (verdict.Prefix n) = codes "prefix"
verdict_word (verdict.Bad n) = codes "bad"

abbrev pub verdict_number : Verdict → ℕ
verdict_number (verdict.Complete n) = n
verdict_number (verdict.Hung n) = n
verdict_number (verdict.Limit n) = n
verdict_number (verdict.Prefix n) = n
verdict_number (verdict.Bad n) = n

abbrev pub verdict_line : Verdict → List ℕ
verdict_line v = codes "check " ++ (verdict_word v ++ 32 ∷ (decimal (verdict_number v) ++ 10 ∷ []))

abbrev pub status_of : Verdict → Status
status_of (verdict.Complete n) = status.Done
status_of (verdict.Hung n) = status.Hung
status_of (verdict.Limit n) = status.Limit
status_of (verdict.Prefix n) = status.Illegal
status_of (verdict.Bad n) = status.Illegal

-- the number of the first record that is not the machine's, if the verdict is bad
abbrev pub wrong_in : Verdict → Option ℕ
wrong_in (verdict.Complete n) = None
wrong_in (verdict.Hung n) = None
wrong_in (verdict.Limit n) = None
wrong_in (verdict.Prefix n) = None
wrong_in (verdict.Bad n) = Some n

-- what is written of a transcript: the line of its verdict, a picture, or columns of text, each up to the first record that is wrong
abbrev pub report_text : Report → Journal → Verdict → List ℕ
report_text Line j v = verdict_line v
report_text Picture j v = picture j.system j.recs j.trailer (wrong_in v)
report_text Columns j v = columns j.system j.recs j.trailer (wrong_in v)

-- The input is a transcript, this is the verdict on it, and the text is the report of it.
pub record IsReported (input : List ℕ) (report : Report) (verdict : Verdict) (text : List ℕ) : Type 0 where
  pub journal : Journal
  pub says : IsJournal input journal
  pub judged : IsVerdict journal verdict
  pub spells : text ≡ report_text report journal verdict

-- why an input is no transcript, and the line that tells it: the lines before the first that begins with $JOURNAL are no script; or
-- this is the first bad line
pub data IsNoTranscript (input : List ℕ) : List ℕ → Type 0 where
  no_script : (text : List ℕ) → IsNoScript (script_part input) text → IsNoTranscript input text
  no_journal : (line : ℕ) → IsBadLine input line → IsNoTranscript input (form_line line)

-- what `check` and `draw` come to on an input that was read
pub data IsReportText (report : Report) (input : List ℕ) : Status → List ℕ → Type 0 where
  judged : (verdict : Verdict) (text : List ℕ) → IsReported input report verdict text → IsReportText report input (status_of verdict) text
  refused : (text : List ℕ) → IsNoTranscript input text → IsReportText report input status.Form text
  short : IsReportText report input status.NoMemory no_memory
