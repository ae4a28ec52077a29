-- How a transcript is read back: the script part, the rest of the canonical script's lines, the records and the trailer.
use Rattle.std.specs.Prelude.{◌≡◌, ℕ, ◌+◌, ◌==◌, Bool, List, [], ◌∷◌, ◌++◌, length, take, drop, codes, nat_eq, if◌then◌else◌, Result, Ok, Err}
use Rattle.std.specs.List.{starts_with}
use Rattle.vx_image.specs.WellFormed.{IsWellFormed}
use Rattle.vx_record.specs.Types.{System}
use Rattle.vx_lines.specs.ReadRecords.{fed_lines, read_records}
use Rattle.vx_lines.specs.Records.{ended_lines, records_lines}
use Rattle.vx_lines.specs.declared.read.Records.{Records}
use Rattle.vx_script.specs.Results.{◌>>=◌}
use Rattle.vx_script.specs.Script.{script}
use Rattle.vx_script.specs.declared.fault.ScriptFail.{ScriptFail}
use Rattle.vx_script.specs.declared.fault.ScriptFault.{ScriptFault}
use Rattle.vx_script.specs.declared.fault.ScriptFail.TheVariants as script_fail
use Rattle.vx_grammar.specs.FirstFault.{Tells}
use Rattle.vx_grammar.specs.Grammar.{Spells}
use Rattle.vx_journal.specs.TrailerLines.{read_trailer}
use Rattle.vx_journal.specs.declared.journal.Front.{Front}
use Rattle.vx_journal.specs.declared.journal.HeaderEnd.{HeaderEnd}
use Rattle.vx_journal.specs.declared.journal.Journal.{Journal}
use Rattle.vx_journal.specs.declared.journal.JournalFail.{JournalFail}
use Rattle.vx_journal.specs.declared.journal.JournalFail.TheVariants as fail

-- The text of a journal.

abbrev pub header : List ℕ
header = codes "$JOURNAL 1\n"

-- a journal's text: the canonical script, the header, the records, and the trailer as it was read
abbrev pub journal_text : Journal → List ℕ
journal_text j = script j.system ++ (header ++ (ended_lines (records_lines j.system.units 1 j.recs) ++ j.trailer))

-- The script part: the lines before the first that begins with $JOURNAL, or all lines.

abbrev pub is_journal_line : List ℕ → Bool
is_journal_line line = starts_with nat_eq line (codes "$JOURNAL")

-- how many bytes the lines before a journal line have, with `at` bytes before them
unfoldable pub len_before : ℕ → List (List ℕ) → ℕ
len_before at [] = at
len_before at (l ∷ ls) = if is_journal_line l then at else len_before (at + length l) ls

unfoldable pub script_len : List ℕ → ℕ
script_len text = len_before 0 (fed_lines text)

abbrev pub script_part : List ℕ → List ℕ
script_part text = take (script_len text) text

-- What stands behind it, line by line. A result is what was read, or the number of the first bad line.

abbrev pub next_line : ℕ → ℕ → ℕ
next_line line b = if b == 10 then line + 1 else line

-- the line behind a front of a text, or the first line in which the text differs from the front
unfoldable pub line_behind : ℕ → List ℕ → List ℕ → Result ℕ ℕ
line_behind line [] text = Ok line
line_behind line (f ∷ front) [] = Err line
line_behind line (f ∷ front) (b ∷ text) = if f == b then line_behind (next_line line f) front text else Err line

abbrev pub behind_records : System → Records → List ℕ → Result Journal ℕ
behind_records system records trailer = read_trailer system.units records.line trailer >>= λ part. Ok (record { system = system; recs = records.recs; part = part; trailer = trailer })

abbrev pub behind_header : System → ℕ → List ℕ → Result Journal ℕ
behind_header system line text = read_records system.units line text >>= λ records. behind_records system records (drop records.len text)

abbrev pub behind_script : System → ℕ → List ℕ → Result Journal ℕ
behind_script system line text = if starts_with nat_eq text header then behind_header system (line + 1) (drop (length header) text) else Err line

-- the journal that a text is, whose script part is this system's script; or its first bad line
unfoldable pub journal_of : System → List ℕ → Result Journal ℕ
journal_of system text = line_behind 1 (script system) text >>= λ line. behind_script system line (drop (length (script system)) text)

-- where the header ends behind the canonical script, which ends before this line and byte
abbrev pub header_at : ℕ → ℕ → List ℕ → Result HeaderEnd ℕ
header_at line len text = if starts_with nat_eq text header then Ok (record { line = line + 1; len = len + length header }) else Err line

-- where the header ends in a text whose script part is this system's script; or the text's first bad line
abbrev pub header_end : System → List ℕ → Result HeaderEnd ℕ
header_end system text = line_behind 1 (script system) text >>= λ line. header_at line (length (script system)) (drop (length (script system)) text)

-- What a text says.

-- The text begins so: its script part says this system, and its header ends there.
pub record IsFront (text : List ℕ) (f : Front) : Type 0 where
  pub says : Spells (script_part text) f.system
  pub ends : header_end f.system text ≡ Ok f.end

-- The text is this journal: its script part says the journal's system, and the whole is spelled so.
pub record IsJournal (text : List ℕ) (j : Journal) : Type 0 where
  pub says : Spells (script_part text) j.system
  pub reads : journal_of j.system text ≡ Ok j

-- The script part says a system, and this line of the text is the first bad one.
pub record IsBadLine (text : List ℕ) (line : ℕ) : Type 0 where
  pub system : System
  pub says : Spells (script_part text) system
  pub bad : journal_of system text ≡ Err line

-- the failure to read a script, as one to read a transcript
abbrev pub failure_of : ScriptFail → JournalFail
failure_of (script_fail.Fault fault) = fail.Script fault
failure_of script_fail.NoMemory = fail.NoMemory

-- what a failure tells of the text; want of memory tells nothing
abbrev pub TellsFailure : List ℕ → JournalFail → Type 0
TellsFailure text (fail.Script fault) = Tells (script_part text) fault
TellsFailure text (fail.Form line) = IsBadLine text line
TellsFailure text fail.NoMemory = Unit {0}

-- what a result is if the script part says a system with which the text is read so, unless memory ran out
abbrev pub ReadsJournal : Result Journal JournalFail → Result Journal ℕ → Type 0
ReadsJournal (Ok j) read = read ≡ Ok j
ReadsJournal (Err (fail.Form line)) read = read ≡ Err line
ReadsJournal (Err (fail.Script fault)) read = ⊥
ReadsJournal (Err fail.NoMemory) read = Unit {0}

-- what a result is if the script part has this fault, unless memory ran out
abbrev pub FailsScript : ScriptFault → Result Journal JournalFail → Type 0
FailsScript fault (Ok j) = ⊥
FailsScript fault (Err (fail.Form line)) = ⊥
FailsScript fault (Err (fail.Script f)) = f ≡ fault
FailsScript fault (Err fail.NoMemory) = Unit {0}

-- unless memory ran out, a result is the journal that the text says, and a fault of the script part is told
pub record TellsWhatIsThere (text : List ℕ) (result : Result Journal JournalFail) : Type 0 where
  pub journal : (s : System) → Spells (script_part text) s → ReadsJournal result (journal_of s text)
  pub fault : (fault : ScriptFault) → Tells (script_part text) fault → FailsScript fault result

-- what a result tells of the text: the journal that it is, of a well formed system, or why it is none
abbrev pub TellsText : List ℕ → Result Journal JournalFail → Type 0
TellsText text (Ok j) = IsJournal text j × IsWellFormed j.system
TellsText text (Err e) = TellsFailure text e

-- what the failure of a result tells of the text
abbrev pub TellsIfFailed : {A : Type 0} → List ℕ → Result A JournalFail → Type 0
TellsIfFailed text (Ok x) = Unit {0}
TellsIfFailed text (Err e) = TellsFailure text e

-- what a front is that was read of a text whose script part says a system, unless memory ran out
abbrev pub ReadsFront : System → List ℕ → Result Front JournalFail → Type 0
ReadsFront system text (Ok f) = (f.system ≡ system) × (header_end system text ≡ Ok f.end)
ReadsFront system text (Err (fail.Form line)) = header_end system text ≡ Err line
ReadsFront system text (Err (fail.Script fault)) = ⊥
ReadsFront system text (Err fail.NoMemory) = Unit {0}
