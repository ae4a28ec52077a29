-- A transcript is its front, and what is read behind the header.
use Rattle.std.proofs.Common.{◌≡◌, ℕ, ◌+◌, Bool, true, false, cond, List, length, drop, nat_eq, Result, Ok, Err, refl, sym, ap, subst, ◌∙◌, drop-drop}
use Rattle.std.specs.List.{starts_with}
use Rattle.vx_record.specs.Types.{System}
use Rattle.vx_grammar.specs.Grammar.{Spells}
use Rattle.vx_lines.specs.ReadRecords.{Fails, Reads}
use Rattle.vx_lines.specs.declared.read.LinesFail.{LinesFail}
use Rattle.vx_lines.specs.declared.read.LinesFail.TheVariants as lines_fail
use Rattle.vx_script.specs.Results.{◌>>=◌}
use Rattle.vx_script.specs.Script.{script}
use Rattle.vx_journal.proofs.JournalText.{records_there}
use Rattle.vx_journal.specs.ReadJournal.{IsBadLine, IsFront, IsJournal, ReadsFront, TellsIfFailed, behind_header, behind_script, header, header_at, header_end, journal_of, line_behind, script_part}
use Rattle.vx_journal.specs.declared.journal.Front.{Front}
use Rattle.vx_journal.specs.declared.journal.HeaderEnd.{HeaderEnd}
use Rattle.vx_journal.specs.declared.journal.Journal.{Journal}
use Rattle.vx_journal.specs.declared.journal.JournalFail.{JournalFail}
use Rattle.vx_journal.specs.declared.journal.JournalFail.TheVariants as fail

-- what is read behind a header
abbrev behind_end : System → List ℕ → HeaderEnd → Result Journal ℕ
behind_end system text end = behind_header system end.line (drop end.len text)

header_by : (system : System) (line len : ℕ) (text : List ℕ) (t : Bool) → cond t (behind_header system (line + 1) (drop (length header) (drop len text))) (Err line) ≡ ((cond t (Ok (record { line = line + 1; len = len + length header })) (Err line)) >>= behind_end system text)
header_by system line len text true = ap (behind_header system (line + 1)) (drop-drop (length header) len text)
header_by system line len text false = refl

script_by : (system : System) (text : List ℕ) (o : Result ℕ ℕ) → (o >>= λ line. behind_script system line (drop (length (script system)) text)) ≡ ((o >>= λ line. header_at line (length (script system)) (drop (length (script system)) text)) >>= behind_end system text)
script_by system text (Ok line) = header_by system line (length (script system)) text (starts_with nat_eq (drop (length (script system)) text) header)
script_by system text (Err line) = refl

-- the header ends, and then comes the rest
pub journal_parts : (system : System) (text : List ℕ) → journal_of system text ≡ (header_end system text >>= behind_end system text)
unfolding journal_of
journal_parts system text = script_by system text (line_behind 1 (script system) text)

-- behind a header that ends there
pub journal_behind : (system : System) (text : List ℕ) (end : HeaderEnd) → header_end system text ≡ Ok end → journal_of system text ≡ behind_header system end.line (drop end.len text)
journal_behind system text end ends = journal_parts system text ∙ ap (λ (o : Result HeaderEnd ℕ). o >>= behind_end system text) ends

pub no_header : (system : System) (text : List ℕ) (line : ℕ) → header_end system text ≡ Err line → journal_of system text ≡ Err line
no_header system text line ends = journal_parts system text ∙ ap (λ (o : Result HeaderEnd ℕ). o >>= behind_end system text) ends

-- What a front and the rest say of the text.

pub journal_there : (text : List ℕ) (f : Front) (j : Journal) → IsFront text f → behind_header f.system f.end.line (drop f.end.len text) ≡ Ok j → IsJournal text j
journal_there text f j front rest =
    let kept : j.system ≡ f.system = (records_there f.system f.end.line (drop f.end.len text) j rest).0 in
    record {
      says = subst (λ s. Spells (script_part text) s) (sym kept) front.says;
      reads = subst (λ (s : System). journal_of s text ≡ Ok j) (sym kept) (journal_behind f.system text f.end front.ends ∙ rest);
    }

pub bad_line_there : (text : List ℕ) (f : Front) (line : ℕ) → IsFront text f → behind_header f.system f.end.line (drop f.end.len text) ≡ Err line → IsBadLine text line
bad_line_there text f line front rest = record {
  system = f.system;
  says = front.says;
  bad = journal_behind f.system text f.end front.ends ∙ rest;
}

-- what the reading of a front tells of a text whose script part says a system
pub front_tells : (text part : List ℕ) (system : System) (r : Result Front JournalFail) → part ≡ script_part text → Spells part system → ReadsFront system text r → TellsIfFailed text r
front_tells text part system (Ok f) same says reads = tt
front_tells text part system (Err (fail.Script fault)) same says reads = absurd reads
front_tells text part system (Err (fail.Form line)) same says reads = record {
  system = system;
  says = subst (λ z. Spells z system) same says;
  bad = no_header system text line reads;
}
front_tells text part system (Err fail.NoMemory) same says reads = tt

-- What is read behind the front of a text is what the text says.

pub reads_behind : (system : System) (text : List ℕ) (end : HeaderEnd) (r : Result Journal LinesFail) → header_end system text ≡ Ok end → Reads r (behind_header system end.line (drop end.len text)) → Reads r (journal_of system text)
reads_behind system text end r ends h = subst (λ (o : Result Journal ℕ). Reads r o) (sym (journal_behind system text end ends)) h

-- of a text that lacks its header, what its failure tells
pub fails_before : (system : System) (text : List ℕ) (e : LinesFail) → Fails e (header_end system text) → Fails e (journal_of system text)
fails_before system text (lines_fail.Bad line) h = no_header system text line h
fails_before system text lines_fail.NoMemory h = tt
