-- The text of a journal that has a spelling is read as the journal.
use Rattle.std.proofs.Common.{◌≡◌, ℕ, ◌+◌, ◌<◌, ◌^◌, List, ◌++◌, length, drop, Some, Ok, Result, refl, sym, ap, subst, ◌∙◌}
use Rattle.std.specs.List.{AllByRecursion}
use Rattle.std.proofs.Math.Seq.{drop-append_seam}
use Rattle.vx_record.specs.Types.{Rec, System}
use Rattle.vx_lines.specs.Records.{ended_lines, records_lines}
use Rattle.vx_lines.specs.SpelledRecords.{AreSpelled}
use Rattle.vx_lines.specs.declared.read.Records.{Records}
use Rattle.vx_lines.proofs.RecordsLaw.{records_back}
use Rattle.vx_script.specs.Results.{◌>>=◌}
use Rattle.vx_script.specs.Script.{script}
use Rattle.vx_grammar.specs.Grammar.{Spells}
use Rattle.vx_roundtrip.proofs.Back.{reads_back}
use Rattle.vx_journal.specs.ReadJournal.{IsJournal, ReadsJournal, behind_header, behind_records, behind_script, header, journal_of, journal_text, script_part}
use Rattle.vx_journal.specs.SpelledJournal.{IsSpelledJournal, IsSpelledLine, part_behind, trailer_text}
use Rattle.vx_journal.specs.declared.journal.Journal.{Journal}
use Rattle.vx_journal.specs.declared.journal.JournalFail.{JournalFail}
use Rattle.vx_journal.specs.declared.journal.Part.{Part}
use Rattle.vx_journal.specs.declared.trailer.Place.TheVariants as place
use Rattle.vx_journal.specs.declared.trailer.TrailerLine.{TrailerLine}
use Rattle.vx_journal.proofs.ScriptBack.{front_read, script_part_back}
use Rattle.vx_journal.proofs.TrailerBack.{begins_otherwise, trailer_back}

abbrev read_as : System → List Rec → List ℕ → Part → Result Journal ℕ
read_as s recs trailer part = Ok (record { system = s; recs = recs; part = part; trailer = trailer })

header_back : (s : System) (line : ℕ) (recs : List Rec) (ts : List TrailerLine) (part : Part) → length recs < 2 ^ 32 → AreSpelled s.units recs → AllByRecursion (IsSpelledLine s.units) ts → part_behind place.Records ts ≡ Some part
    → behind_header s line (ended_lines (records_lines s.units 1 recs) ++ trailer_text s.units ts) ≡ Ok (record { system = s; recs = recs; part = part; trailer = trailer_text s.units ts })
header_back s line recs ts part few spelled lines is =
    let text : List ℕ = ended_lines (records_lines s.units 1 recs) in
    let trailer : List ℕ = trailer_text s.units ts in
    let records : Records = record { recs = recs; line = line + length (records_lines s.units 1 recs); len = length text } in
    ap (λ (o : Result Records ℕ). o >>= λ (r : Records). behind_records s r (drop r.len (text ++ trailer))) (records_back s.units line recs trailer few spelled (begins_otherwise s.units ts))
    ∙ ap (behind_records s records) (drop-append_seam text trailer)
    ∙ ap (λ (o : Result Part ℕ). o >>= λ (p : Part). read_as s recs trailer p) (trailer_back s.units records.line ts part lines is)

script_back : (s : System) (n : ℕ) (rest : List ℕ) → behind_script s n (header ++ rest) ≡ behind_header s (n + 1) rest
script_back s n rest = refl

text_read : (s : System) (rest : List ℕ) (j : Journal) → ((line : ℕ) → behind_header s line rest ≡ Ok j) → journal_of s (script s ++ (header ++ rest)) ≡ Ok j
unfolding journal_of
text_read s rest j read =
    let front = front_read 1 (script s) (header ++ rest) in
    ap (λ (o : Result ℕ ℕ). o >>= λ (line : ℕ). behind_script s line (drop (length (script s)) (script s ++ (header ++ rest)))) front.1
    ∙ ap (behind_script s front.0) (drop-append_seam (script s) (header ++ rest))
    ∙ script_back s front.0 rest
    ∙ read (front.0 + 1)

pub journal_back : (j : Journal) → IsSpelledJournal j → IsJournal (journal_text j) j
journal_back j h =
    let records : List ℕ = ended_lines (records_lines j.system.units 1 j.recs) in
    let rest : List ℕ = records ++ j.trailer in
    let behind : (line : ℕ) → behind_header j.system line rest ≡ Ok j = λ line. subst (λ (z : List ℕ). behind_header j.system line (records ++ z) ≡ Ok (record { system = j.system; recs = j.recs; part = j.part; trailer = z })) (sym h.trailer) (header_back j.system line j.recs h.lines j.part h.few h.recs h.spelled h.part) in
    record {
      says = subst (λ (z : List ℕ). Spells z j.system) (sym (script_part_back j.system rest h.formed h.held)) (reads_back j.system h.formed h.held);
      reads = text_read j.system rest j behind;
    }

-- what a reader gives of such a text, that gives what the text says
pub read_back : (text : List ℕ) (r : Result Journal JournalFail) → ((s : System) → Spells (script_part text) s → ReadsJournal r (journal_of s text)) → (j : Journal) → IsSpelledJournal j → text ≡ journal_text j → ReadsJournal r (Ok j)
read_back text r only j spelled same =
    let is : IsJournal text j = subst (λ (z : List ℕ). IsJournal z j) (sym same) (journal_back j spelled) in
    subst (λ (z : Result Journal ℕ). ReadsJournal r z) is.reads (only j.system is.says)
