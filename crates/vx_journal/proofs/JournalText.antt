-- A text that is read as a journal is the journal's text.
use Rattle.std.proofs.Common.{◌≡◌, ℕ, ◌+◌, ◌==◌, Bool, true, false, cond, List, [], ◌∷◌, ◌++◌, length, drop, nat_eq, Ok, Err, refl, sym, ap, ◌∙◌, arith}
use Rattle.std.specs.List.{starts_with}
use Rattle.std.proofs.lemmas.Bool.Decides.{nat_tests, Decides-eqb}
use Rattle.std.proofs.lemmas.Slice.Eq.{starts_is}
use Rattle.vx_grammar.proofs.Fields.{bind_ok}
use Rattle.vx_record.specs.Types.{System}
use Rattle.vx_lines.specs.ReadRecords.{read_records}
use Rattle.vx_lines.specs.Records.{ended_lines, records_lines}
use Rattle.vx_lines.specs.declared.read.Records.{Records}
use Rattle.vx_script.specs.Script.{script}
use Rattle.vx_journal.proofs.RecordsSpelled.{records_spelled}
use Rattle.vx_journal.specs.ReadJournal.{behind_header, behind_records, behind_script, header, journal_of, journal_text, line_behind, next_line, IsJournal}
use Rattle.vx_journal.specs.TrailerLines.{read_trailer}
use Rattle.vx_journal.specs.declared.journal.Journal.{Journal}
use Rattle.vx_journal.specs.declared.journal.Part.{Part}

front_by : (line f b : ℕ) (front text : List ℕ) (m : ℕ) (t : Bool) → (f == b) ≡ t → ((k : ℕ) → line_behind k front text ≡ Ok m → text ≡ front ++ drop (length front) text) → cond t (line_behind (next_line line f) front text) (Err line) ≡ Ok m → b ∷ text ≡ (f ∷ front) ++ drop (length (f ∷ front)) (b ∷ text)
front_by line f b front text m true is rest h =
    let same : b ≡ f = grind (arith, nat_tests, is) in
    ap (λ (z : ℕ). z ∷ text) same ∙ ap (λ z. f ∷ z) (rest (next_line line f) h)
front_by line f b front text m false is rest h = absurd (cc)

-- a text that is read past a front begins with it
front_there : (line : ℕ) (front text : List ℕ) (m : ℕ) → line_behind line front text ≡ Ok m → text ≡ front ++ drop (length front) text
unfolding line_behind
front_there line [] text m h = refl
front_there line (f ∷ front) [] m h = absurd (cc)
front_there line (f ∷ front) (b ∷ text) m h = front_by line f b front text m (f == b) refl (λ k is. front_there k front text m is) h

pub records_there : (system : System) (line : ℕ) (text : List ℕ) (j : Journal) → behind_header system line text ≡ Ok j → (j.system ≡ system) × (text ≡ ended_lines (records_lines system.units 1 j.recs) ++ j.trailer)
records_there system line text j h =
    let one = bind_ok (read_records system.units line text) (λ (r : Records). behind_records system r (drop r.len text)) j h in
    let records : Records = one.0 in
    let two = bind_ok (read_trailer system.units records.line (drop records.len text)) (λ (part : Part). Ok (record { system = system; recs = records.recs; part = part; trailer = drop records.len text })) j one.2 in
    let made : record { system = system; recs = records.recs; part = two.0; trailer = drop records.len text } ≡ j = cc two.2 in
    (ap (λ (z : Journal). z.system) (sym made), records_spelled system.units line text records one.1 ∙ ap (λ (z : Journal). ended_lines (records_lines system.units 1 z.recs) ++ z.trailer) made)

header_by : (system : System) (line : ℕ) (text : List ℕ) (j : Journal) (t : Bool) → starts_with nat_eq text header ≡ t → cond t (behind_header system (line + 1) (drop (length header) text)) (Err line) ≡ Ok j → (j.system ≡ system) × (text ≡ header ++ (ended_lines (records_lines system.units 1 j.recs) ++ j.trailer))
header_by system line text j true is h =
    let rest = records_there system (line + 1) (drop (length header) text) j h in
    let front : text ≡ header ++ drop (length header) text = (starts_is Decides-eqb text header true (sym is)).0 refl in
    (rest.0, front ∙ ap (λ z. header ++ z) rest.1)
header_by system line text j false is h = absurd (cc)

-- the whole text is the journal's
pub whole_text : (system : System) (text : List ℕ) (j : Journal) → journal_of system text ≡ Ok j → (j.system ≡ system) × (text ≡ script system ++ (header ++ (ended_lines (records_lines system.units 1 j.recs) ++ j.trailer)))
unfolding journal_of
whole_text system text j h =
    let one = bind_ok (line_behind 1 (script system) text) (λ (line : ℕ). behind_script system line (drop (length (script system)) text)) j h in
    let rest = header_by system one.0 (drop (length (script system)) text) j (starts_with nat_eq (drop (length (script system)) text) header) refl one.2 in
    (rest.0, front_there 1 (script system) text one.0 one.1 ∙ ap (λ z. script system ++ z) rest.1)

pub journal_spelled : (text : List ℕ) (j : Journal) → IsJournal text j → text ≡ journal_text j
journal_spelled text j is = (whole_text j.system text j is.reads).1
