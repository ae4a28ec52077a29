-- Which records have a spelling: those whose head and effects have one. What follows them in a text begins otherwise.
use Rattle.std.specs.Prelude.{◌≡◌, ℕ, ◌+◌, ◌<◌, ◌^◌, false, List, ◌++◌, length, Ok}
use Rattle.std.specs.List.{AllByRecursion}
use Rattle.vx_base.specs.declared.record.Rec.{Rec}
use Rattle.vx_image.specs.declared.unit.UnitDecl.{UnitDecl}
use Rattle.vx_lines.specs.ReadRecords.{is_of_record, read_records}
use Rattle.vx_lines.specs.Records.{ended_lines, records_lines}
use Rattle.vx_lines.specs.Spelled.{IsSpelled}
use Rattle.vx_lines.specs.SpelledHead.{IsSpelledHead}

abbrev pub IsSpelledRec : List UnitDecl → Rec → Type 0
IsSpelledRec units r = IsSpelledHead units r.event r.answer × AllByRecursion IsSpelled r.effects

abbrev pub AreSpelled : List UnitDecl → List Rec → Type 0
AreSpelled units recs = AllByRecursion (IsSpelledRec units) recs

-- the lines of records that have a spelling are read as the records, up to what begins otherwise
abbrev pub RecordsReadBack : Type 0
RecordsReadBack = (units : List UnitDecl) (line : ℕ) (recs : List Rec) (rest : List ℕ) → length recs < 2 ^ 32 → AreSpelled units recs → is_of_record rest ≡ false
    → read_records units line (ended_lines (records_lines units 1 recs) ++ rest)
    ≡ Ok (record { recs = recs; line = line + length (records_lines units 1 recs); len = length (ended_lines (records_lines units 1 recs)) })
