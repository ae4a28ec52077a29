-- Which journals have a spelling: those of a well formed system, with records and with lines of a trailer that have one.
use Rattle.std.specs.Prelude.{◌≡◌, ℕ, ◌<◌, ◌^◌, IsTrue, List, [], ◌∷◌, length, map, Option, Some}
use Rattle.std.specs.List.{AllByRecursion}
use Rattle.vx_base.specs.Name.{is_name}
use Rattle.vx_image.specs.WellFormed.{IsWellFormed}
use Rattle.vx_record.specs.Types.{UnitDecl}
use Rattle.vx_text.specs.Quote.{AreBytes}
use Rattle.vx_lines.specs.Records.{ended_lines}
use Rattle.vx_lines.specs.Spelled.{IsWord}
use Rattle.vx_lines.specs.SpelledHead.{IsSpelledUnit}
use Rattle.vx_lines.specs.SpelledRecords.{AreSpelled}
use Rattle.vx_lines.specs.Words.{◌>>=◌}
use Rattle.vx_roundtrip.specs.Held.{IsHeldSystem}
use Rattle.vx_journal.specs.TrailerLines.{part_at, place_behind, trailer_line}
use Rattle.vx_journal.specs.declared.journal.Journal.{Journal}
use Rattle.vx_journal.specs.declared.journal.Part.{Part}
use Rattle.vx_journal.specs.declared.trailer.Place.{Place}
use Rattle.vx_journal.specs.declared.trailer.Place.TheVariants as place
use Rattle.vx_journal.specs.declared.trailer.TrailerLine.{TrailerLine}
use Rattle.vx_journal.specs.declared.trailer.TrailerLine.TheVariants as trailer

-- a line of a trailer that has a spelling
abbrev pub IsSpelledLine : List UnitDecl → TrailerLine → Type 0
IsSpelledLine units (trailer.Process p name standing code) = IsWord p.0 × IsTrue (is_name name) × IsWord code
IsSpelledLine units (trailer.Output u bytes) = IsSpelledUnit units u × AreBytes bytes
IsSpelledLine units (trailer.End end n) = IsWord n

-- how far a transcript goes that ends with these lines, behind what was read last; None if they may not stand there
abbrev pub part_behind : Place → List TrailerLine → Option Part
part_behind place [] = part_at place
part_behind place (t ∷ ts) = place_behind place t >>= λ p. part_behind p ts

abbrev pub trailer_text : List UnitDecl → List TrailerLine → List ℕ
trailer_text units ts = ended_lines (map (trailer_line units) ts)

pub record IsSpelledJournal (j : Journal) : Type 0 where
  pub lines : List TrailerLine
  pub formed : IsWellFormed j.system
  pub held : IsHeldSystem j.system
  pub few : length j.recs < 2 ^ 32
  pub recs : AreSpelled j.system.units j.recs
  pub spelled : AllByRecursion (IsSpelledLine j.system.units) lines
  pub trailer : j.trailer ≡ trailer_text j.system.units lines
  pub part : part_behind place.Records lines ≡ Some j.part
