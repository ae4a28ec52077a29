-- The lines of a trailer, one at a time.
use Rattle.std.proofs.Common.{◌≡◌, ℕ, ◌+◌, ◌<◌, List, [], ◌∷◌, length, take, drop, Some, None, Err, refl, sym, ap, ◌∙◌}
use Rattle.vx_record.specs.Types.{UnitDecl}
use Rattle.vx_lines.proofs.Cutting.{cut_line}
use Rattle.vx_lines.specs.Cutting.{fed_len}
use Rattle.vx_lines.specs.ReadRecords.{fed_lines}
use Rattle.vx_journal.specs.TrailerLines.{ends_at, or_bad, part_at, place_after, read_trailer, trailer_lines_from}
use Rattle.vx_journal.specs.declared.trailer.Place.{Place}
use Rattle.vx_journal.specs.declared.trailer.Place.TheVariants as place

pub begins : (units : List UnitDecl) (line : ℕ) (text : List ℕ) → read_trailer units line text ≡ trailer_lines_from units line place.Records (fed_lines text)
unfolding read_trailer
begins units line text = refl

pub over : (units : List UnitDecl) (line : ℕ) (place : Place) → trailer_lines_from units line place (fed_lines []) ≡ ends_at line (part_at place)
unfolding trailer_lines_from fed_lines
over units line place = refl

pub first_line : (units : List UnitDecl) (line : ℕ) (place : Place) (l : List ℕ) (ls : List (List ℕ)) → trailer_lines_from units line place (l ∷ ls) ≡ or_bad line (place_after units place l) (λ p. trailer_lines_from units (line + 1) p ls)
unfolding trailer_lines_from
first_line units line place l ls = refl

cut_first : (units : List UnitDecl) (line len : ℕ) (place : Place) (text : List ℕ) → 0 < length text → len ≡ fed_len text → trailer_lines_from units line place (fed_lines text) ≡ or_bad line (place_after units place (take len text)) (λ p. trailer_lines_from units (line + 1) p (fed_lines (drop len text)))
cut_first units line len place text some n =
    let cut : fed_lines text ≡ take len text ∷ fed_lines (drop len text) = rw n (cut_line text some) in
    ap (trailer_lines_from units line place) cut ∙ first_line units line place (take len text) (fed_lines (drop len text))

-- the first line may not stand there
pub bad : (units : List UnitDecl) (line len : ℕ) (place : Place) (text : List ℕ) → 0 < length text → len ≡ fed_len text → None ≡ place_after units place (take len text) → trailer_lines_from units line place (fed_lines text) ≡ Err line
bad units line len place text some n none =
    cut_first units line len place text some n ∙ ap (λ p. or_bad line p (λ q. trailer_lines_from units (line + 1) q (fed_lines (drop len text)))) (sym none)

-- what is behind it is read on
pub read_on : (units : List UnitDecl) (line len : ℕ) (place next : Place) (text : List ℕ) → 0 < length text → len ≡ fed_len text → Some next ≡ place_after units place (take len text) → trailer_lines_from units (line + 1) next (fed_lines (drop len text)) ≡ trailer_lines_from units line place (fed_lines text)
read_on units line len place next text some n is =
    sym (cut_first units line len place text some n ∙ ap (λ p. or_bad line p (λ q. trailer_lines_from units (line + 1) q (fed_lines (drop len text)))) (sym is))
