-- How the lines of a trailer are read: by their words, and only if what was read is spelled as the line.
use Rattle.std.specs.Prelude.{ℕ, ◌+◌, List, [], ◌∷◌, ◌++◌, codes, bytes_eq, nat_eq, if◌then◌else◌, Option, None, Some, Result, Ok, Err}
use Rattle.std.specs.List.{starts_with}
use Rattle.vx_record.specs.Types.{End, UnitDecl}
use Rattle.vx_base.specs.declared.record.End.TheVariants.{Done, Hung, Limit}
use Rattle.vx_lines.specs.Fields.{number_of, pid_of, name_in, unit_of, text_of}
use Rattle.vx_lines.specs.ReadEffect.{unfed}
use Rattle.vx_lines.specs.ReadHead.{from_space}
use Rattle.vx_lines.specs.ReadRecords.{fed_lines}
use Rattle.vx_lines.specs.Records.{unit_name}
use Rattle.vx_lines.specs.Words.{◌>>=◌, first_word, behind_word, second_word, third_word, fourth_word}
use Rattle.vx_record.specs.declared.standing.Standing.{Standing}
use Rattle.vx_record.specs.declared.standing.Standing.TheVariants as standing
use Rattle.vx_journal.specs.Transcript.{standing_line, output_line, end_line}
use Rattle.vx_journal.specs.declared.journal.Part.{Part}
use Rattle.vx_journal.specs.declared.journal.Part.TheVariants.{Cut, Ended}
use Rattle.vx_journal.specs.declared.trailer.TrailerLine.{TrailerLine}
use Rattle.vx_journal.specs.declared.trailer.TrailerLine.TheVariants as trailer
use Rattle.vx_journal.specs.declared.trailer.Place.{Place}
use Rattle.vx_journal.specs.declared.trailer.Place.TheVariants as place

abbrev pub trailer_line : List UnitDecl → TrailerLine → List ℕ
trailer_line units (trailer.Process p name standing code) = standing_line p.0 name standing code
trailer_line units (trailer.Output u bytes) = output_line (unit_name units u) bytes
trailer_line units (trailer.End end n) = end_line end n

-- Words.

abbrev pub standing_of : List ℕ → Option Standing
standing_of word =
    if bytes_eq word (codes "GONE") then Some standing.Gone else (
    if bytes_eq word (codes "SUSP") then Some standing.Susp else (
    if bytes_eq word (codes "RUNDOWN") then Some standing.Rundown else (
    if bytes_eq word (codes "HIBER") then Some standing.Hiber else (
    if bytes_eq word (codes "FLAG") then Some standing.Flag else (
    if bytes_eq word (codes "ACTIVE") then Some standing.Active else None)))))

abbrev pub end_of : List ℕ → Option End
end_of word =
    if bytes_eq word (codes "DONE") then Some Done else (
    if bytes_eq word (codes "HUNG") then Some Hung else (
    if bytes_eq word (codes "LIMIT") then Some Limit else None))

-- Lines. Each is read from the space behind its first word on.

abbrev pub process_in : List ℕ → Option TrailerLine
process_in line = pid_of (first_word line) >>= λ p. name_in (second_word line) >>= λ name. standing_of (third_word line) >>= λ standing. number_of (fourth_word line) >>= λ code. Some (trailer.Process p name standing code)

abbrev pub output_in : List UnitDecl → List ℕ → Option (List ℕ) → Option TrailerLine
output_in units line text = unit_of units (first_word line) >>= λ u. text >>= λ bytes. Some (trailer.Output u bytes)

abbrev pub end_in : List ℕ → Option TrailerLine
end_in line = end_of (first_word line) >>= λ end. number_of (second_word line) >>= λ n. Some (trailer.End end n)

-- what the words of a line are
abbrev pub line_of : List UnitDecl → List ℕ → Option TrailerLine
line_of units line =
    if starts_with nat_eq line (codes "PROCESS ") then process_in (from_space line) else (
    if starts_with nat_eq line (codes "OUT ") then output_in units (from_space line) (text_of (behind_word (from_space line))) else
    end_in (from_space line))

abbrev pub if_spelled : List UnitDecl → List ℕ → TrailerLine → Option TrailerLine
if_spelled units line t = if bytes_eq (trailer_line units t ++ 10 ∷ []) line then Some t else None

-- what a line with its line feed spells
unfoldable pub read_line : List UnitDecl → List ℕ → Option TrailerLine
read_line units line = line_of units (unfed line) >>= if_spelled units line

-- The order of the lines: those of processes, those of outputs, and the end.

-- what was read last, behind a line
abbrev pub place_behind : Place → TrailerLine → Option Place
place_behind place.Records (trailer.Process p name standing code) = Some place.Processes
place_behind place.Processes (trailer.Process p name standing code) = Some place.Processes
place_behind place.Records (trailer.Output u bytes) = Some place.Outputs
place_behind place.Processes (trailer.Output u bytes) = Some place.Outputs
place_behind place.Outputs (trailer.Output u bytes) = Some place.Outputs
place_behind place.Records (trailer.End end n) = Some place.End
place_behind place.Processes (trailer.End end n) = Some place.End
place_behind place.Outputs (trailer.End end n) = Some place.End
place_behind _ _ = None

-- a text may end behind the records, and behind the end
abbrev pub part_at : Place → Option Part
part_at place.Records = Some Cut
part_at place.Processes = None
part_at place.Outputs = None
part_at place.End = Some Ended

abbrev pub place_after : List UnitDecl → Place → List ℕ → Option Place
place_after units place line = read_line units line >>= place_behind place

-- what follows if a line may stand, and else its number
abbrev pub or_bad : ℕ → Option Place → (Place → Result Part ℕ) → Result Part ℕ
or_bad line None f = Err line
or_bad line (Some place) f = f place

-- the part that a text is which ends here
abbrev pub ends_at : ℕ → Option Part → Result Part ℕ
ends_at line None = Err line
ends_at line (Some part) = Ok part

-- the lines of a trailer, from a line on, behind what was read last
unfoldable pub trailer_lines_from : List UnitDecl → ℕ → Place → List (List ℕ) → Result Part ℕ
trailer_lines_from units line place [] = ends_at line (part_at place)
trailer_lines_from units line place (l ∷ ls) = or_bad line (place_after units place l) (λ p. trailer_lines_from units (line + 1) p ls)

-- how far a transcript goes with this text behind its records, or the first bad line of the text
unfoldable pub read_trailer : List UnitDecl → ℕ → List ℕ → Result Part ℕ
read_trailer units line text = trailer_lines_from units line place.Records (fed_lines text)
