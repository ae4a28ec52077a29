-- A transcript as columns of text: a column for the time, for each process and for each unit, and a line a record.
use Rattle.std.specs.Prelude.{ℕ, ◌+◌, ◌-◌, ◌*◌, List, [], ◌∷◌, ◌++◌, codes, decimal, flat_map, length, take, drop, Option, Some, None, slice_get}
use Rattle.vx_base.specs.declared.record.Event.{Event}
use Rattle.vx_base.specs.declared.record.Event.TheVariants as event
use Rattle.vx_base.specs.declared.record.Rec.{Rec}
use Rattle.vx_image.specs.declared.system.System.{System}
use Rattle.vx_image.specs.declared.unit.UnitDecl.{UnitDecl}
use Rattle.vx_lines.specs.Records.{answer_text}
use Rattle.vx_draw.specs.Headings.{process_names}

-- What a record did.

abbrev pub event_word : Event → List ℕ
event_word (event.Run p) = []
event_word (event.Ast p) = codes "AST "
event_word (event.Rdn p) = codes "RDN "
event_word (event.Beg u) = codes "BEG "
event_word (event.Don u) = codes "DON "
event_word event.Tick = codes "TICK "

-- what a record did, without who acted
abbrev pub deed_text : Rec → List ℕ
deed_text rec = event_word rec.event ++ answer_text rec.answer

-- Which records are drawn.

-- the records before the first that is not the machine's, if one is not
abbrev pub sound_part : Option ℕ → List Rec → List Rec
sound_part None recs = recs
sound_part (Some n) recs = take (n - 1) recs

-- the first record that is not the machine's, if there is one
abbrev pub wrong_record : Option ℕ → List Rec → Option Rec
wrong_record None recs = None
wrong_record (Some n) recs = slice_get recs (n - 1)

-- Cells.

-- a column's place in each line
abbrev pub stem : List ℕ
stem = codes "|                       "

abbrev pub blanks : List ℕ
blanks = codes "                        "

-- a heading in 24 places, the last of them a space
unfoldable pub heading_cell : List ℕ → List ℕ
heading_cell text = take 24 (take 23 text ++ blanks)

-- headings of processes, the first of them with the number n
abbrev pub process_cells : ℕ → List (List ℕ) → List ℕ
process_cells n [] = []
process_cells n (name ∷ names) = heading_cell (decimal n ++ 32 ∷ name) ++ process_cells (n + 1) names

abbrev pub unit_cells : List UnitDecl → List ℕ
unit_cells units = flat_map (λ unit. heading_cell unit.name) units

-- a number in 8 places at least
abbrev pub number_cell : ℕ → List ℕ
number_cell n = decimal n ++ drop (length (decimal n)) (codes "        ")

unfoldable pub time_heading : List ℕ
time_heading = codes "        TIME        "

-- the line of headings
unfoldable pub heading_line : List (List ℕ) → List UnitDecl → List ℕ
heading_line names units = time_heading ++ (process_cells 1 names ++ (unit_cells units ++ 10 ∷ []))

-- the columns behind a line of text
unfoldable pub rule : List (List ℕ) → List UnitDecl → List ℕ
rule names units = codes "            " ++ (flat_map (λ name. stem) names ++ flat_map (λ unit. stem) units)

-- Lines.

-- where in a line who acted has its column, with so many processes: in the time's, a process's or a unit's
abbrev pub indent_of : ℕ → Event → ℕ
indent_of processes (event.Run p) = 24 * p.0 - 12
indent_of processes (event.Ast p) = 24 * p.0 - 12
indent_of processes (event.Rdn p) = 24 * p.0 - 12
indent_of processes (event.Beg u) = 12 + 24 * (processes + u.0)
indent_of processes (event.Don u) = 12 + 24 * (processes + u.0)
indent_of processes event.Tick = 0

-- what a record did, in the column of who acted, and no further than the columns go
abbrev pub cells : List ℕ → ℕ → List ℕ → Rec → List ℕ
cells rule processes mark rec = take (length rule + 24) (take (indent_of processes rec.event) rule ++ (mark ++ deed_text rec))

unfoldable pub line : List ℕ → ℕ → List ℕ → ℕ → Rec → List ℕ
line rule processes mark n rec = number_cell n ++ (cells rule processes mark rec ++ 10 ∷ [])

-- records, the first of them with the number n
abbrev pub lines : List ℕ → ℕ → ℕ → List Rec → List ℕ
lines rule processes n [] = []
lines rule processes n (r ∷ rs) = line rule processes [] n r ++ lines rule processes (n + 1) rs

-- what is not the machine's has this in front
abbrev pub doubt : List ℕ
doubt = codes "?? "

-- what follows the records: the record that is not the machine's, or the trailer, which may not be either
unfoldable pub ending : List ℕ → ℕ → Option ℕ → Option Rec → List ℕ → List ℕ
ending rule processes None wrong trailer = trailer
ending rule processes (Some n) None trailer = doubt ++ (10 ∷ trailer)
ending rule processes (Some n) (Some rec) trailer = line rule processes doubt n rec

-- headings, records up to the first that is not the machine's, and the trailer
abbrev pub with_names : List (List ℕ) → List UnitDecl → List Rec → Option ℕ → Option Rec → List ℕ → List ℕ
with_names names units recs n wrong trailer =
    heading_line names units ++ (lines (rule names units) (length names) 1 recs ++ ending (rule names units) (length names) n wrong trailer)

-- a transcript of this system, these records and this trailer, the record `wrong` being the first that is not the machine's
abbrev pub columns : System → List Rec → List ℕ → Option ℕ → List ℕ
columns system recs trailer wrong = with_names (process_names system (sound_part wrong recs)) system.units (sound_part wrong recs) wrong (wrong_record wrong recs) trailer
