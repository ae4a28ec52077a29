-- A transcript as a picture in SVG: a column for the time, for each process, unit and mailbox, and for clusters, a row a
-- record, and the trailer below.
use Rattle.std.specs.Prelude.{ℕ, Bool, ◌+◌, ◌*◌, ◌==◌, List, [], ◌∷◌, ◌++◌, codes, decimal, flat_map, length, drop, Option, Some, None, if◌then◌else◌}
use Rattle.std.specs.List.{count_by}
use Rattle.vx_base.specs.declared.record.Rec.{Rec}
use Rattle.vx_image.specs.declared.decl.ProcDecl.{ProcDecl}
use Rattle.vx_image.specs.declared.system.System.{System}
use Rattle.vx_image.specs.declared.unit.UnitDecl.{UnitDecl}
use Rattle.vx_draw.specs.Boxes.{box_names}
use Rattle.vx_draw.specs.Columns.{deed_text, doubt, sound_part, wrong_record}
use Rattle.vx_draw.specs.Headings.{process_names, has_clusters}
use Rattle.vx_draw.specs.Moves.{runs_from}
use Rattle.vx_draw.specs.Places.{columns_of, process_x, box_x, anchor}
use Rattle.vx_draw.specs.Rows.{number_label, rows_text}
use Rattle.vx_draw.specs.Shapes.{top, bottom, base, attribute, label, stroke, escaped_byte}
use Rattle.vx_draw.specs.declared.style.TheConstants.{HEAD, STYLE}
use Rattle.vx_draw.specs.declared.frames.Bar.{Bar}
use Rattle.vx_draw.specs.declared.places.Places.{Places}
use Rattle.vx_draw.specs.declared.rows.Canvas.{Canvas}

-- The columns.

-- a heading at x, and its column down to a height
unfoldable pub heading : ℕ → ℕ → List ℕ → List ℕ
heading x until text = stroke (codes "rule") x 40 x until ++ label (codes "h") (x + 4) 32 text

-- headings of processes, the first of them with the number n
abbrev pub process_headings : ℕ → ℕ → List (List ℕ) → List ℕ
process_headings until n [] = []
process_headings until n (name ∷ names) = heading (process_x n) until (decimal n ++ 32 ∷ name) ++ process_headings until (n + 1) names

-- headings of units, the first of them at x
abbrev pub unit_headings : Places → ℕ → ℕ → List UnitDecl → List ℕ
unit_headings places until n [] = []
unit_headings places until n (unit ∷ units) = heading (places.units + 150 * n) until unit.name ++ unit_headings places until (n + 1) units

-- headings of mailboxes, the first of them with the place i
abbrev pub box_headings : Places → ℕ → ℕ → List (List ℕ) → List ℕ
box_headings places until i [] = []
box_headings places until i (name ∷ names) = heading (box_x places i) until name ++ box_headings places until (i + 1) names

-- the last column, which has clusters or nothing
unfoldable pub last_heading : Places → ℕ → Bool → List ℕ
last_heading places until clusters = heading places.clusters until (if clusters then codes "clusters" else [])

unfoldable pub headings : Places → ℕ → List (List ℕ) → List UnitDecl → List (List ℕ) → Bool → List ℕ
headings places until names units boxes clusters =
    process_headings until 1 names
    ++ (unit_headings places until 0 units
    ++ (box_headings places until 0 boxes ++ last_heading places until clusters))

-- What is open before the first record: the images of the processes that are there from the start.

abbrev pub started_stack : ProcDecl → List (List Bar)
started_stack decl = if decl.start then (runs_from decl.mode (top 1) ∷ []) ∷ [] else []

abbrev pub started_stacks : List ProcDecl → List (List Bar)
started_stacks decls = flat_map started_stack decls

abbrev pub no_frames : List (List ℕ) → List (List Bar)
no_frames names = flat_map (λ name. [] ∷ []) names

abbrev pub first_canvas : List ProcDecl → List (List ℕ) → Canvas
first_canvas decls names = record { stacks = started_stacks decls ++ no_frames (drop (length (started_stacks decls)) names); trails = [] }

-- Below the rows.

unfoldable pub next_line : List ℕ
next_line = codes "</tspan><tspan x=\"8\" dy=\"18\">"

-- a byte of the trailer; a line feed begins the next line
unfoldable pub trailer_byte : ℕ → List ℕ
trailer_byte b = if b == 10 then next_line else escaped_byte b

unfoldable pub trailer_open : List ℕ
trailer_open = codes "<text class=\"t\" y=\""

unfoldable pub first_line : List ℕ
first_line = codes "\"><tspan x=\"8\" dy=\"18\">"

-- the trailer below row n
unfoldable pub trailer_text : ℕ → List ℕ → List ℕ
trailer_text n trailer = trailer_open ++ (decimal (bottom n) ++ (first_line ++ (flat_map trailer_byte trailer ++ codes "</tspan></text>\n")))

abbrev pub wrong_text : Rec → List ℕ
wrong_text rec = doubt ++ deed_text rec

-- the record in row n, which is not the machine's
unfoldable pub wrong_row : Places → ℕ → Rec → List ℕ
wrong_row places n rec = number_label n ++ label (codes "wrong") (anchor places rec.event + 6) (base n) (wrong_text rec)

-- what stands below the rows, of which there are n
unfoldable pub below : Places → ℕ → Option ℕ → Option Rec → List ℕ → List ℕ
below places n None wrong trailer = trailer_text n trailer
below places n (Some k) None trailer = label (codes "wrong") 8 (base (n + 1)) doubt ++ trailer_text (n + 1) trailer
below places n (Some k) (Some rec) trailer = wrong_row places (n + 1) rec

-- The picture.

-- how high a picture of so many rows is
abbrev pub height : ℕ → List ℕ → ℕ
height n trailer = top (n + 5) + 18 * count_by (λ b. b == 10) trailer

unfoldable pub start : ℕ → ℕ → List ℕ
start width height = HEAD.now ++ (attribute (codes " width=\"") width ++ (attribute (codes " height=\"") height ++ (codes ">\n" ++ STYLE.now)))

abbrev pub with_names : Places → ℕ → List (List ℕ) → List (List ℕ) → System → List Rec → List ℕ → List ℕ
with_names places until names boxes system recs below =
    start places.end until
    ++ (headings places until names system.units boxes (has_clusters recs)
    ++ (rows_text places boxes system.decls 1 recs (first_canvas system.decls names) ++ (below ++ codes "</svg>\n")))

-- a picture of columns with these names
abbrev pub picture_of : Places → List (List ℕ) → List (List ℕ) → System → List Rec → List ℕ → Option ℕ → Option Rec → List ℕ
picture_of places names boxes system recs trailer n wrong =
    with_names places (height (length recs) trailer) names boxes system recs (below places (length recs) n wrong trailer)

-- a picture with these names of processes and of mailboxes
abbrev pub named_picture : List (List ℕ) → List (List ℕ) → System → List Rec → List ℕ → Option ℕ → Option Rec → List ℕ
named_picture names boxes system recs trailer n wrong =
    picture_of (columns_of (length names) (length system.units) (length boxes) (has_clusters recs)) names boxes system recs trailer n wrong

-- a transcript of this system, these records and this trailer, the record `wrong` being the first that is not the machine's
abbrev pub picture : System → List Rec → List ℕ → Option ℕ → List ℕ
picture system recs trailer wrong =
    named_picture (process_names system (sound_part wrong recs)) (box_names [] (sound_part wrong recs)) system (sound_part wrong recs) trailer wrong (wrong_record wrong recs)
