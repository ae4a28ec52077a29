-- The marks of effects: of flags, messages, mailboxes, clusters, and of processes that begin and end.
use Rattle.std.specs.Prelude.{ℕ, ◌+◌, ◌*◌, ◌%◌, ◌==◌, Bool, true, false, List, [], ◌∷◌, ◌++◌, codes, decimal, map, Option, Some, None, if◌then◌else◌, unwrap_or}
use Rattle.vx_base.specs.declared.effects.Cell.{Cell}
use Rattle.vx_base.specs.declared.effects.Cell.TheVariants as cell
use Rattle.vx_base.specs.declared.effects.Effect.{Effect}
use Rattle.vx_base.specs.declared.effects.Effect.TheVariants as effect
use Rattle.vx_base.specs.declared.number.Pid.{Pid}
use Rattle.vx_base.specs.declared.record.Answer.{Answer}
use Rattle.vx_base.specs.declared.record.Answer.TheVariants as answer
use Rattle.vx_base.specs.declared.record.Event.{Event}
use Rattle.vx_base.specs.declared.record.Rec.{Rec}
use Rattle.vx_base.specs.declared.service.Service.{Service}
use Rattle.vx_base.specs.declared.service.Service.TheVariants as service
use Rattle.vx_base.specs.Cond.{severity_of}
use Rattle.vx_draw.specs.Boxes.{place_of}
use Rattle.vx_draw.specs.Columns.{deed_text}
use Rattle.vx_draw.specs.Moves.{is_success, named_by, actor}
use Rattle.vx_lines.specs.Records.{ended_lines, effect_line, id_text}
use Rattle.vx_draw.specs.Places.{process_x, box_x}
use Rattle.vx_draw.specs.Shapes.{top, base, stroke, figure, label}
use Rattle.vx_draw.specs.declared.marks.Figure.{Figure}
use Rattle.vx_draw.specs.declared.marks.Figure.TheVariants as fig
use Rattle.vx_draw.specs.declared.marks.Mark.{Mark}
use Rattle.vx_draw.specs.declared.places.Places.{Places}

abbrev pub figure_shape : Figure → List ℕ
figure_shape fig.Square = codes "h8v8h-8z"
figure_shape fig.Down = codes "h8l-4 8z"
figure_shape fig.Up = codes "m0 8h8l-4 -8z"
figure_shape fig.Diamond = codes "m4 0l4 4l-4 4l-4 -4z"
figure_shape fig.Cross = codes "l8 8m0 -8l-8 8"

-- what there is now is filled, what is gone is hollow
abbrev pub fill_class : Bool → List ℕ
fill_class filled = if filled then codes "on" else codes "off"

-- a mark in the column of process p, the k-th of its row
abbrev pub process_mark : ℕ → Pid → Figure → Bool → Mark
process_mark k p figure filled = record { x = process_x p.0 + (388 + 24 * (k % 2)); owner = process_x p.0 + 50; figure = figure; filled = filled }

-- a mark in a column that is nobody's
abbrev pub shared_mark : ℕ → Figure → Bool → Mark
shared_mark x figure filled = record { x = x; owner = 0; figure = figure; filled = filled }

abbrev pub flag_mark : Places → ℕ → Cell → Bool → Mark
flag_mark places k (cell.Local p efn) bit = process_mark k p fig.Square bit
flag_mark places k (cell.Common group name n) bit = shared_mark places.clusters fig.Square bit

-- a mark in a mailbox's column, so far from its start
abbrev pub box_mark : Places → List (List ℕ) → List ℕ → ℕ → Figure → Bool → Mark
box_mark places boxes name shift figure filled = shared_mark (box_x places (unwrap_or (place_of boxes name) 0) + shift) figure filled

-- the mark of the k-th effect of a record, if it has one: what is written to a mailbox stands left of what is read
abbrev pub mark_of : Places → List (List ℕ) → ℕ → Effect → Option Mark
mark_of places boxes k (effect.Flag c bit) = Some (flag_mark places k c bit)
mark_of places boxes k (effect.MPut name id body) = Some (box_mark places boxes name 6 fig.Down true)
mark_of places boxes k (effect.MGet name w r) = Some (box_mark places boxes name 60 fig.Up false)
mark_of places boxes k (effect.MCut name w) = Some (box_mark places boxes name 60 fig.Cross false)
mark_of places boxes k (effect.Mbx name bit) = Some (box_mark places boxes name 6 fig.Diamond bit)
mark_of places boxes k (effect.Cef group name bit) = Some (shared_mark places.clusters fig.Diamond bit)
mark_of places boxes k (effect.New p name) = Some (process_mark k p fig.Down true)
mark_of places boxes k (effect.Gone p) = Some (process_mark k p fig.Cross false)
mark_of places boxes k _ = None

-- the mark of a service that reaches process q
abbrev pub service_mark : Service → Pid → Option Mark
service_mark service.Wake q = Some (process_mark 0 q fig.Down true)
service_mark service.Resume q = Some (process_mark 0 q fig.Down false)
service_mark service.Suspnd q = Some (process_mark 0 q fig.Cross true)
service_mark _ q = None

abbrev pub answer_mark : Event → Answer → Option Mark
answer_mark e (answer.Service call cond) = if is_success (severity_of cond) then service_mark call.service (named_by call.args.a0 (actor e)) else None
answer_mark e _ = None

abbrev pub cell_label : Cell → List ℕ
cell_label (cell.Local p efn) = decimal efn
cell_label (cell.Common group name n) = name ++ 58 ∷ decimal n

-- what stands beside the mark of an effect
abbrev pub effect_label : Effect → List ℕ
effect_label (effect.Flag c bit) = cell_label c
effect_label (effect.MPut name id body) = id_text id
effect_label (effect.MGet name w r) = id_text w
effect_label (effect.MCut name w) = id_text w
effect_label (effect.Cef group name bit) = name
effect_label _ = []

-- a line below its row from who acted to a mark in another column
abbrev pub tie : ℕ → ℕ → Mark → List ℕ
tie n from mark = if mark.owner == from then [] else stroke (codes "tie") from (base n + 4) mark.x (base n + 4)

-- a mark in row n, of what the one at `from` did
unfoldable pub mark_text : ℕ → ℕ → Mark → List ℕ → List ℕ → List ℕ
mark_text n from mark beside title =
    tie n from mark ++ (figure (fill_class mark.filled) mark.x (top n + 5) (figure_shape mark.figure) title ++ label (codes "m") (mark.x + 11) (base n) beside)

-- the line of an effect, as records have it
abbrev pub effect_title : Effect → List ℕ
effect_title e = ended_lines (map effect_line (e ∷ []))

abbrev pub marked_text : ℕ → ℕ → Option Mark → Effect → List ℕ
marked_text n from None e = []
marked_text n from (Some mark) e = mark_text n from mark (effect_label e) (effect_title e)

-- what the k-th effect of the record in row n is marked with
unfoldable pub effect_marks : Places → List (List ℕ) → ℕ → ℕ → ℕ → Effect → List ℕ
effect_marks places boxes n from k e = marked_text n from (mark_of places boxes k e) e

abbrev pub reached_text : ℕ → ℕ → Option Mark → Rec → List ℕ
reached_text n from None rec = []
reached_text n from (Some mark) rec = mark_text n from mark [] (deed_text rec)

-- what the service of the record in row n is marked with
unfoldable pub answer_marks : ℕ → ℕ → Rec → List ℕ
answer_marks n from rec = reached_text n from (answer_mark rec.event rec.answer) rec
