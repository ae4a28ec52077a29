-- The rows of a picture: what each record draws, and what is open after it.
use Rattle.std.specs.Prelude.{ℕ, ◌+◌, List, [], ◌∷◌, ◌++◌, codes, decimal, map, if◌then◌else◌}
use Rattle.vx_base.specs.declared.effects.Effect.{Effect}
use Rattle.vx_base.specs.declared.record.Answer.{Answer}
use Rattle.vx_base.specs.declared.record.Answer.TheVariants as answer
use Rattle.vx_base.specs.declared.record.Event.{Event}
use Rattle.vx_base.specs.declared.record.Event.TheVariants as event
use Rattle.vx_base.specs.declared.record.Rec.{Rec}
use Rattle.vx_image.specs.declared.decl.ProcDecl.{ProcDecl}
use Rattle.vx_lines.specs.Records.{ended_lines, effect_line}
use Rattle.vx_draw.specs.Columns.{deed_text}
use Rattle.vx_draw.specs.Frames.{process_move_text, process_moved, open_bars}
use Rattle.vx_draw.specs.Marks.{answer_marks, effect_marks}
use Rattle.vx_draw.specs.Moves.{mover, is_refused, answer_move, answer_tale, effect_mover, effect_move, effect_tale}
use Rattle.vx_draw.specs.Places.{anchor}
use Rattle.vx_draw.specs.Shapes.{bottom, middle, base, label, titled}
use Rattle.vx_draw.specs.Trails.{tale_text, told}
use Rattle.vx_draw.specs.declared.places.Places.{Places}
use Rattle.vx_draw.specs.declared.rows.Canvas.{Canvas}

-- What a record says, in the column of who acted.

-- a refusal has a mark in front
abbrev pub said_text : Rec → List ℕ
said_text rec = (if is_refused rec.answer then codes "! " else []) ++ deed_text rec

abbrev pub said_title : Rec → List ℕ
said_title rec = deed_text rec ++ 10 ∷ ended_lines (map effect_line rec.effects)

abbrev pub said_class : Answer → List ℕ
said_class (answer.Wait call) = codes "waits"
said_class a = if is_refused a then codes "refused" else codes "done"

-- the text of the record in row n, of who stands at x
unfoldable pub said : ℕ → ℕ → Rec → List ℕ
said n x rec = titled (said_class rec.answer) (x + 6) (base n) (said_text rec) (said_title rec)

-- a row's number
unfoldable pub number_label : ℕ → List ℕ
number_label n = label (codes "n") 44 (base n) (decimal n)

-- What an answer draws.

-- the line along which a unit serves a request is broad
abbrev pub trail_class : Event → List ℕ
trail_class (event.Don u) = codes "serve"
trail_class _ = codes "request"

unfoldable pub answer_text : ℕ → ℕ → Rec → Canvas → List ℕ
answer_text n x rec c =
    process_move_text (mover rec.event rec.answer) (answer_move n c.trails rec.answer) c.stacks
    ++ tale_text (trail_class rec.event) x (middle n) (answer_tale rec.answer) c.trails

unfoldable pub after_answer : ℕ → ℕ → Rec → Canvas → Canvas
after_answer n x rec c = record {
  stacks = process_moved (mover rec.event rec.answer) (answer_move n c.trails rec.answer) c.stacks;
  trails = told x (middle n) (answer_tale rec.answer) c.trails;
}

-- What effects draw.

-- the k-th effect of the record in row n, by the one at x
unfoldable pub effect_text : Places → List (List ℕ) → List ProcDecl → ℕ → ℕ → Event → ℕ → Effect → Canvas → List ℕ
effect_text places boxes decls n x event k e c =
    process_move_text (effect_mover event e) (effect_move n decls c.trails e) c.stacks
    ++ (tale_text (codes "request") x (middle n) (effect_tale e) c.trails ++ effect_marks places boxes n x k e)

unfoldable pub after_effect : List ProcDecl → ℕ → ℕ → Event → Effect → Canvas → Canvas
after_effect decls n x event e c = record {
  stacks = process_moved (effect_mover event e) (effect_move n decls c.trails e) c.stacks;
  trails = told x (middle n) (effect_tale e) c.trails;
}

-- effects, the first of them the k-th
abbrev pub effects_text : Places → List (List ℕ) → List ProcDecl → ℕ → ℕ → Event → ℕ → List Effect → Canvas → List ℕ
effects_text places boxes decls n x event k [] c = []
effects_text places boxes decls n x event k (e ∷ es) c =
    effect_text places boxes decls n x event k e c ++ effects_text places boxes decls n x event (k + 1) es (after_effect decls n x event e c)

abbrev pub after_effects : List ProcDecl → ℕ → ℕ → Event → List Effect → Canvas → Canvas
after_effects decls n x event [] c = c
after_effects decls n x event (e ∷ es) c = after_effects decls n x event es (after_effect decls n x event e c)

-- Rows.

-- the record in row n, by the one at x
unfoldable pub row_text : Places → List (List ℕ) → List ProcDecl → ℕ → ℕ → Rec → Canvas → List ℕ
row_text places boxes decls n x rec c =
    number_label n ++ (answer_text n x rec c ++ (answer_marks n x rec ++ (effects_text places boxes decls n x rec.event 0 rec.effects (after_answer n x rec c) ++ said n x rec)))

unfoldable pub after_row : List ProcDecl → ℕ → ℕ → Rec → Canvas → Canvas
after_row decls n x rec c = after_effects decls n x rec.event rec.effects (after_answer n x rec c)

-- records, the first of them in row n, and the bars of what is open still, down to the end of the row behind the last
abbrev pub rows_text : Places → List (List ℕ) → List ProcDecl → ℕ → List Rec → Canvas → List ℕ
rows_text places boxes decls n [] c = open_bars 1 (bottom n) c.stacks
rows_text places boxes decls n (r ∷ rs) c =
    row_text places boxes decls n (anchor places r.event) r c ++ rows_text places boxes decls (n + 1) rs (after_row decls n (anchor places r.event) r c)
