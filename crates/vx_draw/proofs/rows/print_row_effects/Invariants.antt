use Rattle.std.proofs.Common.{◌≡◌, ◌++◌, drop}
use Rattle.vx_draw.specs.Rows.{effects_text, after_effects}
use Rattle.vx_draw.proofs.rows.print_row_effects.Given as goal

abbrev pub invariant-loop-k : goal.invariant-loop-k
invariant-loop-k l =
    (l.out ++ effects_text l.scene.places l.scene.boxes.now l.scene.decls.now l.spot.row l.spot.x l.rec.event l.k (drop l.k l.rec.effects) l.canvas
    ≡ l.fn.out ++ effects_text l.scene.places l.scene.boxes.now l.scene.decls.now l.spot.row l.spot.x l.rec.event 0 l.rec.effects l.fn.canvas)
    × (after_effects l.scene.decls.now l.spot.row l.spot.x l.rec.event (drop l.k l.rec.effects) l.canvas
    ≡ after_effects l.scene.decls.now l.spot.row l.spot.x l.rec.event l.rec.effects l.fn.canvas)
