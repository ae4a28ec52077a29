use Rattle.std.proofs.Common.{◌≡◌, ◌+◌, ◌++◌, drop}
use Rattle.vx_draw.specs.Rows.{rows_text}
use Rattle.vx_draw.proofs.rows.print_recs.Given as goal

abbrev pub invariant-loop-i : goal.invariant-loop-i
invariant-loop-i l =
    l.out ++ rows_text l.scene.places l.scene.boxes.now l.scene.decls.now (1 + l.i) (drop l.i l.recs) l.canvas
    ≡ l.fn.out ++ rows_text l.scene.places l.scene.boxes.now l.scene.decls.now 1 l.recs l.fn.canvas
