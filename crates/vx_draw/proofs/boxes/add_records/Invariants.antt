use Rattle.std.proofs.Common.{◌≡◌, drop}
use Rattle.vx_draw.specs.Boxes.{box_names}
use Rattle.vx_draw.proofs.boxes.add_records.Given as goal

abbrev pub invariant-loop-rec : goal.invariant-loop-rec
invariant-loop-rec l = box_names l.boxes (drop l.rec-index l.recs) ≡ box_names l.fn.boxes l.recs
