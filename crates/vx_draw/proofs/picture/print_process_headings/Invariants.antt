use Rattle.std.proofs.Common.{◌≡◌, ◌+◌, ◌++◌, drop}
use Rattle.vx_draw.specs.Picture.{process_headings}
use Rattle.vx_draw.proofs.picture.print_process_headings.Given as goal

abbrev pub invariant-loop-i : goal.invariant-loop-i
invariant-loop-i l = l.out ++ process_headings l.until (1 + l.i) (drop l.i l.names) ≡ l.fn.out ++ process_headings l.until 1 l.names
