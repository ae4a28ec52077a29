use Rattle.std.proofs.Common.{◌≡◌, ◌++◌, drop}
use Rattle.vx_script.specs.Script.{ended_lines, body_lines}
use Rattle.vx_script.proofs.print_image.print_body.Given as goal

abbrev pub invariant-loop-place : goal.invariant-loop-place
invariant-loop-place l =
    l.out ++ ended_lines (body_lines l.labels l.place l.left (drop l.place l.stmts))
    ≡ l.fn.out ++ ended_lines (body_lines l.labels 0 l.labels l.stmts)
