use Rattle.std.proofs.Common.{◌≡◌, ◌++◌, map, take}
use Rattle.vx_script.specs.Script.{ended_lines, decl_line}
use Rattle.vx_script.proofs.print.print_processes.Given as goal

abbrev pub invariant-loop-decl : goal.invariant-loop-decl
invariant-loop-decl l = l.out ≡ l.fn.out ++ ended_lines (map (decl_line l.images) (take l.decl-index l.decls))
