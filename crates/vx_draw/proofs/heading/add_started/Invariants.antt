use Rattle.std.proofs.Common.{◌≡◌, ◌++◌, take}
use Rattle.vx_draw.specs.Headings.{started_names}
use Rattle.vx_draw.proofs.heading.add_started.Given as goal

abbrev pub invariant-loop-decl : goal.invariant-loop-decl
invariant-loop-decl l = l.names ≡ l.fn.names ++ started_names (take l.decl-index l.decls)
