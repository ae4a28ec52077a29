use Rattle.std.proofs.Common.{◌≡◌, ◌++◌, take}
use Rattle.vx_draw.specs.Picture.{started_stacks}
use Rattle.vx_draw.proofs.picture.add_started.Given as goal

abbrev pub invariant-loop-decl : goal.invariant-loop-decl
invariant-loop-decl l = l.stacks ≡ l.fn.stacks ++ started_stacks (take l.decl-index l.decls)
