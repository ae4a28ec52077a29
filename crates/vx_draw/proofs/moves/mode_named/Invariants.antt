use Rattle.std.proofs.Common.{◌≡◌, drop}
use Rattle.vx_draw.specs.Moves.{mode_named}
use Rattle.vx_draw.proofs.moves.mode_named.Given as goal

abbrev pub invariant-loop-decl : goal.invariant-loop-decl
invariant-loop-decl l = mode_named (drop l.decl-index l.decls) l.name ≡ mode_named l.decls l.name
