use Rattle.std.proofs.Common.{◌≡◌, map, take}
use Rattle.vx_script.specs.Resolving.{decl_of}
use Rattle.vx_script.proofs.resolve.decls_of.Given as goal

abbrev pub invariant-loop-decl : goal.invariant-loop-decl
invariant-loop-decl l = l.decls ≡ map (decl_of l.parts.images) (take l.decl-index l.parts.decls)
