-- A process before its first statement, as the code makes it.
use Rattle.std.specs.Prelude.{◌≡◌, ◌+◌, ◌≤◌, List, [], length, slice_index_or}
use Rattle.vx_base.specs.Quotas.{no_need}
use Rattle.vx_record.specs.Types.{Need, ProcDecl}
use Rattle.vx_record.specs.State.{no_decl}
use Rattle.vx_procs.specs.declared.process.Proc.{Proc}

-- it has a spare frame and a spare AST, none queued, and an account of these limits with nothing used
pub record IsBlank {R : Type 0} (limits : Need) (pr : Proc R) : Type 0 where
  pub frame : length pr.frames.items + 1 ≤ pr.frames.capacity
  pub none : pr.asts.items ≡ []
  pub ast : 1 ≤ pr.asts.capacity
  pub account : pr.account ≡ record { used = no_need; limits = limits }

-- of a declaration among these
abbrev pub IsFresh : {R : Type 0} → List ProcDecl → Proc R → Type 0
IsFresh decls pr = IsBlank (slice_index_or decls pr.decl no_decl).limits pr
