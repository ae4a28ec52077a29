use Rattle.std.proofs.Common.{length}
use Rattle.vx_record.specs.Rundown.{is_ast_reached}
use Rattle.vx_record.specs.State.{process_at}
use Rattle.vx_rundown.proofs.Shelf.{IsDropping, asts}
use Rattle.vx_rundown.proofs.mode.drop_asts.Given as goal

abbrev pub invariant-asts : goal.invariant-asts
invariant-asts g l = IsDropping asts l.p (is_ast_reached l.mode) l.fn.core l.core

abbrev pub decreases-asts : goal.decreases-asts
decreases-asts g l = length (process_at l.core.state l.p).asts
