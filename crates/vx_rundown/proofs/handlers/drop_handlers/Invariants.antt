use Rattle.std.proofs.Common.{length}
use Rattle.vx_record.specs.State.{process_at}
use Rattle.vx_procs.specs.Handlers.{is_sought}
use Rattle.vx_rundown.proofs.Shelf.{IsDropping, handlers}
use Rattle.vx_rundown.proofs.handlers.drop_handlers.Given as goal

abbrev pub invariant-handlers : goal.invariant-handlers
invariant-handlers g l = IsDropping handlers l.p (is_sought l.which) l.fn.core l.core

abbrev pub decreases-handlers : goal.decreases-handlers
decreases-handlers g l = length (process_at l.core.state l.p).handlers
