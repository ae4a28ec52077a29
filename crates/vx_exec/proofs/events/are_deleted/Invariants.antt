use Rattle.std.proofs.Common.{◌≡◌, drop}
use Rattle.std.specs.List.{list_all}
use Rattle.vx_record.specs.Control.{is_deleted}
use Rattle.vx_exec.proofs.events.are_deleted.Given as goal

abbrev pub invariant-loop-place : goal.invariant-loop-place
invariant-loop-place g l = list_all is_deleted (drop l.place l.core.state.procs) ≡ list_all is_deleted l.core.state.procs
