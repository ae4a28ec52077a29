use Rattle.std.proofs.Common.{length}
use Rattle.std.specs.List.{filter}
use Rattle.vx_reqs.specs.Requests.{is_to_cancel}
use Rattle.vx_io.proofs.Cancelled.{IsCancelling}
use Rattle.vx_io.proofs.cancelling.cancel_requests.Given as goal

abbrev pub invariant-requests : goal.invariant-requests
invariant-requests g l = IsCancelling l.p l.chan l.fn.core l.core

abbrev pub decreases-requests : goal.decreases-requests
decreases-requests g l = length (filter (is_to_cancel l.p l.chan) l.core.state.requests)
