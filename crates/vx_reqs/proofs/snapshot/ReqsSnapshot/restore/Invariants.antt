use Rattle.std.proofs.Common.{◌≡◌, take}
use Rattle.vx_reqs.proofs.snapshot.ReqsSnapshot.restore.Given as goal

abbrev pub invariant-loop-request : goal.invariant-loop-request
invariant-loop-request g l = l.reqs.items ≡ take l.request-index l.self
