use Rattle.vx_io.proofs.Cancelled.{cancelling_begun, cancelling_end, cancelling_fewer, cancelling_next, cancelling_on, cancelling_room}
use Rattle.vx_io.proofs.cancelling.cancel_requests.Goals as goal

pub requests-init : goal.requests-init
requests-init g c = cancelling_begun c.args.p c.args.chan c.args.core.now c.requires.open c.requires.room

pub cancel_request-requires-clause-open : goal.cancel_request-requires-clause-open
cancel_request-requires-clause-open g c = cancelling_next c.args.p c.args.chan c.args.core.now c.requests.core c.in-Some.id c.requests.invariant c.in-Some.ensures.id

pub cancel_request-requires-clause-room : goal.cancel_request-requires-clause-room
cancel_request-requires-clause-room g c = cancelling_room c.args.p c.args.chan c.args.core.now c.requests.core c.in-Some.id c.requests.invariant c.in-Some.ensures.id

pub requests-smaller : goal.requests-smaller
requests-smaller g c = cancelling_fewer c.args.p c.args.chan c.args.core.now c.requests.core c.cancel_request.new.core c.in-Some.id c.requests.invariant c.in-Some.ensures.id c.cancel_request.ensures

pub requests-preserved : goal.requests-preserved
requests-preserved g c = cancelling_on c.args.p c.args.chan c.args.core.now c.requests.core c.cancel_request.new.core c.in-Some.id c.requests.invariant c.in-Some.ensures.id c.cancel_request.ensures

pub returns : goal.returns
returns g c = cancelling_end c.args.p c.args.chan c.args.core.now c.requests.core c.requests.invariant c.in_default.ensures.id
