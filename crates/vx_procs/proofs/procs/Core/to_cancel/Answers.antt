use Rattle.vx_record.proofs.Lists.{some_found}
use Rattle.vx_reqs.specs.Requests.{is_to_cancel}
use Rattle.vx_procs.specs.Requests.{IsOwnRequest}
use Rattle.vx_procs.specs.View.{state}
use Rattle.vx_procs.proofs.procs.Core.to_cancel.Goals as goal

pub returns-clause-own : goal.returns-clause-own
returns-clause-own g c = rw (← c.self.view_is) (some_found (λ r. IsOwnRequest (state c.self.inside) r.req) (is_to_cancel c.args.p c.args.chan) c.self.inside.requests.items c.self.invariant.requests)
