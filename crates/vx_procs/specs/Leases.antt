-- Units that leave to be served, and come back.
use Rattle.std.specs.Prelude.{◌≡◌, Option, Some, IsSome, option_map}
use Rattle.vx_record.specs.Types.{Id, Req, Request, UnitNo}
use Rattle.vx_base.specs.Queues.{in_service}
use Rattle.vx_record.specs.State.{unit_at}
use Rattle.vx_units.specs.Leases.{Lease, LeaseServed, Home, Out}
use Rattle.vx_procs.specs.Kernel.{Kernel, stand_for}

-- the request that a unit serves
abbrev pub served_by : Kernel → UnitNo → Option Req
served_by k u = option_map (λ (r : Request). r.req) (in_service u k.state.requests)

-- the service of a request of unit u with this id is out
pub record IsOutFor (k : Kernel) (u : UnitNo) (id : Id) : Type 0 where
  pub out : stand_for k u ≡ Out
  pub request : option_map (λ (r : Request). r.req.id) (in_service u k.state.requests) ≡ Some id

-- what is given back is the lease of the unit that is out, served
pub record IsOfOut (k : Kernel) (s : LeaseServed) : Type 0 where
  pub out : stand_for k s.lease.unit ≡ Out
  pub request : served_by k s.lease.unit ≡ Some s.lease.req
  pub contents : s.lease.contents ≡ unit_at k.state s.lease.unit

-- the unit serves a request, and its contents are home and were not given back
pub record IsToLease (k : Kernel) (u : UnitNo) : Type 0 where
  pub serves : IsSome (in_service u k.state.requests)
  pub home : stand_for k u ≡ Home

-- the lease of unit u as it stands
pub record IsLeaseOf (k : Kernel) (u : UnitNo) (lease : Lease) : Type 0 where
  pub unit : lease.unit ≡ u
  pub home : stand_for k u ≡ Home
  pub request : served_by k u ≡ Some lease.req
  pub contents : lease.contents ≡ unit_at k.state u
