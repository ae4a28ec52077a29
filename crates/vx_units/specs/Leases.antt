-- A unit that was taken out to be served, and what came of it.
use Rattle.std.specs.Prelude.{◌≡◌, ◌<◌, Bool, true, false, Some, None, IsTrue}
use Rattle.vx_base.specs.Pieces.{DeviceUnit}
use Rattle.vx_base.specs.Serving.{serve, settled}
use Rattle.vx_base.specs.declared.number.UnitNo.{UnitNo}
use Rattle.vx_base.specs.declared.request.Req.{Req}
use Rattle.vx_base.specs.declared.request.Reply.{Reply}
use Rattle.vx_units.specs.Units.{Serving, is_for_unit}

-- where the contents of a unit are: in the executive, out on a lease, or back with the reply
pub data Stand : Type 0 where
  Home : Stand
  Out : Stand
  Back : Stand

abbrev pub is_out : Stand → Bool
is_out Home = false
is_out Out = true
is_out Back = false

-- which unit it is, the request that it serves, and what it holds
pub record Lease : Type 0 where
  pub unit : UnitNo
  pub req : Req
  pub contents : DeviceUnit

-- a lease whose service is done, with the reply; the unit holds what it will hold only at its DON
pub record LeaseServed : Type 0 where
  pub lease : Lease
  pub reply : Reply

abbrev pub serve_lease : Lease → LeaseServed
serve_lease l = record { lease = l; reply = (serve l.contents l.req).reply }

-- a unit is ready to serve a request: none is pending, and its services can be counted on
pub record IsReadyFor (unit : Serving) (req : Req) : Type 0 where
  pub fits : IsTrue (is_for_unit req)
  pub idle : unit.pending ≡ None
  pub ready : IsTrue unit.ready
  pub count : unit.unit.services < 4294967295

-- a unit has served a request, with this reply, and the service is pending
pub record HasServed (unit : Serving) (req : Req) (reply : Reply) : Type 0 where
  pub pending : unit.pending ≡ Some (settled unit.unit req)
  pub answer : reply ≡ (serve unit.unit req).reply
