-- The units of the script as they are kept.
use Rattle.std.specs.Prelude.{◌≡◌, [], false, Option, Some, None}
use Rattle.vx_base.specs.Log.{Log, HasRoom}
use Rattle.vx_record.specs.Types.{DeviceUnit, Req, UnitNo}
use Rattle.vx_units.specs.Leases.{Lease, Stand, Home, is_out}

-- what was made for the end of a unit's next service: the log in which it is told, the request that is asked of the unit, and
-- where the unit's contents are
pub record Ending : Type 0 where
  pub log : Log
  pub asked : Req
  pub stand : Stand

-- a unit, and what the end of its next service needs, if that was made
pub record Kept : Type 0 where
  pub unit : DeviceUnit
  pub ending : Option Ending

-- a log for the end of a service: it has room for five effects, and none yet
pub record IsForEnd (log : Log) : Type 0 where
  pub none : log.items ≡ []
  pub room : HasRoom log 5

-- the log for the end of a service
abbrev pub log_of : Option Ending → Option Log
log_of None = None
log_of (Some e) = Some e.log

-- the request that the unit is asked
abbrev pub asked_of : Option Ending → Option Req
asked_of None = None
asked_of (Some e) = Some e.asked

-- where a unit's contents are: at home, if nothing was made for the end of a service
abbrev pub stand_of : Option Ending → Stand
stand_of None = Home
stand_of (Some e) = e.stand

abbrev pub stood : Stand → Option Ending → Option Ending
stood stand None = None
stood stand (Some e) = Some (record e { stand = stand })

-- the contents are not out
abbrev pub IsIn : Kept → Type 0
IsIn k = is_out (stand_of k.ending) ≡ false

-- what the end of a service of a request needs is there, and the unit is at home
pub record IsMadeFor (ending : Option Ending) (req : Req) : Type 0 where
  pub asked : asked_of ending ≡ Some req
  pub home : stand_of ending ≡ Home

-- this lease was taken out of it, as unit u
pub record IsTakenOf (kept : Kept) (u : UnitNo) (lease : Lease) : Type 0 where
  pub unit : lease.unit ≡ u
  pub made : IsMadeFor kept.ending lease.req
  pub contents : lease.contents ≡ kept.unit
