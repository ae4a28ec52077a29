-- A unit as the code keeps it: what is there of it, and what it is asked.
use Rattle.std.specs.Prelude.{◌≡◌, Option, Some, None, IsTrue}
use Rattle.vx_base.specs.Log.{Log}
use Rattle.vx_record.specs.Types.{DeviceUnit, Reply, Req}
use Rattle.vx_units.specs.Any.{seen}
use Rattle.vx_units.specs.Leases.{HasServed, Home, Out, Back}
use Rattle.vx_units.specs.Units.{Serving, is_for_unit}
use Rattle.vx_procs.specs.Units.{Ending, IsForEnd}
use Rattle.vx_procs.specs.declared.kept.Contents.{Contents}
use Rattle.vx_procs.specs.declared.kept.Contents.TheVariants.{Here, Away}
use Rattle.vx_procs.specs.declared.kept.Asked.{Asked}
use Rattle.vx_procs.specs.declared.kept.Asked.TheVariants as asked

-- what the unit holds, or held as it left
abbrev pub unit_in : Contents → DeviceUnit
unit_in (Here unit) = (seen unit).unit
unit_in (Away unit) = (seen unit.value).unit

-- what the end of its next service needs
abbrev pub ending_in : Asked → Option Ending
ending_in asked.Nothing = None
ending_in (asked.Ready req log) = Some (record { log = log; asked = req; stand = Home })
ending_in (asked.Out req log) = Some (record { log = log; asked = req.value; stand = Out })
ending_in (asked.Served req reply log) = Some (record { log = log; asked = req; stand = Back })

-- a unit is ready for a service of a request, which is told in this log
pub record IsToServe (unit : Serving) (req : Req) (log : Log) : Type 0 where
  pub fits : IsTrue (is_for_unit req)
  pub idle : unit.pending ≡ None
  pub ready : IsTrue unit.ready
  pub empty : IsForEnd log

-- a unit has served a request, with this reply; the end of the service is to be told in this log
pub record IsToSettle (unit : Serving) (req : Req) (reply : Reply) (log : Log) : Type 0 where
  pub served : HasServed unit req reply
  pub empty : IsForEnd log

-- what a unit that is there has pending
abbrev pub IsHere : Serving → Asked → Type 0
IsHere unit asked.Nothing = unit.pending ≡ None
IsHere unit (asked.Ready req log) = IsToServe unit req log
IsHere unit (asked.Out req log) = ⊥
IsHere unit (asked.Served req reply log) = IsToSettle unit req reply log

-- a unit that is not there is out
abbrev pub IsAway : Asked → Type 0
IsAway asked.Nothing = ⊥
IsAway (asked.Ready req log) = ⊥
IsAway (asked.Out req log) = IsForEnd log
IsAway (asked.Served req reply log) = ⊥

abbrev pub IsKept : Contents → Asked → Type 0
IsKept (Here unit) asked = IsHere (seen unit) asked
IsKept (Away unit) asked = IsAway asked
