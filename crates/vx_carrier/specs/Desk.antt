-- What lies under the lock.
use Rattle.std.specs.Prelude.{◌≡◌, ℕ, ◌+◌, ◌≤◌, List, [], ◌∷◌, ◌++◌, None, IsSome, length}
use Rattle.vx_base.specs.Lists.{tally}
use Rattle.vx_base.specs.Queues.{in_service}
use Rattle.vx_record.specs.Types.{Event, Rec, UnitNo}
use Rattle.vx_base.specs.declared.record.Event.TheVariants as event
use Rattle.vx_record.specs.Runs.{IsRun, after, end_of, record_of}
use Rattle.vx_units.specs.Leases.{Out, is_out}
use Rattle.vx_exec.specs.Leases.{Leasing, leasing_after, stand_at, with_stand}
use Rattle.vx_exec.specs.View.{Plan}

-- the executive whose units may be out, and its records so far
pub record Desk : Type 0 where
  pub leasing : Leasing
  pub recs : List Rec

-- the records are a run of the plan's system; the executive stands for the state after them, and has counted them
pub record HasRun (plan : Plan) (d : Desk) : Type 0 where
  pub run : IsRun plan.system d.recs
  pub now : d.leasing.exec.state ≡ after plan.system d.recs
  pub counted : d.leasing.exec.taken ≡ length d.recs
  pub limited : d.leasing.exec.limit ≡ plan.limit

-- the run goes on
abbrev pub IsGoing : Leasing → Type 0
IsGoing l = end_of l.exec.limit l.exec.taken l.exec.state ≡ None

-- each unit that serves a request is out
abbrev pub AreOut : Leasing → Type 0
AreOut l = (u : UnitNo) → IsSome (in_service u l.exec.state.requests) → stand_at l u ≡ Out

-- The records are a run. While it goes on each unit that serves is out. There is room for the DON of each that is out.
pub record IsKept (plan : Plan) (d : Desk) (capacity : ℕ) : Type 0 where
  pub run : HasRun plan d
  pub few : plan.limit ≤ 100000
  pub units : length d.leasing.stands ≡ length d.leasing.exec.state.units
  pub out : IsGoing d.leasing → AreOut d.leasing
  pub room : length d.recs + tally is_out d.leasing.stands ≤ capacity

-- the desk after an event
abbrev pub advanced : Desk → Event → Desk
advanced d e = record {
  leasing = leasing_after d.leasing e;
  recs = d.recs ++ record_of d.leasing.exec.state e ∷ [];
}

-- after a BEG the unit is out
abbrev pub opened : Desk → Event → Desk
opened d (event.Beg u) = record (advanced d (event.Beg u)) { leasing = with_stand (advanced d (event.Beg u)).leasing u Out }
opened d e = advanced d e
