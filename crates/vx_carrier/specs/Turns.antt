-- What a turn at the lock does to the history, and how a seat knows.
use Rattle.std.specs.Prelude.{◌≡◌, List, [], ◌∷◌, ◌++◌, Option, Some, None, length, option_map}
use Rattle.vx_record.specs.Types.{End, Event, Rec, Request, UnitNo}
use Rattle.vx_base.specs.Queues.{front, in_service}
use Rattle.vx_base.specs.declared.record.Event.TheVariants as event
use Rattle.vx_record.specs.Runs.{IsRun, after, end_after, record_of}
use Rattle.vx_record.specs.State.{State, unit_at}
use Rattle.vx_units.specs.Leases.{Lease, LeaseServed}
use Rattle.vx_exec.specs.Leases.{first_open}
use Rattle.vx_exec.specs.View.{Plan}
use Rattle.vx_turn.specs.Rule.{StartsWith, numbered}
use Rattle.vx_turn.specs.declared.view.View.{View}
use Rattle.vx_carrier.specs.Desk.{Desk, opened}
use Rattle.vx_carrier.specs.declared.turn.Turn.{Turn}
use Rattle.vx_carrier.specs.declared.turn.Turn.TheVariants.{Took, Nothing, Stale, Ended, NoMemory}

abbrev pub now : Plan → List Rec → State
now plan recs = after plan.system recs

-- how the run of these records has ended, if it has
abbrev pub end : Plan → List Rec → Option End
end plan recs = end_after plan.system recs plan.limit

-- the lease of the unit that takes up its front request
pub record IsLeaseAt (s : State) (u : UnitNo) (lease : Lease) : Type 0 where
  pub unit : lease.unit ≡ u
  pub request : option_map (λ (r : Request). r.req) (front u s.requests) ≡ Some lease.req
  pub contents : lease.contents ≡ unit_at s u

-- what an event hands out: a BEG the unit's lease, and any other nothing
abbrev pub HandsOut : State → Event → Option Lease → Type 0
HandsOut s (event.Beg u) lease = (l : Lease) × (lease ≡ Some l) × IsLeaseAt s u l
HandsOut s other lease = lease ≡ None

-- what taking this event does at the desk
abbrev pub Opens : Desk → Event → Turn → Desk → Type 0
Opens d e (Took lease) after_it = (after_it ≡ opened d e) × HandsOut d.leasing.exec.state e lease
Opens d e NoMemory after_it = after_it ≡ d
Opens d e other after_it = ⊥

-- the event that a turn takes
pub record TakesEvent (plan : Plan) (recs : List Rec) (lease : Option Lease) (more : List Rec) : Type 0 where
  pub going : end plan recs ≡ None
  pub event : Event
  pub first : first_open (now plan recs) ≡ Some event
  pub record_is : more ≡ record_of (now plan recs) event ∷ []
  pub hands : HandsOut (now plan recs) event lease

-- A turn at these records: it takes the first enabled event that ends no service. There may be none, or the run has ended so.
abbrev pub Takes : Plan → List Rec → Turn → List Rec → Type 0
Takes plan recs (Took lease) more = TakesEvent plan recs lease more
Takes plan recs Nothing more = (end plan recs ≡ None) × (first_open (now plan recs) ≡ None) × (more ≡ [])
Takes plan recs Stale more = ⊥
Takes plan recs (Ended e) more = (end plan recs ≡ Some e) × (more ≡ [])
Takes plan recs NoMemory more = more ≡ []

-- the unit serves the request of this lease
abbrev pub Serves : State → LeaseServed → Type 0
Serves s served = option_map (λ (r : Request). r.req.id) (in_service served.lease.unit s.requests) ≡ Some served.lease.req.id

-- the DON that a unit's reply makes
pub record TakesDon (plan : Plan) (recs : List Rec) (served : LeaseServed) (more : List Rec) : Type 0 where
  pub going : end plan recs ≡ None
  pub serves : Serves (now plan recs) served
  pub record_is : more ≡ record_of (now plan recs) (event.Don served.lease.unit) ∷ []

-- A unit is given back at these records: its DON is taken. Its service may be no longer out, or the run has ended so.
abbrev pub Gives : Plan → List Rec → LeaseServed → Turn → List Rec → Type 0
Gives plan recs served (Took lease) more = (lease ≡ None) × TakesDon plan recs served more
Gives plan recs served Nothing more = ⊥
Gives plan recs served Stale more = (end plan recs ≡ None → Serves (now plan recs) served → ⊥) × (more ≡ [])
Gives plan recs served (Ended e) more = (end plan recs ≡ Some e) × Serves (now plan recs) served × (more ≡ [])
Gives plan recs served NoMemory more = ⊥

-- The seat found a run of the system, which goes on from all that it had seen. What the run grew by is the seat's own.
pub record SeatSaw (plan : Plan) (v : View Rec) (found more : List Rec) (w : View Rec) : Type 0 where
  pub run : IsRun plan.system found
  pub later : StartsWith found v.seen
  pub seen : w.seen ≡ found ++ more
  pub own : w.own ≡ v.own ++ numbered (length found) more

pub record SeatTook (plan : Plan) (v : View Rec) (answer : Turn) (w : View Rec) : Type 0 where
  pub found : List Rec
  pub more : List Rec
  pub saw : SeatSaw plan v found more w
  pub took : Takes plan found answer more

pub record SeatGave (plan : Plan) (v : View Rec) (served : LeaseServed) (answer : Turn) (w : View Rec) : Type 0 where
  pub found : List Rec
  pub more : List Rec
  pub saw : SeatSaw plan v found more w
  pub gave : Gives plan found served answer more

-- what a seat had seen and left stays, and more may follow
pub record SeatGrew (v w : View Rec) : Type 0 where
  pub seen : StartsWith w.seen v.seen
  pub own : StartsWith w.own v.own

-- the history has the BEG of this lease
pub record SawBeg (plan : Plan) (seen : List Rec) (lease : Lease) : Type 0 where
  pub before : List Rec
  pub beg : Rec
  pub behind : List Rec
  pub seen_is : seen ≡ before ++ beg ∷ behind
  pub event : beg.event ≡ event.Beg lease.unit
  pub taken : IsLeaseAt (now plan before) lease.unit lease

-- the seat has seen a run that has ended so
pub record SawEnd (plan : Plan) (seen : List Rec) (e : End) : Type 0 where
  pub run : IsRun plan.system seen
  pub ended : end plan seen ≡ Some e

-- if it has ended
abbrev pub AtEnd : Plan → Turn → List Rec → Type 0
AtEnd plan (Ended e) seen = SawEnd plan seen e
AtEnd plan other seen = Unit {0}
