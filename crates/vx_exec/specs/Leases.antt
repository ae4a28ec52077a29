-- An executive whose units may be out on leases.
use Rattle.std.specs.Prelude.{◌≡◌, List, Bool, false, not, Option, Some, IsSome, option_map, slice_index_or, slice_set, ⊤}
use Rattle.std.specs.List.{find}
use Rattle.vx_record.specs.Types.{Event, Id, Request, UnitNo}
use Rattle.vx_base.specs.Queues.{in_service}
use Rattle.vx_base.specs.declared.record.Event.TheVariants as event
use Rattle.vx_record.specs.Events.{enabled, is_don}
use Rattle.vx_record.specs.State.{State, unit_at}
use Rattle.vx_units.specs.Leases.{Lease, LeaseServed, Stand, Home, Out, is_out}
use Rattle.vx_exec.specs.View.{Executive, after_step}

-- an executive whose units may be out: the executive it stands for, and where each unit's contents are
pub record Leasing : Type 0 where
  pub exec : Executive
  pub stands : List Stand

abbrev pub stand_at : Leasing → UnitNo → Stand
stand_at l u = slice_index_or l.stands u.0 Home

abbrev pub with_stand : Leasing → UnitNo → Stand → Leasing
with_stand l u k = record l { stands = slice_set l.stands u.0 k }

-- no lease is out
abbrev pub AreIn : Leasing → Type 0
AreIn l = (u : UnitNo) → is_out (stand_at l u) ≡ false

-- the service of a request of unit u with this id is out
pub record IsOutFor (l : Leasing) (u : UnitNo) (id : Id) : Type 0 where
  pub out : stand_at l u ≡ Out
  pub asked : option_map (λ (r : Request). r.req.id) (in_service u l.exec.state.requests) ≡ Some id

-- what is given back is the lease of the unit that is out, served
pub record Fits (l : Leasing) (s : LeaseServed) : Type 0 where
  pub out : stand_at l s.lease.unit ≡ Out
  pub request : option_map (λ (r : Request). r.req) (in_service s.lease.unit l.exec.state.requests) ≡ Some s.lease.req
  pub contents : s.lease.contents ≡ unit_at l.exec.state s.lease.unit

-- the unit serves a request, and its contents are in the executive and were not given back
pub record IsToLease (l : Leasing) (u : UnitNo) : Type 0 where
  pub serves : IsSome (in_service u l.exec.state.requests)
  pub home : stand_at l u ≡ Home

-- the lease of unit u as it stands
pub record IsLeaseOf (l : Leasing) (u : UnitNo) (lease : Lease) : Type 0 where
  pub unit : lease.unit ≡ u
  pub home : stand_at l u ≡ Home
  pub request : option_map (λ (r : Request). r.req) (in_service u l.exec.state.requests) ≡ Some lease.req
  pub contents : lease.contents ≡ unit_at l.exec.state u

-- the contents of the unit of a DON are in the executive
abbrev pub IsInFor : Leasing → Event → Type 0
IsInFor l (event.Don u) = is_out (stand_at l u) ≡ false
IsInFor l other = ⊤

-- after a BEG or a DON the unit's contents are home; all else stays
abbrev pub stands_after : Event → List Stand → List Stand
stands_after (event.Beg u) ks = slice_set ks u.0 Home
stands_after (event.Don u) ks = slice_set ks u.0 Home
stands_after other ks = ks

-- after a step
abbrev pub leasing_after : Leasing → Event → Leasing
leasing_after l e = record { exec = after_step l.exec e; stands = stands_after e l.stands }

-- an event ends no service
abbrev pub is_open : Event → Bool
is_open e = not (is_don e)

-- the first enabled event that ends no service
abbrev pub first_open : State → Option Event
first_open s = find is_open (enabled s)
