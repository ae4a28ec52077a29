-- What an event relies on, once room was made for it.
use Rattle.std.specs.Prelude.{◌≡◌, ℕ, [], Option, Some, None, true, false, ◌+◌, ◌*◌, ◌≤◌, IsSome, IsTrue, length, ⊤, ◌^◌, ◌<◌}
use Rattle.vx_base.specs.Queues.{front, in_service}
use Rattle.vx_record.specs.Types.{Entry, Event, Id, Mode, Pid, Stop, UnitNo}
use Rattle.vx_base.specs.declared.record.Event.TheVariants as event
use Rattle.vx_base.specs.Services.{is_call}
use Rattle.vx_image.specs.declared.stop.Stop.TheVariants as stop
use Rattle.vx_record.specs.State.{State, IsProcess, process_at, unit_at}
use Rattle.vx_record.specs.Events.{started, step}
use Rattle.vx_record.specs.Parts.{Part}
use Rattle.vx_record.specs.Sound.{AreOrdered, WaitsStand, timer_id}
use Rattle.vx_io.specs.Asking.{AreOpen}
use Rattle.vx_io.specs.Finishing.{AreRequests}
use Rattle.vx_io.specs.Rooms.{AreFull, Room}
use Rattle.vx_units.specs.Leases.{is_out}
use Rattle.vx_procs.specs.Kernel.{Fits, IsPrepared, Kernel, opened, stand_for}
use Rattle.vx_procs.specs.Ready.{HasBegun, IsReady}
use Rattle.vx_procs.specs.Words.{deepest, handlers_have_own_ids, have_own_ids}
use Rattle.vx_rundown.specs.Leaving.{IsLeaving}

-- A process is ready, in a system that declares at most 1,000 processes and 32 units; the devices of its channels stand, and so do requests
-- and attention entries; timers stand in id order, and no two of its exit handlers have one id, nor of those of any other process.
pub record IsSet (k : Kernel) (p : Pid) : Type 0 where
  pub ready : IsReady k p
  pub decls : length k.state.system.decls ≤ 1000
  pub units : length k.state.system.units ≤ 32
  pub opened : AreOpen k.state p
  pub order : AreOrdered timer_id 0 k.state.next k.state.timers
  pub handler_ids : IsTrue (handlers_have_own_ids (process_at k.state p).handlers)
  pub all_handler_ids : (q : Pid) → IsProcess k.state q → IsTrue (handlers_have_own_ids (process_at k.state q).handlers)

-- if a service is called, its statement is one of at most 10,000, and its arguments are of their kinds
abbrev pub IsCallAt : ℕ → Stop → Type 0
IsCallAt place (stop.Call c) = (place < 10000) × IsTrue (is_call c)
IsCallAt place _ = ⊤

-- What an event of a process relies on if it runs or an AST starts: its frames wait for status blocks that it has, and no two of its
-- queued ASTs have one id.
pub record IsNext (k : Kernel) (p : Pid) : Type 0 where
  pub set : IsSet k p
  pub waits : WaitsStand (process_at k.state p).frames
  pub ids : IsTrue (have_own_ids (process_at k.state p).asts)

-- What a tick relies on: timers stand in id order, and the time is one that can be counted on.
pub record IsTimely (k : Kernel) : Type 0 where
  pub order : AreOrdered timer_id 0 k.state.next k.state.timers
  pub counted : k.state.time < 2 ^ 63

-- the process is there, and has no frame
pub record IsIdle (s : State) (p : Pid) : Type 0 where
  pub made : IsProcess s p
  pub idle : (process_at s p).frames ≡ []

-- the process of an event is there, and in rundown it has no frame; a unit that begins a service has a front request, and one that
-- ends a service serves a request
abbrev pub HasOwner : State → Event → Type 0
HasOwner s (event.Run p) = IsProcess s p
HasOwner s (event.Ast p) = IsProcess s p
HasOwner s (event.Rdn p) = IsIdle s p
HasOwner s event.Tick = ⊤
HasOwner s (event.Beg u) = IsSome (front u s.requests)
HasOwner s (event.Don u) = IsSome (in_service u s.requests)

-- the process of an event
abbrev pub process_of : Event → Option Pid
process_of (event.Run p) = Some p
process_of (event.Ast p) = Some p
process_of (event.Rdn p) = Some p
process_of other = None

-- What a BEG relies on: what the end of the service needs is there; requests stand, and their ids rise.
pub record IsToBegin (k : Kernel) (u : UnitNo) : Type 0 where
  pub prepared : IsPrepared k u
  pub requests : AreRequests k.state

-- What a DON relies on: the unit serves a request, and is not out; requests stand, and their ids rise; and the services can be counted
-- on.
pub record IsToEnd (k : Kernel) (u : UnitNo) : Type 0 where
  pub serves : IsSome (in_service u k.state.requests)
  pub requests : AreRequests k.state
  pub count : (unit_at k.state u).services < 4294967295
  pub home : is_out (stand_for k u) ≡ false

-- what an event relies on
abbrev pub IsReadyFor : Kernel → Event → Type 0
IsReadyFor k (event.Run p) = IsNext k p
IsReadyFor k (event.Ast p) = IsNext k p
IsReadyFor k (event.Rdn p) = IsLeaving k p
IsReadyFor k event.Tick = IsTimely k
IsReadyFor k (event.Beg u) = IsToBegin k u
IsReadyFor k (event.Don u) = IsToEnd k u

-- How many effects an event has at most. A process leaves its frames, or cancels timers, exit handlers, attention entries or requests,
-- six effects for a request; or asks a mailbox: two effects as its flag and its status block are cleared, one as it is opened, and then
-- twelve, as a message comes in and goes out and two requests finish, or six and two for each attention entry that fires. In rundown it
-- cancels requests and drops attention entries, timers, wakes and ASTs in four modes, frees its channels, dissociates two clusters in each,
-- which may go, drops its exit handlers and the wakes for it, and is gone; a timer that is due fires, sets its flag and queues its AST. A
-- request that begins to be served tells nothing, and one that finishes tells five effects.
abbrev pub most : State → Event → ℕ
most s (event.Run p) = deepest s.procs + length (process_at s p).frames + length s.timers + length (process_at s p).handlers + 6 * length s.requests + 2 * length s.attention + 15
most s (event.Ast p) = deepest s.procs + length (process_at s p).frames + length s.timers + length (process_at s p).handlers + 6 * length s.requests + 2 * length s.attention + 15
most s (event.Rdn p) = 4 * (length (process_at s p).asts + 11 * length s.requests + 2 * length s.timers + length s.attention + length (process_at s p).channels + 4) + length (process_at s p).handlers + length s.timers + 1
most s event.Tick = 3 * length s.timers
most s (event.Beg u) = 0
most s (event.Don u) = 5

-- Room was made for an event, and for as many effects as it has at most.
pub record HasRoomFor (k : Kernel) (e : Event) : Type 0 where
  pub effects : ℕ
  pub enough : most k.state e ≤ effects
  pub begun : HasBegun k (process_of e) effects

-- a BEG has what the end of its service needs; and so a DON needs nothing
abbrev pub IsRoomMade : Kernel → Event → Type 0
IsRoomMade k (event.Beg u) = IsPrepared k u × (k.log.items ≡ [])
IsRoomMade k (event.Don u) = ⊤
IsRoomMade k other = HasRoomFor k other

-- there is spare room for the bytes of a request, if a process runs
abbrev pub HasRooms : Event → Room → Type 0
HasRooms (event.Run p) rooms = AreFull rooms
HasRooms other rooms = ⊤

-- nothing is told yet, and what an event tells fits; but a DON has a log of its own
abbrev pub IsOpen : Kernel → Event → Type 0
IsOpen k (event.Don u) = ⊤
IsOpen k other = (k.log.items ≡ []) × Fits k (step k.state other).effects

-- the log of a DON is the one that was made by the BEG before
abbrev pub opened_for : Kernel → Event → Kernel
opened_for k (event.Don u) = opened k u
opened_for k other = k

-- what an AST with this id and mode does that starts at an entry
abbrev pub started_as : State → Pid → Id → Mode → Entry → Part
started_as s p id mode entry = started s p (record { id = id; mode = mode; tag = entry; charged = true }) entry
