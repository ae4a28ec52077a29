-- What the processes of the code stand for.
use Rattle.std.specs.Prelude.{List, [], ◌++◌, nat_lt, if◌then◌else◌, Option, map, option_to_list, vec_len, vec_capacity}
use Rattle.vx_record.specs.Types.{DeviceUnit}
use Rattle.vx_record.specs.State.{State}
use Rattle.vx_procs.specs.Kernel.{Kernel, Room}
use Rattle.vx_procs.specs.Held.{Books, AreHeld}
pub use Rattle.vx_procs.specs.Processes.{process, room_of, books_of}
use Rattle.vx_procs.specs.Units.{Ending, Kept}
use Rattle.vx_procs.specs.declared.procs.Core.TheInside.{Inside}

-- a unit, and what the end of its next service needs

abbrev pub unit_of : Kept → DeviceUnit
unit_of k = k.unit

abbrev pub ending_of : Kept → Option Ending
ending_of k = k.ending

-- the whole
abbrev pub state : {R : Type 0} → Inside R → State
state c = record {
  system = c.system;
  time = c.time;
  next = c.next;
  procs = map process c.procs.items;
  common = c.clusters.common;
  requests = c.requests.items;
  timers = c.timers.items;
  attention = c.attention.items;
  boxes = c.boxes.boxes;
  units = map unit_of c.units.items;
}

-- the room of the spare process, if there is one and a place for it
abbrev pub newcomers : {R : Type 0} → Inside R → List Room
newcomers c = if nat_lt (vec_len c.procs) (vec_capacity c.procs) then option_to_list c.spare else []

abbrev pub ends : {R : Type 0} → Inside R → List (Option Ending)
ends c = map ending_of c.units.items

abbrev pub kernel : {R : Type 0} → Inside R → Kernel
kernel c = record {
  state = state c;
  log = c.log;
  rooms = map room_of c.procs.items ++ newcomers c;
  timers = c.timers.capacity;
  clusters = c.clusters.cluster_capacity;
  associations = c.clusters.association_capacity;
  requests = c.requests.capacity;
  attention = c.attention.capacity;
  messages = c.boxes.rooms;
  ends = ends c;
}

abbrev pub books : {R : Type 0} → Inside R → List Books
books c = map books_of c.procs.items

abbrev pub IsHeld : {R : Type 0} → Inside R → Type 0
IsHeld c = AreHeld (state c) c.short (books c) (ends c)
