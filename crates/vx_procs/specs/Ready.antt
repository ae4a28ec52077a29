-- Room that was made before, and what a call of a service relies on.
use Rattle.std.specs.Prelude.{◌≡◌, ℕ, ◌+◌, ◌^◌, ◌<◌, ◌≤◌, [], IfSome, Option, length}
use Rattle.std.specs.List.{AllByRecursion}
use Rattle.vx_base.specs.Log.{HasRoom}
use Rattle.vx_record.specs.Types.{Pid}
use Rattle.vx_base.specs.Lists.{tally}
use Rattle.vx_mailbox.specs.Boxes.{HaveRoom}
use Rattle.vx_image.specs.WellFormed.{IsImage}
use Rattle.vx_record.specs.State.{State, IsProcess, process_at, image_of}
use Rattle.vx_record.specs.Charges.{bears_ast, is_attention_of, charged_timer}
use Rattle.vx_procs.specs.Kernel.{Kernel, room_at}
use Rattle.vx_procs.specs.Words.{HasDecl, HasImage}

-- how many ASTs will be queued yet for what a process has opened: one for each request with an AST, attention entry, timer
-- with an AST and scheduled wake, as ASTLM charges them
abbrev pub promised : State → Pid → ℕ
promised s p = tally (bears_ast p) s.requests + (tally (is_attention_of p) s.attention + tally (charged_timer p) s.timers)

-- the places in a process's AST queue that are taken or promised
abbrev pub owed : State → Pid → ℕ
owed s p = length (process_at s p).asts + promised s p

-- there is a spare frame and a spare AST of process p
pub record HasSpare (k : Kernel) (p : Pid) : Type 0 where
  pub frame : length (process_at k.state p).frames + 1 ≤ (room_at k p).frames
  pub ast : owed k.state p + 1 ≤ (room_at k p).asts

-- and of each process
abbrev pub HasSpares : Kernel → Type 0
HasSpares k = (p : Pid) → IsProcess k.state p → HasSpare k p

-- process p has room for an exit handler more
abbrev pub HasHandlerRoom : Kernel → Pid → Type 0
HasHandlerRoom k p = length (process_at k.state p).handlers < (room_at k p).handlers

-- there is a spare process
abbrev pub HasNewcomer : Kernel → Type 0
HasNewcomer k = length k.state.procs < length k.rooms

-- there is room for a message more in each mailbox that is there or is made
abbrev pub HasMessageRooms : Kernel → Type 0
HasMessageRooms k = HaveRoom k.state.boxes k.messages

-- Time may come to this moment: it is not behind, and less than 2^32 ticks ahead, and no entry is due before it.
pub record IsMoment (s : State) (now : ℕ) : Type 0 where
  pub forward : s.time ≤ now
  pub soon : now < s.time + 4294967296
  pub ahead : AllByRecursion (λ t. now ≤ t.due) s.timers

-- The process is there, with its image; there is a spare of each kind, a process among them, room for an exit handler, for an attention
-- entry and for a message in each mailbox, an id left, and a time that can be counted on.
pub record IsReady (k : Kernel) (p : Pid) : Type 0 where
  pub made : IsProcess k.state p
  pub declared : HasDecl k.state p
  pub image : HasImage k.state p
  pub formed : IsImage (image_of k.state p)
  pub spares : HasSpares k
  pub timer : length k.state.timers + 1 ≤ k.timers
  pub cluster : length k.state.common.clusters + 1 ≤ k.clusters
  pub association : length k.state.common.associations + 1 ≤ k.associations
  pub request : length k.state.requests + 1 ≤ k.requests
  pub newcomer : HasNewcomer k
  pub handler : HasHandlerRoom k p
  pub ids : k.state.next < 4294967295
  pub time : k.state.time < 2 ^ 63
  pub entry : length k.state.attention + 1 ≤ k.attention
  pub messages : HasMessageRooms k

-- Room was made for an event, of this process if it is one of a process: there is a spare of each kind, a process among them, room for an exit
-- handler of that process, for an attention entry and for a message in each mailbox; nothing is told yet, and so many effects fit; and the
-- time is one that can be counted on.
pub record HasBegun (k : Kernel) (caller : Option Pid) (effects : ℕ) : Type 0 where
  pub spares : HasSpares k
  pub timer : length k.state.timers + 1 ≤ k.timers
  pub cluster : length k.state.common.clusters + 1 ≤ k.clusters
  pub association : length k.state.common.associations + 1 ≤ k.associations
  pub request : length k.state.requests + 1 ≤ k.requests
  pub newcomer : HasNewcomer k
  pub handler : IfSome caller (HasHandlerRoom k)
  pub empty : k.log.items ≡ []
  pub room : HasRoom k.log effects
  pub time : k.state.time < 2 ^ 63
  pub entry : length k.state.attention + 1 ≤ k.attention
  pub messages : HasMessageRooms k
