-- What callers see of the executive: its plain state, the log of the event under way, and how much there is room for.
use Rattle.std.specs.Prelude.{◌≡◌, ℕ, ◌-◌, ◌≤◌, List, [], Option, Some, None, IsSome, false, length, map, option_map, slice_index_or, slice_set}
use Rattle.vx_base.specs.Log.{Log, HasRoom, logged}
use Rattle.vx_record.specs.Types.{Effect, Pid, Req, Request, UnitNo}
use Rattle.vx_base.specs.Queues.{front}
use Rattle.vx_record.specs.State.{Process, State, change}
use Rattle.vx_record.specs.Parts.{Outcome, Part}
use Rattle.vx_units.specs.Leases.{Stand, Home, is_out}
use Rattle.vx_procs.specs.Units.{Ending, asked_of, log_of, stand_of, stood}

-- how many frames, how many ASTs and how many exit handlers a process has room for in all
pub record Room : Type 0 where
  pub frames : ℕ
  pub asts : ℕ
  pub handlers : ℕ

abbrev pub no_room : Room
no_room = record { frames = 0; asts = 0; handlers = 0 }

-- the one room is in the other
pub record IsWithinRoom (a b : Room) : Type 0 where
  pub frames : a.frames ≤ b.frames
  pub asts : a.asts ≤ b.asts
  pub handlers : a.handlers ≤ b.handlers

-- the state; the effects so far; the room of each process, in number order, and then of the spare process, if there is one; for
-- how many timers, common clusters, associations with them, requests and attention entries there is room in all, and for how many
-- messages in each mailbox, by its number; and of each unit what the end of its next service needs, if that was made
pub record Kernel : Type 0 where
  pub state : State
  pub log : Log
  pub rooms : List Room
  pub timers : ℕ
  pub clusters : ℕ
  pub associations : ℕ
  pub requests : ℕ
  pub attention : ℕ
  pub messages : List ℕ
  pub ends : List (Option Ending)

abbrev pub room_at : Kernel → Pid → Room
room_at k p = slice_index_or k.rooms (p.0 - 1) no_room

-- what the end of a unit's next service needs, if that was made; and the request that the unit is asked

abbrev pub ending_for : Kernel → UnitNo → Option Ending
ending_for k u = slice_index_or k.ends u.0 None

abbrev pub asked_for : Kernel → UnitNo → Option Req
asked_for k u = asked_of (ending_for k u)

-- where the contents of each unit are, and those of one

abbrev pub stands : Kernel → List Stand
stands k = map stand_of k.ends

abbrev pub stand_for : Kernel → UnitNo → Stand
stand_for k u = slice_index_or (stands k) u.0 Home

-- no unit is out
abbrev pub AreIn : Kernel → Type 0
AreIn k = (u : UnitNo) → is_out (stand_for k u) ≡ false

-- the contents of a unit are elsewhere
abbrev pub with_stand : Kernel → UnitNo → Stand → Kernel
with_stand k u stand = record k { ends = slice_set k.ends u.0 (stood stand (ending_for k u)) }

-- what the end of a unit's next service needs is there, for the request that the unit takes next, and its contents are home
pub record IsPrepared (k : Kernel) (u : UnitNo) : Type 0 where
  pub asked : IsSome (asked_for k u)
  pub next : asked_for k u ≡ option_map (λ (r : Request). r.req) (front u k.state.requests)
  pub home : stand_for k u ≡ Home

-- that log is the log of the event under way, and nothing is made for a next service

abbrev pub log_or : Log → Option Log → Log
log_or log None = log
log_or log (Some other) = other

abbrev pub opened : Kernel → UnitNo → Kernel
opened k u = record k { log = log_or k.log (log_of (ending_for k u)); ends = slice_set k.ends u.0 None }

-- another state, with all else as it was
abbrev pub with_state : Kernel → State → Kernel
with_state k s = record k { state = s }

-- process p changed by f
abbrev pub changed : Kernel → Pid → (Process → Process) → Kernel
changed k p f = with_state k (change k.state p f)

-- effects told
abbrev pub told : Kernel → List Effect → Kernel
told k effects = record k { log = logged k.log effects }

-- the log has room for these effects
abbrev pub Fits : Kernel → List Effect → Type 0
Fits k effects = HasRoom k.log (length effects)

-- A call did a part: it told its effects and left its state, and no room was taken or made.
abbrev pub Acts : Part → Kernel → Kernel → Type 0
Acts part before after = after ≡ told (with_state before part.after) part.effects

-- A call did an outcome: it answered it, and acted so.
pub record Does {A : Type 0} (o : Outcome A) (answer : A) (before after : Kernel) : Type 0 where
  pub answers : answer ≡ o.answer
  pub leaves : after ≡ told (with_state before o.after) o.effects

-- The outcome has no effect, and a call that tells nothing did it.
pub record DoesQuietly {A : Type 0} (o : Outcome A) (answer : A) (before after : Kernel) : Type 0 where
  pub answers : answer ≡ o.answer
  pub quiet : o.effects ≡ []
  pub leaves : after ≡ with_state before o.after
