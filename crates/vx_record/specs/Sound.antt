-- References stand: what the state names is there, and what services tested of it still holds. Services and events rely on
-- it, and keep it.
use Rattle.std.specs.Prelude.{◌≡◌, ◌==◌, ℕ, ◌+◌, ◌-◌, ◌<◌, ◌≤◌, List, [], ◌∷◌, Bool, false, IsTrue, IfSome, Option, Some, None, length, is_some, slice_index_or, ⊤}
use Rattle.std.specs.List.{AllByRecursion, list_all}
use Rattle.vx_base.specs.Channels.{is_channel_number, channel_at}
use Rattle.vx_base.specs.Clusters.{Common, stands}
use Rattle.vx_base.specs.Modes.{reaches}
use Rattle.vx_record.specs.Types.{Alarm, Association, Attention, BoxNo, Call, Channel, Device, Entry, Frame, Image, Mailbox, Mode, Phase, Pid, Request, System, Timer, Wait}
use Rattle.vx_base.specs.Pieces.{OfTimer, OfWake}
use Rattle.vx_base.specs.Services.{is_call, args_list}
use Rattle.vx_base.specs.declared.frame.Phase.TheVariants as phase
use Rattle.vx_base.specs.declared.frame.Wait.TheVariants as wait
use Rattle.vx_base.specs.declared.request.Device.TheVariants as device
use Rattle.vx_base.specs.declared.routine.Entry.TheVariants as entry
use Rattle.vx_base.specs.Lists.{tally, total}
use Rattle.vx_image.specs.WellFormed.{has_its_label}
use Rattle.vx_record.specs.State.{Process, State, IsWithin, image_in, nobody}

-- What references are to: the system, the processes, the mailboxes, and how many units there are.
pub record Ground : Type 0 where
  pub system : System
  pub procs : List Process
  pub boxes : List (Option Mailbox)
  pub units : ℕ

abbrev pub ground : State → Ground
ground s = record { system = s.system; procs = s.procs; boxes = s.boxes; units = length s.units }

abbrev pub IsMade : Ground → Pid → Type 0
IsMade g p = IsWithin (length g.procs) p

abbrev pub process_of : Ground → Pid → Process
process_of g p = slice_index_or g.procs (p.0 - 1) nobody

-- a routine is at a label of that image; the exit of a $FORCEX, and routines of the host, are in no image
abbrev pub IsRoutine : System → ℕ → Entry → Type 0
IsRoutine system place (entry.Label k prm) = k < length (image_in system place).labels
IsRoutine system place (entry.Exit code) = ⊤
IsRoutine system place (entry.Host prm) = ⊤

-- a routine of process p
abbrev pub IsRoutineOf : Ground → Pid → Entry → Type 0
IsRoutineOf g p tag = IsRoutine g.system (process_of g p).decl tag

-- Devices: a unit of the script, or a mailbox that stands.

abbrev pub BoxStands : Ground → BoxNo → Type 0
BoxStands g b = IsTrue (is_some (slice_index_or g.boxes b.0 None))

abbrev pub DeviceStands : Ground → Device → Type 0
DeviceStands g (device.Unit u) = u.0 < g.units
DeviceStands g (device.Mailbox b) = BoxStands g b

abbrev pub ChannelStands : Ground → Option Channel → Type 0
ChannelStands g None = ⊤
ChannelStands g (Some ch) = DeviceStands g ch.device

-- n is a channel of process p to the mailbox, in this mode
pub record HasChannel (g : Ground) (p : Pid) (n : ℕ) (b : BoxNo) (mode : Mode) : Type 0 where
  pub number : IsTrue (is_channel_number n)
  pub row : channel_at (process_of g p).channels n ≡ Some (record { device = device.Mailbox b; mode = mode })

-- Requests.

-- a request on a mailbox is on its process's channel to it
abbrev pub IsRooted : Ground → Pid → ℕ → Mode → Device → Type 0
IsRooted g p n mode (device.Unit u) = ⊤
IsRooted g p n mode (device.Mailbox b) = HasChannel g p n b mode

-- only units serve
abbrev pub MayBeServed : Bool → Device → Type 0
MayBeServed served (device.Unit u) = ⊤
MayBeServed served (device.Mailbox b) = served ≡ false

-- A request is a process's; its device stands, and a mailbox's is on the process's channel to it; one in service is on a
-- unit; status block, buffer and length are in their ranges; its AST's routine is of the process.
pub record RequestStands (g : Ground) (r : Request) : Type 0 where
  pub made : IsMade g r.req.p
  pub stands : DeviceStands g r.req.device
  pub rooted : IsRooted g r.req.p r.req.chan r.req.chan_mode r.req.device
  pub served : MayBeServed r.served r.req.device
  pub iosb : r.req.iosb ≤ 32
  pub buf : r.req.buf ≤ 31
  pub len : r.req.len ≤ 2048
  pub routine : IfSome r.ast (λ ast. IsRoutineOf g r.req.p ast.tag)

-- Timers: one is a process's, and its AST's routine of that process; a wake is for a process.

abbrev pub AlarmStands : Ground → Pid → Alarm → Type 0
AlarmStands g p (OfTimer efn reqid mode tag) = IfSome tag (IsRoutineOf g p)
AlarmStands g p (OfWake target repeat) = IsMade g target

pub record TimerStands (g : Ground) (t : Timer) : Type 0 where
  pub made : IsMade g t.p
  pub alarm : AlarmStands g t.p t.what

-- Attention entries.

-- the things of this mode are on their way out
abbrev pub is_drained : Phase → Mode → Bool
is_drained (phase.Draining m) mode = reaches mode m
is_drained _ mode = false

-- An attention entry is a process's, on its channel to a mailbox that stands, of a mode that is not being drained; its
-- routine is of the process.
pub record AttentionStands (g : Ground) (a : Attention) : Type 0 where
  pub made : IsMade g a.p
  pub stands : BoxStands g a.box
  pub channel_mode : Mode
  pub channel : HasChannel g a.p a.chan a.box channel_mode
  pub going : is_drained (process_of g a.p).phase channel_mode ≡ false
  pub routine : IsRoutineOf g a.p a.tag

-- Processes.

-- while a mode is drained the process has no frame
abbrev pub IsIdle : Phase → List Frame → Type 0
IsIdle (phase.Draining m) (f ∷ fs) = ⊥
IsIdle _ _ = ⊤

-- the status block that a wait names is one that a process has, or none
abbrev pub WaitStands : Wait → Type 0
WaitStands (wait.Flags efn mask all) = ⊤
WaitStands (wait.Synch efn iosb) = iosb ≤ 32
WaitStands wait.Hiber = ⊤

abbrev pub WaitsStand : List Frame → Type 0
WaitsStand frames = AllByRecursion (λ f. IfSome f.wait WaitStands) frames

-- A process's declaration is the system's; it has 64 channels, whose devices stand; the routines of its queued ASTs and of
-- its exit handlers are its own; and so are the status blocks that its frames wait for.
pub record ProcessStands (g : Ground) (pr : Process) : Type 0 where
  pub decl : pr.decl < length g.system.decls
  pub numbers : length pr.channels ≡ 64
  pub channels : AllByRecursion (ChannelStands g) pr.channels
  pub asts : AllByRecursion (λ q. IsRoutine g.system pr.decl q.tag) pr.asts
  pub handlers : AllByRecursion (λ h. IsRoutine g.system pr.decl h.tag) pr.handlers
  pub idle : IsIdle pr.phase pr.frames
  pub waits : WaitsStand pr.frames

-- An association is a process's, and its cluster stands.
pub record AssociationStands (procs : ℕ) (c : Common) (a : Association) : Type 0 where
  pub made : IsWithin procs a.p
  pub stands : IsTrue (stands c a.group a.name)

-- Ids rise from one item to the next, from low on, and stay below high.
abbrev pub AreOrdered : {A : Type 0} → (A → ℕ) → ℕ → ℕ → List A → Type 0
AreOrdered key low high [] = low ≤ high
AreOrdered key low high (x ∷ xs) = (low ≤ key x) × AreOrdered key (key x + 1) high xs

abbrev pub request_id : Request → ℕ
request_id r = r.req.id.0

abbrev pub timer_id : Timer → ℕ
timer_id t = t.id.0

abbrev pub attention_id : Attention → ℕ
attention_id a = a.id.0

-- What bears an id: requests, timers and attention entries, and of each process its queued ASTs and its exit handlers.

abbrev pub process_bears : ℕ → Process → ℕ
process_bears id pr = tally (λ q. q.id.0 == id) pr.asts + tally (λ h. h.id.0 == id) pr.handlers

abbrev pub bearers : State → ℕ → ℕ
bearers s id =
    tally (λ r. request_id r == id) s.requests + (tally (λ t. timer_id t == id) s.timers + (tally (λ a. attention_id a == id) s.attention + total (process_bears id) s.procs))

-- no two open things have one id, and all ids are below the next
pub record HaveOwnIds (s : State) : Type 0 where
  pub single : (id : ℕ) → bearers s id ≤ 1
  pub below : (id : ℕ) → s.next ≤ id → bearers s id ≡ 0

-- There are the script's units; all that the state names stands; ids rise, below the next id; and no two open things have
-- one id.
pub record IsSound (s : State) : Type 0 where
  pub units : length s.units ≡ length s.system.units
  pub procs : AllByRecursion (ProcessStands (ground s)) s.procs
  pub associations : AllByRecursion (AssociationStands (length s.procs) s.common) s.common.associations
  pub requests : AllByRecursion (RequestStands (ground s)) s.requests
  pub timers : AllByRecursion (TimerStands (ground s)) s.timers
  pub attention : AllByRecursion (AttentionStands (ground s)) s.attention
  pub request_ids : AreOrdered request_id 0 s.next s.requests
  pub timer_ids : AreOrdered timer_id 0 s.next s.timers
  pub attention_ids : AreOrdered attention_id 0 s.next s.attention
  pub own_ids : HaveOwnIds s

-- What a caller of a service owes: the call's arguments are of the kinds that the service takes, and the labels that they
-- name are the image's.
pub record FitsImage (image : Image) (c : Call) : Type 0 where
  pub args : IsTrue (is_call c)
  pub labels : IsTrue (list_all (has_its_label image) (args_list c.args))
