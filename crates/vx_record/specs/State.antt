-- The plain state of the executive: one list of each thing, and nothing of how the code keeps it.
use Rattle.std.specs.Prelude.{ℕ, ◌+◌, ◌-◌, ◌≤◌, List, [], ◌∷◌, Bool, false, Option, None, length, slice_index_or, slice_set}
use Rattle.vx_base.specs.Clusters.{Common}
use Rattle.vx_record.specs.Types.{Attention, BoxNo, Channel, DeviceUnit, Enables, Frame, Handler, Id, Image, Mailbox, Mode, Need, Phase, Pid, Privs, ProcDecl, Queued, Request, System, Timer, UnitDecl, UnitNo}
use Rattle.vx_base.specs.Pieces.{all_on, Lines}
use Rattle.vx_base.specs.declared.frame.Phase.TheVariants.{Deleted}
use Rattle.vx_base.specs.declared.mode.Mode.TheVariants.{User}
pub use Rattle.vx_image.specs.Absent.{no_decl, no_image, no_unit_decl}
use Rattle.vx_image.specs.Storage.{Storage}
pub use Rattle.vx_base.specs.Quotas.{no_privs}

-- A process: the place of its declaration, from 0; its group, member and privileges; what it stores; its frames, the top
-- first; its AST enables and queued ASTs, the first queued first; its channels by number; its exit handlers, the newest
-- first; its event flags 0 to 31 and 32 to 63; whether a wake pends, it is suspended, and $DELPRC named it; its exit code
-- and its phase.
pub record Process : Type 0 where
  pub decl : ℕ
  pub group : ℕ
  pub member : ℕ
  pub privs : Privs
  pub store : Storage
  pub frames : List Frame
  pub enables : Enables
  pub asts : List Queued
  pub channels : List (Option Channel)
  pub handlers : List Handler
  pub cluster_0 : ℕ
  pub cluster_1 : ℕ
  pub wake_pending : Bool
  pub suspended : Bool
  pub delete_pending : Bool
  pub exit_code : ℕ
  pub phase : Phase

-- The whole: what the script says; the time, in ticks, and the next id; the processes in number order; the common event
-- flag clusters with their associations; the outstanding requests in order of acceptance; timers and scheduled wakes, and
-- attention entries, each in id order; the mailboxes by number, from 0, None if there is none; the units.
pub record State : Type 0 where
  pub system : System
  pub time : ℕ
  pub next : ℕ
  pub procs : List Process
  pub common : Common
  pub requests : List Request
  pub timers : List Timer
  pub attention : List Attention
  pub boxes : List (Option Mailbox)
  pub units : List DeviceUnit

-- What stands where nothing does.

abbrev pub empty_store : Storage
empty_store = record { vars = []; r0 = 0; buffers = []; statuses = [] }

abbrev pub nobody : Process
nobody = record {
  decl = 0;
  group = 0;
  member = 0;
  privs = no_privs;
  store = empty_store;
  frames = [];
  enables = all_on;
  asts = [];
  channels = [];
  handlers = [];
  cluster_0 = 0;
  cluster_1 = 0;
  wake_pending = false;
  suspended = false;
  delete_pending = false;
  exit_code = 0;
  phase = Deleted;
}

abbrev pub no_unit : DeviceUnit
no_unit = record { contents = Lines [] []; faults = []; services = 0 }

-- Processes.

-- p is one of n processes
pub record IsWithin (n : ℕ) (p : Pid) : Type 0 where
  pub above : 1 ≤ p.0
  pub within : p.0 ≤ n

abbrev pub IsProcess : State → Pid → Type 0
IsProcess s p = IsWithin (length s.procs) p

abbrev pub process_at : State → Pid → Process
process_at s p = slice_index_or s.procs (p.0 - 1) nobody

-- process p changed by f, and all else as it was
abbrev pub change : State → Pid → (Process → Process) → State
change s p f = record s { procs = slice_set s.procs (p.0 - 1) (f (process_at s p)) }

-- the declaration at a place, and its image

abbrev pub decl_in : System → ℕ → ProcDecl
decl_in system place = slice_index_or system.decls place no_decl

abbrev pub image_in : System → ℕ → Image
image_in system place = slice_index_or system.images (decl_in system place).image no_image

-- the declaration of a process, and the image that it runs

abbrev pub decl_of : State → Pid → ProcDecl
decl_of s p = decl_in s.system (process_at s p).decl

abbrev pub image_of : State → Pid → Image
image_of s p = image_in s.system (process_at s p).decl

-- the limits of its quotas
abbrev pub limits_of : State → Pid → Need
limits_of s p = (decl_of s p).limits

abbrev pub pid : ℕ → Pid
pid n = record { 0 = n }

-- Frames.

abbrev pub HasFrame : State → Pid → Type 0
HasFrame s p = 1 ≤ length (process_at s p).frames

abbrev pub top_mode : List Frame → Mode
top_mode [] = User
top_mode (f ∷ fs) = f.mode

-- the mode in which a process runs: that of its top frame
abbrev pub current : State → Pid → Mode
current s p = top_mode (process_at s p).frames

-- the top frame changed
abbrev pub with_top : (Frame → Frame) → List Frame → List Frame
with_top f [] = []
with_top f (top ∷ below) = f top ∷ below

-- Units, mailboxes, ids.

abbrev pub unit_decl : State → UnitNo → UnitDecl
unit_decl s u = slice_index_or s.system.units u.0 no_unit_decl

abbrev pub unit_at : State → UnitNo → DeviceUnit
unit_at s u = slice_index_or s.units u.0 no_unit

abbrev pub box_at : State → BoxNo → Option Mailbox
box_at s b = slice_index_or s.boxes b.0 None

abbrev pub with_box : State → BoxNo → Option Mailbox → State
with_box s b box = record s { boxes = slice_set s.boxes b.0 box }

-- the id that is opened next
abbrev pub next_id : State → Id
next_id s = record { 0 = s.next }

abbrev pub past_id : State → State
past_id s = record s { next = s.next + 1 }
