-- Small states: one process, or two, with little in each, and words for what a call comes to on them.
use Rattle.std.specs.Prelude.{◌≡◌, ℕ, List, [], ◌∷◌, Bool, false, codes, Some, None, replicate}
use Rattle.vx_record.specs.Types.{Association, Call, Channel, Cluster, Cond, Device, Effect, Frame, FrameKind, Func, Image, Mailbox, Mode, Msg, Request, Status, System, Wait}
use Rattle.vx_base.specs.Pieces.{Lines, Blocks, all_on, cleared}
use Rattle.vx_base.specs.declared.frame.FrameKind.TheVariants as kind
use Rattle.vx_base.specs.declared.frame.Phase.TheVariants as phase
use Rattle.vx_base.specs.declared.mode.Mode.TheVariants.{User}
use Rattle.vx_base.specs.declared.request.Device.TheVariants as device
use Rattle.vx_image.specs.Storage.{Storage}
use Rattle.vx_image.specs.declared.stmt.Stmt.TheVariants as stmt
use Rattle.vx_record.specs.Services.{service}
use Rattle.vx_record.specs.State.{Process, State}
use Rattle.vx_record.specs.declared.served.Served.TheVariants.{Answered, Waits}
use Rattle.vx_examples.specs.Script.{process, id, unit, box, declared, no_privs}

-- Scripts.

-- an image with two routines, at places 1 and 2
abbrev pub small_image : Image
small_image = record {
  name = codes "MAIN";
  labels = record { name = codes "T"; place = 1 } ∷ record { name = codes "H"; place = 2 } ∷ [];
  stmts = stmt.Return ∷ stmt.Return ∷ stmt.Return ∷ [];
}

-- a line unit and a block unit, and two declarations
abbrev pub small_system : System
small_system = record {
  units =
      record { name = codes "TT"; blocks = 0; inputs = []; faults = [] } ∷
      record { name = codes "DK"; blocks = 1; inputs = []; faults = [] } ∷
      [];
  images = small_image ∷ [];
  decls = declared (codes "P") 0 ∷ declared (codes "Q") 0 ∷ [];
}

-- Processes.

-- two variables, two buffers of four bytes, two status blocks
abbrev pub small_store : Storage
small_store = record {
  vars = 0 ∷ 0 ∷ [];
  r0 = 0;
  buffers = codes "WXYZ" ∷ replicate 4 0 ∷ [];
  statuses = cleared ∷ cleared ∷ [];
}

abbrev pub frame_of : FrameKind → Mode → Frame
frame_of k mode = record { kind = k; mode = mode; pc = 0; prm = 0; saved_r0 = 0; wait = None }

-- a process in user mode that has nothing, with room for three channels
abbrev pub somebody : Process
somebody = record {
  decl = 0;
  group = 1;
  member = 1;
  privs = no_privs;
  store = small_store;
  frames = frame_of kind.Main User ∷ [];
  enables = all_on;
  asts = [];
  channels = None ∷ None ∷ None ∷ [];
  handlers = [];
  cluster_0 = 0;
  cluster_1 = 0;
  wake_pending = false;
  suspended = false;
  delete_pending = false;
  exit_code = 0;
  phase = phase.Alive;
}

-- the same in another mode
abbrev pub somebody_in : Mode → Process
somebody_in mode = record somebody { frames = frame_of kind.Main mode ∷ [] }

-- one that waits in its only frame
abbrev pub waiting : Wait → Process
waiting w = record somebody { frames = record (frame_of kind.Main User) { wait = Some w } ∷ [] }

-- States.

-- processes, and nothing else; the time is 100, and the next id 7
abbrev pub with_all : List Process → State
with_all procs = record {
  system = small_system;
  time = 100;
  next = 7;
  procs = procs;
  common = record { clusters = []; associations = [] };
  requests = [];
  timers = [];
  attention = [];
  boxes = None ∷ None ∷ [];
  units =
      record { contents = Lines [] []; faults = []; services = 0 } ∷
      record { contents = Blocks (replicate 512 0); faults = []; services = 0 } ∷
      [];
}

-- process 1 alone
abbrev pub with : Process → State
with pr = with_all (pr ∷ [])

abbrev pub alone : State
alone = with somebody

-- processes 1 and 2
abbrev pub with_both : Process → Process → State
with_both p q = with_all (p ∷ q ∷ [])

abbrev pub both : State
both = with_both somebody somebody

-- Common clusters.

-- a cluster of group 1, with its flags
abbrev pub cluster : List ℕ → Bool → Bool → ℕ → Cluster
cluster name permanent marked flags = record
    { group = 1; name = name; permanent = permanent; marked = marked; flags = flags }

abbrev pub association : ℕ → ℕ → List ℕ → Association
association p k name = record { p = process p; k = k; group = 1; name = name }

-- a state with these clusters and associations
abbrev pub sharing : State → List Cluster → List Association → State
sharing s clusters associations = record s { common = record { clusters = clusters; associations = associations } }

-- Devices.

abbrev pub on_unit : ℕ → Mode → Channel
on_unit u mode = record { device = device.Unit (unit u); mode = mode }

abbrev pub on_box : ℕ → Mode → Channel
on_box b mode = record { device = device.Mailbox (box b); mode = mode }

-- a temporary mailbox for messages of at most 3 bytes, and 5 bytes together
abbrev pub box_holding : List Msg → Mailbox
box_holding messages = record {
  name = codes "BOX";
  permanent = false;
  marked = false;
  maxmsg = 3;
  bufquo = 5;
  messages = messages;
}

-- Calls.

-- a call of process 1 is answered with a condition, these effects and this state
abbrev pub Answers : State → Call → Cond → List Effect → State → Type 0
Answers s c cond effects after = service s (process 1) c ≡ record
    { answer = Answered cond; effects = effects; after = after }

-- it is refused: nothing is logged, and nothing is changed
abbrev pub Refuses : State → Call → Cond → Type 0
Refuses s c cond = Answers s c cond [] s

-- it waits, with these effects and this state
abbrev pub Suspends : State → Call → List Effect → State → Type 0
Suspends s c effects after = service s (process 1) c ≡ record { answer = Waits; effects = effects; after = after }

-- it is answered with a condition, whatever its effects
abbrev pub Comes : State → Call → Cond → Type 0
Comes s c cond = (service s (process 1) c).answer ≡ Answered cond

-- Requests.

-- an outstanding request of process 1 on channel 1: event flag 1, status block 1, buffer 1, 3 bytes, block 0, and no
-- AST
abbrev pub outstanding : ℕ → Device → Func → Request
outstanding n dev func = record {
  req = record {
    id = id n;
    p = process 1;
    chan = 1;
    chan_mode = User;
    device = dev;
    func = func;
    efn = 1;
    iosb = 1;
    buf = 1;
    len = 3;
    blk = 0;
    bytes = [];
  };
  ast = None;
  served = false;
  marked = false;
}

abbrev pub line_unit : Device
line_unit = device.Unit (unit 0)

abbrev pub block_unit : Device
block_unit = device.Unit (unit 1)

abbrev pub in_box : Device
in_box = device.Mailbox (box 0)

-- process 1 with a channel to each: the line unit, the block unit, mailbox 0
abbrev pub connected : Process
connected = record somebody { channels = Some (on_unit 0 User) ∷ Some (on_unit 1 User) ∷ Some (on_box 0 User) ∷ [] }

-- it alone, with that mailbox, empty
abbrev pub online : State
online = record (with connected) { boxes = Some (box_holding []) ∷ None ∷ [] }

-- a status block
abbrev pub filled : Cond → ℕ → ℕ → Status
filled cond count info = record { cond = Some cond; count = count; info = info }

-- process 1, connected, with a store
abbrev pub connected_with : List (List ℕ) → List Status → Process
connected_with buffers statuses = record connected
    { store = record small_store { buffers = buffers; statuses = statuses } }
