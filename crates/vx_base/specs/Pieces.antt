-- The pieces that the plain state is made of: plain data, with no room, index or counter.
use Rattle.std.specs.Prelude.{ℕ, List, Bool, true, Option, None}
use Rattle.vx_base.specs.declared.cond.Cond.{Cond}
use Rattle.vx_base.specs.declared.mode.Mode.{Mode}
use Rattle.vx_base.specs.declared.mode.Mode.TheVariants.{Kernel, Exec, Super, User}
use Rattle.vx_base.specs.declared.number.Pid.{Pid}
use Rattle.vx_base.specs.declared.number.Id.{Id}
use Rattle.vx_base.specs.declared.number.BoxNo.{BoxNo}
use Rattle.vx_base.specs.declared.request.Func.{Func}
use Rattle.vx_base.specs.declared.request.Device.{Device}
use Rattle.vx_base.specs.declared.request.Req.{Req}
use Rattle.vx_base.specs.declared.request.Msg.{Msg}
use Rattle.vx_base.specs.declared.routine.Entry.{Entry}

-- An AST in its process's queue: its id, its mode, the tag of its routine, and whether it is charged to ASTLM.
pub record Queued : Type 0 where
  pub id : Id
  pub mode : Mode
  pub tag : Entry
  pub charged : Bool

-- which modes have AST delivery enabled
pub record Enables : Type 0 where
  pub kernel : Bool
  pub exec : Bool
  pub supervisor : Bool
  pub user : Bool

abbrev pub all_on : Enables
all_on = record { kernel = true; exec = true; supervisor = true; user = true }

abbrev pub is_enabled_in : Enables → Mode → Bool
is_enabled_in e Kernel = e.kernel
is_enabled_in e Exec = e.exec
is_enabled_in e Super = e.supervisor
is_enabled_in e User = e.user

abbrev pub with_enable : Enables → Mode → Bool → Enables
with_enable e Kernel on = record e { kernel = on }
with_enable e Exec on = record e { exec = on }
with_enable e Super on = record e { supervisor = on }
with_enable e User on = record e { user = on }

-- An I/O status block: its condition, none if it is cleared, and two numbers.
pub record Status : Type 0 where
  pub cond : Option Cond
  pub count : ℕ
  pub info : ℕ

abbrev pub cleared : Status
cleared = record { cond = None; count = 0; info = 0 }

-- An assigned channel: its device and its mode.
pub record Channel : Type 0 where
  pub device : Device
  pub mode : Mode

-- A declared exit handler.
pub record Handler : Type 0 where
  pub id : Id
  pub mode : Mode
  pub tag : Entry

-- the mode and the tag of an AST that something will queue
pub record Promised : Type 0 where
  pub mode : Mode
  pub tag : Entry

-- An outstanding request: what was accepted, its AST if it has one, whether its unit serves it, and whether it is to be
-- aborted.
pub record Request : Type 0 where
  pub req : Req
  pub ast : Option Promised
  pub served : Bool
  pub marked : Bool

-- What falls due: a timer with its event flag, the identification that it can be cancelled by, its mode and its AST's
-- routine if it has one; or a wake of a process, again after so many ticks if these are not 0.
pub data Alarm : Type 0 where
  OfTimer : (efn reqid : ℕ) (mode : Mode) (tag : Option Entry) → Alarm
  OfWake : (target : Pid) (repeat : ℕ) → Alarm

-- A timer or a scheduled wake: its id, the process that set it, and when it is due, in ticks.
pub record Timer : Type 0 where
  pub id : Id
  pub p : Pid
  pub due : ℕ
  pub what : Alarm

-- An attention entry: a process asks, on its channel to a mailbox, for an AST.
pub record Attention : Type 0 where
  pub id : Id
  pub p : Pid
  pub chan : ℕ
  pub box : BoxNo
  pub func : Func
  pub mode : Mode
  pub tag : Entry

-- A mailbox: its name, whether it is permanent and marked for deletion, the longest message and the bytes that it stores
-- at most, and the stored messages, the oldest first.
pub record Mailbox : Type 0 where
  pub name : List ℕ
  pub permanent : Bool
  pub marked : Bool
  pub maxmsg : ℕ
  pub bufquo : ℕ
  pub messages : List Msg

-- A common event flag cluster: its group and name, whether it is permanent and marked for deletion, and its 32 flags.
pub record Cluster : Type 0 where
  pub group : ℕ
  pub name : List ℕ
  pub permanent : Bool
  pub marked : Bool
  pub flags : ℕ

-- process p has the cluster of this group and name as its cluster k, 2 or 3
pub record Association : Type 0 where
  pub p : Pid
  pub k : ℕ
  pub group : ℕ
  pub name : List ℕ

-- What a unit holds: a line unit the lines that it will give and those that it was given, a block unit its bytes.
pub data Contents : Type 0 where
  Lines : (inputs outputs : List (List ℕ)) → Contents
  Blocks : (bytes : List ℕ) → Contents

-- A device unit: what it holds, which of its services fail, and how many there were.
pub record DeviceUnit : Type 0 where
  pub contents : Contents
  pub faults : List ℕ
  pub services : ℕ
