-- What calls on channels and requests are asked, what they answer, and what they rely on.
use Rattle.std.specs.Prelude.{◌≡◌, ℕ, ◌+◌, ◌<◌, ◌≤◌, Bool, true, false, IsTrue, Option, Result, Ok, Err, if◌then◌else◌, length}
use Rattle.std.specs.List.{AllByRecursion}
use Rattle.vx_record.specs.Types.{Cell, Channel, Cond, Device, Effect, Entry, Func, Id, Mailbox, Mode, Pid}
use Rattle.vx_base.specs.declared.effects.Effect.TheVariants as effect
use Rattle.vx_base.specs.declared.effects.Opened.TheVariants as opened
use Rattle.vx_record.specs.Channels.{new_box}
use Rattle.vx_record.specs.Charges.{exceeds, is_attention, is_direct, moved_bytes, request_need}
use Rattle.vx_record.specs.Requests.{Asked, has_function}
use Rattle.vx_record.specs.Sound.{AreOrdered, ChannelStands, DeviceStands, attention_id, ground}
use Rattle.vx_record.specs.State.{State, IsProcess, process_at}
use Rattle.vx_record.specs.declared.served.Served.{Served}
use Rattle.vx_record.specs.declared.served.Served.TheVariants.{Answered}
use Rattle.vx_ctl.specs.declared.refused.Refused.{Refused}
use Rattle.vx_procs.specs.Cells.{IsCell}
use Rattle.vx_procs.specs.Kernel.{Kernel}
use Rattle.vx_procs.specs.Ready.{HasMessageRooms, HasSpares}
use Rattle.vx_io.specs.Finishing.{AreRequests}
use Rattle.vx_io.specs.Steady.{AreSteady}
use Rattle.vx_io.specs.declared.asking.Asking.{Asking}
use Rattle.vx_io.specs.declared.asking.Granted.{Granted}
use Rattle.vx_io.specs.declared.mailboxes.NewBox.{NewBox}

-- what a request asks, with the tag of its AST if it has one
abbrev pub asked : Asking → Option Entry → Asked
asked q ast = record { efn = q.efn; chan = q.chan; func = q.func; iosb = q.iosb; ast = ast; buf = q.buf; len = q.len; blk = q.blk }

-- the mailbox that is asked for, as it is when it is new
abbrev pub box_asked : NewBox → Mailbox
box_asked q = new_box q.name q.perm q.maxmsg q.bufquo

-- what a service that may wait answers, refused or not
abbrev pub served_of : {R : Type 0} → Result Served (Refused R) → Served
served_of (Ok served) = served
served_of (Err refused) = Answered refused.cond

-- a channel to a device, in a mode
abbrev pub to_device : Device → Mode → Channel
to_device dev mode = record { device = dev; mode = mode }

-- the cell and the channel of a request that may be accepted
abbrev pub granted : Result Granted Cond → Result (Cell × Channel) Cond
granted (Ok g) = Ok (g.cell, to_device g.device g.mode)
granted (Err c) = Err c

-- the effect that tells of a request that is opened
abbrev pub opened_effect : State → Id → Pid → Option Mode → Device → Func → ℕ → Effect
opened_effect s id p mode dev func len = if is_direct s dev then effect.Open id opened.Dio p mode 0 else effect.Open id opened.Bio p mode (moved_bytes func len)

-- The devices of a process's channels stand; and so do requests; and the ids of requests and of attention entries are in order.
pub record AreOpen (s : State) (p : Pid) : Type 0 where
  pub channels : AllByRecursion (ChannelStands (ground s)) (process_at s p).channels
  pub requests : AreRequests s
  pub entries : AreOrdered attention_id 0 s.next s.attention

-- The numbers of a request are in their ranges: it names a status block or none, a buffer, and at most 2,048 bytes.
pub record IsInRange (q : Asking) : Type 0 where
  pub iosb : q.iosb ≤ 32
  pub buf : q.buf ≤ 31
  pub len : q.len ≤ 2048

-- A request of a process may be opened on a device: it exceeds no limit, and there is a spare of all that it takes.
pub record IsOpening (k : Kernel) (p : Pid) (dev : Device) (func : Func) (with_ast : Bool) (len : ℕ) : Type 0 where
  pub made : IsProcess k.state p
  pub spares : HasSpares k
  pub free : length k.state.requests + 1 ≤ k.requests
  pub entry : length k.state.attention + 1 ≤ k.attention
  pub messages : HasMessageRooms k
  pub ids : k.state.next < 4294967295
  pub steady : AreSteady k.state
  pub device : DeviceStands (ground k.state) dev
  pub within : exceeds k.state p (request_need k.state dev func with_ast len) ≡ false

-- A request passed its tests: its numbers are in range, its flag is there, and its device is there and has the function; for
-- attention it has an AST; and no limit is exceeded.
pub record IsGranted (s : State) (p : Pid) (q : Asking) (with_ast : Bool) (g : Granted) : Type 0 where
  pub range : IsInRange q
  pub cell : IsCell s g.cell
  pub device : DeviceStands (ground s) g.device
  pub func : IsTrue (has_function g.device q.func)
  pub ast : is_attention q.func ≡ true → with_ast ≡ true
  pub within : exceeds s p (request_need s g.device q.func with_ast q.len) ≡ false
