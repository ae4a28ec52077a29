-- $QIO, $QIOW and $SYNCH: how a request is refused or accepted, and what units do with it.
use Rattle.std.specs.Prelude.{ℕ, ◌+◌, List, [], ◌∷◌, ◌++◌, Bool, true, false, ◌&&◌, ◌||◌, not, nat_lt, if◌then◌else◌, take, Option, Some, None, Result, Ok, Err, is_some, is_none, slice_set}
use Rattle.std.specs.List.{list_any}
use Rattle.vx_base.specs.Lists.{amend}
use Rattle.vx_record.specs.Types.{Attention, BoxNo, Cell, Channel, Cond, Device, DeviceUnit, Entry, Func, Mode, Pid, Promised, Reply, Req, Request, Status, UnitNo}
use Rattle.vx_base.specs.Pieces.{cleared}
use Rattle.vx_base.specs.Queues.{stored_bytes}
use Rattle.vx_base.specs.Serving.{serve, settled}
use Rattle.vx_base.specs.declared.cond.Cond.TheVariants.{Normal, Abort, IllEfc, UnasEfc, IllIoFunc, BadParam, MbTooSml, MbFull, ExQuota}
use Rattle.vx_base.specs.declared.effects.Opened.TheVariants as opened
use Rattle.vx_base.specs.declared.frame.Wait.TheVariants as wait
use Rattle.vx_base.specs.declared.request.Device.TheVariants as device
use Rattle.vx_base.specs.declared.request.Func.TheVariants.{Read, Write}
use Rattle.vx_image.specs.Storage.{buffer_at}
use Rattle.vx_record.specs.State.{State, process_at, current, next_id, past_id, unit_at}
use Rattle.vx_record.specs.Parts.{Part, Outcome, nothing, and_then, answered, refused, followed_by}
use Rattle.vx_record.specs.Flags.{cell, flag_part, flag_where_named, awaited, refused_wait, at_flag, waits_on}
use Rattle.vx_record.specs.Charges.{exceeds, request_need, moved_bytes, is_direct, is_attention}
use Rattle.vx_record.specs.Asts.{open_part}
use Rattle.vx_record.specs.Finish.{Ending, ending, is_read, is_write, iosb_part, finish, this_request}
use Rattle.vx_record.specs.Mailboxes.{mailbox_at, waits_at, message_of, write_box, read_box, attend}
use Rattle.vx_record.specs.Channels.{channel_test}
use Rattle.vx_record.specs.Timers.{mode_of_ast}
use Rattle.vx_record.specs.declared.served.Served.{Served}

-- what a request asks: event flag, channel, function, status block, AST, buffer, length in bytes, block
pub record Asked : Type 0 where
  pub efn : ℕ
  pub chan : ℕ
  pub func : Func
  pub iosb : ℕ
  pub ast : Option Entry
  pub buf : ℕ
  pub len : ℕ
  pub blk : ℕ

-- The refusals, in order.

-- a status block above 32, a buffer above 31, a length above 2,048, attention without an AST
abbrev pub is_bad : Asked → Bool
is_bad q = nat_lt 32 q.iosb || (nat_lt 31 q.buf || (nat_lt 2048 q.len || (is_attention q.func && is_none q.ast)))

-- units read and write; mailboxes do all
abbrev pub has_function : Device → Func → Bool
has_function (device.Unit u) Read = true
has_function (device.Unit u) Write = true
has_function (device.Unit u) _ = false
has_function (device.Mailbox b) func = true

-- a write that is longer than the mailbox takes
abbrev pub is_too_long : State → Device → Asked → Bool
is_too_long s (device.Unit u) q = false
is_too_long s (device.Mailbox b) q = is_write q.func && nat_lt (mailbox_at s b).maxmsg q.len

-- a write that no read waits for and the mailbox has no room for
abbrev pub is_full : State → Device → Asked → Bool
is_full s (device.Unit u) q = false
is_full s (device.Mailbox b) q =
    is_write q.func && (not (list_any (waits_at b) s.requests) && nat_lt (mailbox_at s b).bufquo (stored_bytes (mailbox_at s b).messages + q.len))

abbrev pub device_test : State → Pid → Asked → Cell → Channel → Result (Cell × Channel) Cond
device_test s p q c ch =
    if not (has_function ch.device q.func) then Err IllIoFunc else (
    if is_too_long s ch.device q then Err MbTooSml else (
    if is_full s ch.device q then Err MbFull else (
    if exceeds s p (request_need s ch.device q.func (is_some q.ast) q.len) then Err ExQuota else Ok (c, ch))))

abbrev pub on_channel : (Channel → Result (Cell × Channel) Cond) → Result Channel Cond → Result (Cell × Channel) Cond
on_channel go (Err c) = Err c
on_channel go (Ok ch) = go ch

abbrev pub on_cell : State → Pid → Asked → Option Cell → Result (Cell × Channel) Cond
on_cell s p q None = Err UnasEfc
on_cell s p q (Some c) = on_channel (device_test s p q c) (channel_test s p q.chan)

-- the cell of its flag and its channel, if a request is accepted
abbrev pub request_test : State → Pid → Asked → Result (Cell × Channel) Cond
request_test s p q = if is_bad q then Err BadParam else (if nat_lt 127 q.efn then Err IllEfc else on_cell s p q (cell s p q.efn))

-- Acceptance: the flag and the status block are cleared, and the request is opened.

abbrev pub captured : State → Pid → Asked → List ℕ
captured s p q = if is_write q.func then take q.len (buffer_at (process_at s p).store q.buf) else []

abbrev pub new_req : State → Pid → Asked → Channel → Req
new_req s p q ch = record {
  id = next_id s;
  p = p;
  chan = q.chan;
  chan_mode = ch.mode;
  device = ch.device;
  func = q.func;
  efn = q.efn;
  iosb = q.iosb;
  buf = q.buf;
  len = q.len;
  blk = q.blk;
  bytes = captured s p q;
}

abbrev pub promised : Mode → Option Entry → Option Promised
promised mode None = None
promised mode (Some tag) = Some (record { mode = mode; tag = tag })

abbrev pub new_request : State → Pid → Asked → Channel → Request
new_request s p q ch = record { req = new_req s p q ch; ast = promised (current s p) q.ast; served = false; marked = false }

abbrev pub cleared_part : State → Pid → Asked → Cell → Part
cleared_part s p q c = and_then (flag_part s c false) (λ a. iosb_part a p q.iosb cleared)

abbrev pub with_request : State → Request → State
with_request s r = record s { requests = s.requests ++ r ∷ [] }

abbrev pub opened_request : State → Pid → Asked → Channel → Part
opened_request s p q ch =
    if is_direct s ch.device then open_part s opened.Dio p (mode_of_ast (current s p) q.ast) 0 (with_request (past_id s) (new_request s p q ch)) else
    open_part s opened.Bio p (mode_of_ast (current s p) q.ast) (moved_bytes q.func q.len) (with_request (past_id s) (new_request s p q ch))

-- a request on a unit is queued; one on a mailbox does its part at once
abbrev pub begun_on : State → Request → Device → Part
begun_on s r (device.Unit u) = nothing s
begun_on s r (device.Mailbox b) = if is_read r.req.func then read_box s b r else write_box s b (message_of r.req)

abbrev pub transfer : State → Pid → Asked → Channel → Part
transfer s p q ch = and_then (opened_request s p q ch) (λ a. begun_on a (new_request s p q ch) ch.device)

-- an attention entry: its status block is filled and its flag is set at once
abbrev pub new_attention : State → Pid → Asked → BoxNo → Entry → Attention
new_attention s p q b tag = record { id = next_id s; p = p; chan = q.chan; box = b; func = q.func; mode = current s p; tag = tag }

abbrev pub with_attention : State → Attention → State
with_attention s a = record s { attention = s.attention ++ a ∷ [] }

abbrev pub done_at_once : Status
done_at_once = record { cond = Some Normal; count = 0; info = 0 }

abbrev pub attention_opened : State → Pid → Asked → Attention → Part
attention_opened s p q a = open_part s opened.Attn p (Some (current s p)) 0 (with_attention (past_id s) a)

abbrev pub attention_set : State → Pid → Asked → Attention → Part
attention_set s p q a =
    and_then (and_then (attention_opened s p q a) (λ b. iosb_part b p q.iosb done_at_once)) (λ c. and_then (flag_where_named c (cell c p q.efn) true) (λ d. attend d a))

abbrev pub attention_on : State → Pid → Asked → Device → Option Entry → Part
attention_on s p q (device.Mailbox b) (Some tag) = attention_set s p q (new_attention s p q b tag)
attention_on s p q _ _ = nothing s

abbrev pub asked_of : State → Pid → Asked → Channel → Part
asked_of s p q ch = if is_attention q.func then attention_on s p q ch.device q.ast else transfer s p q ch

abbrev pub accepted : State → Pid → Asked → Cell → Channel → Part
accepted s p q c ch = and_then (cleared_part s p q c) (λ a. asked_of a p q ch)

-- $QIO

abbrev pub qio_tested : State → Pid → Asked → Result (Cell × Channel) Cond → Outcome Cond
qio_tested s p q (Err c) = refused s c
qio_tested s p q (Ok to) = answered Normal (accepted s p q to.0 to.1)

abbrev pub qio : State → Pid → Asked → Outcome Cond
qio s p q = qio_tested s p q (request_test s p q)

-- $QIOW: the request, and then as $SYNCH

abbrev pub qiow_tested : State → Pid → Asked → Result (Cell × Channel) Cond → Outcome Served
qiow_tested s p q (Err c) = refused_wait s c
qiow_tested s p q (Ok to) = followed_by (accepted s p q to.0 to.1) (λ a. awaited a p (wait.Synch q.efn q.iosb))

abbrev pub qiow : State → Pid → Asked → Outcome Served
qiow s p q = qiow_tested s p q (request_test s p q)

-- $SYNCH: the flag, and the status block if one is named
abbrev pub synch : State → Pid → ℕ → ℕ → Outcome Served
synch s p efn iosb =
    if nat_lt 32 iosb then refused_wait s BadParam else at_flag s p efn (refused_wait s) (waits_on s p (wait.Synch efn iosb))

-- Units.

abbrev pub taken_up : Request → Request
taken_up r = record r { served = true }

-- BEG: the front request is taken into service
abbrev pub begun : State → Request → State
begun s r = record s { requests = amend (this_request r.req.id) taken_up s.requests }

abbrev pub with_unit : State → UnitNo → DeviceUnit → State
with_unit s u unit = record s { units = slice_set s.units u.0 unit }

-- a request that was marked is aborted, whatever the unit replied
abbrev pub unit_ending : Request → Reply → Ending
unit_ending r reply = if r.marked then ending Abort 0 0 [] else (reply, 0)

-- DON: the unit serves the request, which finishes
abbrev pub done : State → UnitNo → Request → Part
done s u r = finish (with_unit s u (settled (unit_at s u) r.req)) r (unit_ending r (serve (unit_at s u) r.req).reply)
