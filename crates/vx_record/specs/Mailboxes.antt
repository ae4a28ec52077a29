-- Mailboxes: what an accepted write, end of file, read or attention entry does.
use Rattle.std.specs.Prelude.{List, [], ◌∷◌, ◌++◌, Bool, true, false, ◌&&◌, ◌==◌, not, nat_lt, if◌then◌else◌, length, take, Option, Some, None}
use Rattle.std.specs.List.{find, filter, list_any}
pub use Rattle.vx_base.specs.Channels.{is_box}
use Rattle.vx_base.specs.Lists.{less}
use Rattle.vx_record.specs.Types.{Attention, Body, BoxNo, Func, Id, Mailbox, Msg, Req, Request}
use Rattle.vx_base.specs.Queues.{body_bytes}
use Rattle.vx_base.specs.declared.cond.Cond.TheVariants.{Normal, BufferOvf, EndOfFile}
use Rattle.vx_base.specs.declared.effects.Effect.TheVariants as effect
use Rattle.vx_base.specs.declared.request.Body.TheVariants as body
use Rattle.vx_base.specs.declared.request.Device.TheVariants as device
use Rattle.vx_base.specs.declared.request.Func.TheVariants.{Read, Write, Eof, ReadAttn, WrtAttn}
use Rattle.vx_record.specs.State.{State, box_at, with_box}
use Rattle.vx_record.specs.Parts.{Part, tells, and_then, each, part_if}
use Rattle.vx_record.specs.Finish.{Ending, ending, finish, finish_id}
use Rattle.vx_record.specs.Asts.{que_part, charged_ast}
use Rattle.vx_record.specs.Charges.{is_end_of_file}

-- Boxes.

abbrev pub no_box : Mailbox
no_box = record { name = []; permanent = false; marked = false; maxmsg = 0; bufquo = 0; messages = [] }

abbrev pub or_no_box : Option Mailbox → Mailbox
or_no_box None = no_box
or_no_box (Some box) = box

abbrev pub mailbox_at : State → BoxNo → Mailbox
mailbox_at s b = or_no_box (box_at s b)

abbrev pub with_messages : State → BoxNo → List Msg → State
with_messages s b messages = with_box s b (Some (record (mailbox_at s b) { messages = messages }))

abbrev pub is_waiting_func : Func → Bool
is_waiting_func Read = true
is_waiting_func _ = false

-- the reads that wait at a mailbox are the outstanding READ requests on it
abbrev pub waits_at : BoxNo → Request → Bool
waits_at b r = is_box b r.req.device && is_waiting_func r.req.func

-- Messages.

-- a write that does not ask for NOW is held until its message is read
abbrev pub is_held : Func → Bool
is_held Write = true
is_held Eof = true
is_held _ = false

abbrev pub body_of : Req → Body
body_of r = if is_end_of_file r.func then body.Eof else body.Text r.bytes

abbrev pub message_of : Req → Msg
message_of r = record { id = r.id; writer = r.p; body = body_of r; held = is_held r.func }

abbrev pub this_message : Id → Msg → Bool
this_message id m = m.id.0 == id.0

abbrev pub mput_part : State → BoxNo → Msg → Part
mput_part s b m = tells (effect.MPut (mailbox_at s b).name m.id m.body) (with_messages s b ((mailbox_at s b).messages ++ m ∷ []))

abbrev pub mget_part : State → BoxNo → Msg → Id → Part
mget_part s b m r = tells (effect.MGet (mailbox_at s b).name m.id r) (with_messages s b (less (this_message m.id) (mailbox_at s b).messages))

abbrev pub mcut_part : State → BoxNo → Id → Part
mcut_part s b w = tells (effect.MCut (mailbox_at s b).name w) (with_messages s b (less (this_message w) (mailbox_at s b).messages))

-- what a reader of len bytes ends with: the block's last number is the writer's process
abbrev pub read_ending : Req → Msg → Body → Ending
read_ending r m body.Eof = ending EndOfFile 0 m.writer.0 []
read_ending r m (body.Text bytes) = ending (if nat_lt r.len (length bytes) then BufferOvf else Normal) (length (take r.len bytes)) m.writer.0 (take r.len bytes)

abbrev pub write_ending : Msg → Ending
write_ending m = ending Normal (length (body_bytes m.body)) 0 []

-- a message goes to a read, which finishes
abbrev pub received : State → BoxNo → Msg → Request → Part
received s b m r = and_then (mget_part s b m r.req.id) (λ a. finish a r (read_ending r.req m m.body))

abbrev pub write_done : State → Msg → Part
write_done s m = finish_id s m.id (write_ending m)

-- Attention.

abbrev pub is_same_attention : Func → Func → Bool
is_same_attention ReadAttn ReadAttn = true
is_same_attention WrtAttn WrtAttn = true
is_same_attention _ _ = false

abbrev pub is_attention_at : BoxNo → Func → Attention → Bool
is_attention_at b func a = (a.box.0 == b.0) && is_same_attention a.func func

abbrev pub this_attention : Id → Attention → Bool
this_attention id a = a.id.0 == id.0

-- an entry fires once, and its AST is queued
abbrev pub fire_attention : State → Attention → Part
fire_attention s a =
    and_then (tells (effect.Fire a.id) (record s { attention = less (this_attention a.id) s.attention })) (λ b. que_part b a.p (charged_ast a.id a.mode a.tag))

-- each entry of a kind at a mailbox fires, in id order
abbrev pub call_attention : State → BoxNo → Func → Part
call_attention s b func = each fire_attention (filter (is_attention_at b func) s.attention) s

-- What an accepted request does.

-- a message that no read waits for is stored; a write with NOW is finished; and whoever asked for attention gets it
abbrev pub store_message : State → BoxNo → Msg → Part
store_message s b m = and_then (part_if (not m.held) (write_done s m) s) (λ a. call_attention a b WrtAttn)

abbrev pub hand_over : State → BoxNo → Msg → Option Request → Part
hand_over s b m None = store_message s b m
hand_over s b m (Some r) = and_then (received s b m r) (λ a. write_done a m)

-- a write or an end of file: the oldest read that waits takes it, and both finish
abbrev pub write_box : State → BoxNo → Msg → Part
write_box s b m = and_then (mput_part s b m) (λ a. hand_over a b m (find (waits_at b) a.requests))

abbrev pub wait_for_message : State → BoxNo → Request → Part
wait_for_message s b r = and_then (part_if (not (is_waiting_func r.req.func)) (finish s r (ending EndOfFile 0 0 [])) s) (λ a. call_attention a b ReadAttn)

abbrev pub take_message : State → BoxNo → Request → List Msg → Part
take_message s b r [] = wait_for_message s b r
take_message s b r (m ∷ ms) = and_then (received s b m r) (λ a. part_if m.held (write_done a m) a)

-- a read: it takes the oldest message, whose write finishes if it is held; or waits; or with NOW finds an end of file
abbrev pub read_box : State → BoxNo → Request → Part
read_box s b r = take_message s b r (mailbox_at s b).messages

-- there is already what an attention entry asks for
abbrev pub is_answered_now : State → Attention → Bool
is_answered_now s a = if is_same_attention a.func WrtAttn then not (length (mailbox_at s a.box).messages == 0) else list_any (waits_at a.box) s.requests

abbrev pub attend : State → Attention → Part
attend s a = part_if (is_answered_now s a) (fire_attention s a) s
