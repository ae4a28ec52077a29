-- What is done with a message, by the ids of its write and of the read that gets it, and with an attention entry, by its id.
use Rattle.std.specs.Prelude.{ℕ, ◌==◌, Bool, not, List, [], ◌∷◌, Option, Some, None, if◌then◌else◌, nat_lt, length, take}
use Rattle.std.specs.List.{find, list_any}
use Rattle.vx_base.specs.Lists.{less}
use Rattle.vx_record.specs.Types.{Attention, Body, BoxNo, Func, Id, Msg, Reply, Request}
use Rattle.vx_base.specs.Queues.{body_bytes}
use Rattle.vx_base.specs.declared.cond.Cond.TheVariants.{BufferOvf, EndOfFile, Normal}
use Rattle.vx_base.specs.declared.effects.Effect.TheVariants as effect
use Rattle.vx_base.specs.declared.request.Body.TheVariants as body
use Rattle.vx_base.specs.declared.request.Func.TheVariants.{ReadAttn, WrtAttn}
use Rattle.vx_record.specs.Finish.{Ending, ending, finish_id, this_request}
use Rattle.vx_record.specs.Mailboxes.{call_attention, fire_attention, is_same_attention, is_waiting_func, mailbox_at, mput_part, this_attention, this_message, waits_at, with_messages}
use Rattle.vx_record.specs.Parts.{Part, and_then, nothing, part_if, tells}
use Rattle.vx_record.specs.Sound.{BoxStands, ground}
use Rattle.vx_record.specs.State.{State}
use Rattle.vx_io.specs.Steady.{AreSteady}

-- a message, by the id of its write, goes to a read
abbrev pub mget_by : State → BoxNo → Id → Id → Part
mget_by s b w r = tells (effect.MGet (mailbox_at s b).name w r) (with_messages s b (less (this_message w) (mailbox_at s b).messages))

-- how many bytes the request that was found asks for
abbrev pub len_found : Option Request → ℕ
len_found None = 0
len_found (Some r) = r.req.len

-- what a read of so many bytes gets of a message
abbrev pub read_reply : ℕ → Body → Reply
read_reply len body.Eof = record { cond = EndOfFile; count = 0; bytes = [] }
read_reply len (body.Text bytes) = record { cond = if nat_lt len (length bytes) then BufferOvf else Normal; count = length (take len bytes); bytes = take len bytes }

-- a write of so many bytes, by its id, is done
abbrev pub done_by : State → Id → ℕ → Part
done_by s w count = finish_id s w (ending Normal count 0 [])

-- a message, by the id of its write, stays
abbrev pub store_by : State → BoxNo → Id → Bool → ℕ → Part
store_by s b w held count = and_then (part_if (not held) (done_by s w count) s) (λ a. call_attention a b WrtAttn)

-- a message is put, and stays
abbrev pub keep_by : State → BoxNo → Msg → Part
keep_by s b m = and_then (mput_part s b m) (λ a. store_by a b m.id m.held (length (body_bytes m.body)))

-- it goes to a read, which ends so, and the write of so many bytes is done
abbrev pub pass_by : State → BoxNo → Id → Id → Ending → ℕ → Part
pass_by s b w r e count = and_then (and_then (mget_by s b w r) (λ a. finish_id a r e)) (λ a. done_by a w count)

-- a read, by its id, finds no message
abbrev pub wait_by : State → BoxNo → Id → Func → Part
wait_by s b r func = and_then (part_if (not (is_waiting_func func)) (finish_id s r (ending EndOfFile 0 0 [])) s) (λ a. call_attention a b ReadAttn)

-- it takes this message, by the id of its write
abbrev pub take_by : State → BoxNo → Id → Id → Msg → Part
take_by s b w r m =
    and_then (and_then (mget_by s b w r) (λ a. finish_id a r (read_reply (len_found (find (this_request r) s.requests)) m.body, m.writer.0)))
    (λ a. part_if m.held (done_by a w (length (body_bytes m.body))) a)

abbrev pub take_found : State → BoxNo → Id → Id → Option Msg → Part
take_found s b w r None = nothing s
take_found s b w r (Some m) = take_by s b w r m

-- it takes the first of these messages, or finds none
abbrev pub read_by : State → BoxNo → Id → Func → List Msg → Part
read_by s b r func [] = wait_by s b r func
read_by s b r func (m ∷ ms) = take_by s b m.id r m

-- the attention entry that was found fires
abbrev pub fire_found : State → Option Attention → Part
fire_found s None = nothing s
fire_found s (Some a) = fire_attention s a

-- whoever asks at a mailbox for this kind of attention has it already
abbrev pub is_answered : State → BoxNo → Func → Bool
is_answered s b func = if is_same_attention func WrtAttn then not (length (mailbox_at s b).messages == 0) else list_any (waits_at b) s.requests

-- the entry of an id fires, if it asks for what there is already
abbrev pub attend_by : State → BoxNo → Func → Id → Part
attend_by s b func id = part_if (is_answered s b func) (fire_found s (find (this_attention id) s.attention)) s

-- The mailbox is there, and what is done at it can go on.
pub record IsServing (s : State) (b : BoxNo) : Type 0 where
  pub stands : BoxStands (ground s) b
  pub steady : AreSteady s
