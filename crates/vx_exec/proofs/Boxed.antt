-- How much requests on mailboxes and attention entries tell: a message comes in and goes out, its request and the read's finish, or all
-- attention entries fire.
use Rattle.std.proofs.Common.{ℕ, ◌+◌, ◌≤◌, List, ◌∷◌, length, length-set, Option, Some, None, ◌*◌, arith, [], not}
use Rattle.std.specs.List.{filter, find}
use Rattle.vx_record.specs.Types.{Attention, BoxNo, Device, Func, Id, Msg, Request}
use Rattle.vx_base.specs.declared.cond.Cond.TheVariants.{EndOfFile}
use Rattle.vx_base.specs.declared.request.Device.TheVariants as device
use Rattle.vx_base.specs.declared.request.Func.TheVariants.{ReadAttn, WrtAttn}
use Rattle.vx_record.specs.State.{Process, State}
use Rattle.vx_record.specs.Parts.{nothing}
use Rattle.vx_record.specs.Finish.{Ending, is_read, ending, this_request, finish_found}
use Rattle.vx_record.specs.Requests.{begun_on}
use Rattle.vx_record.specs.Mailboxes.{mailbox_at, attend, call_attention, fire_attention, hand_over, is_answered_now, is_attention_at, is_waiting_func, message_of, mget_part, mput_part, read_ending, received, store_message, take_message, waits_at, write_box, write_done, write_ending}
use Rattle.vx_record.proofs.Lists.{either}
use Rattle.vx_procs.proofs.Firsts.{less_few}
use Rattle.vx_exec.proofs.Goes.{filter_few}
use Rattle.vx_exec.proofs.Ends.{Ends, each_ends, ends_more, ends_then, finish_ends}

-- nothing is done, or little
still_ends : (n : ℕ) (s : State) → Ends n s (nothing s)
still_ends n s = grind arith

-- Attention.

fire_ends : (s : State) (a : Attention) → Ends 2 s (fire_attention s a)
fire_ends s a = grind (arith, less_few {A = Attention}, length-set {A = Process})

-- those of a kind at a mailbox
call_ends : (n : ℕ) (s : State) (b : BoxNo) (func : Func) → length s.attention ≤ n → Ends (2 * n) s (call_attention s b func)
call_ends n s b func few = ends_more _ (2 * n) (omega (arith, few, filter_few (is_attention_at b func) s.attention)) (each_ends 2 fire_attention fire_ends (filter (is_attention_at b func) s.attention) s)

pub attend_ends : (s : State) (a : Attention) → Ends 2 s (attend s a)
attend_ends s a = either (Ends 2 s) (is_answered_now s a) _ _ (fire_ends s a) (still_ends 2 s)

-- Messages.

found_ends : (s : State) (o : Option Request) (e : Ending) → Ends 5 s (finish_found s o e)
found_ends s None e = still_ends 5 s
found_ends s (Some r) e = finish_ends s r e

get_ends : (s : State) (b : BoxNo) (m : Msg) (r : Id) → Ends 1 s (mget_part s b m r)
get_ends s b m r = grind arith

received_ends : (s : State) (b : BoxNo) (m : Msg) (r : Request) → Ends 6 s (received s b m r)
received_ends s b m r = ends_then 1 5 (get_ends s b m r.req.id) (finish_ends _ r (read_ending r.req m m.body))

written_ends : (s : State) (m : Msg) → Ends 5 s (write_done s m)
written_ends s m = found_ends s (find (this_request m.id) s.requests) (write_ending m)

store_ends : (n : ℕ) (s : State) (b : BoxNo) (m : Msg) → length s.attention ≤ n → Ends (5 + 2 * n) s (store_message s b m)
store_ends n s b m few = let first = either (Ends 5 s) (not m.held) _ _ (written_ends s m) (still_ends 5 s) in ends_then 5 (2 * n) first (call_ends n _ b WrtAttn (omega (arith, few, first.attention)))

hand_ends : (n : ℕ) (s : State) (b : BoxNo) (m : Msg) (o : Option Request) → length s.attention ≤ n → Ends (11 + 2 * n) s (hand_over s b m o)
hand_ends n s b m None few = ends_more (5 + 2 * n) _ (omega arith) (store_ends n s b m few)
hand_ends n s b m (Some r) few = ends_more 11 _ (omega arith) (ends_then 6 5 (received_ends s b m r) (written_ends _ m))

put_ends : (s : State) (b : BoxNo) (m : Msg) → Ends 1 s (mput_part s b m)
put_ends s b m = grind arith

write_ends : (s : State) (b : BoxNo) (m : Msg) → Ends (12 + 2 * length s.attention) s (write_box s b m)
write_ends s b m =
    let t = (mput_part s b m).after in
    ends_more (1 + (11 + 2 * length s.attention)) _ (omega arith) (ends_then 1 (11 + 2 * length s.attention) (put_ends s b m) (hand_ends (length s.attention) t b m (find (waits_at b) t.requests) (omega arith)))

-- a read
take_ends : (s : State) (b : BoxNo) (r : Request) (ms : List Msg) → Ends (12 + 2 * length s.attention) s (take_message s b r ms)
take_ends s b r [] =
    let first = either (Ends 5 s) (not (is_waiting_func r.req.func)) _ _ (finish_ends s r (ending EndOfFile 0 0 [])) (still_ends 5 s) in
    ends_more _ _ (omega arith) (ends_then 5 (2 * length s.attention) first (call_ends (length s.attention) _ b ReadAttn first.attention))
take_ends s b r (m ∷ ms) =
    let t = (received s b m r).after in
    ends_more 11 _ (omega arith) (ends_then 6 5 (received_ends s b m r) (either (Ends 5 t) m.held _ _ (written_ends t m) (still_ends 5 t)))

-- a request that is accepted is queued at a unit, and does its part at a mailbox
pub begun_ends : (s : State) (r : Request) (d : Device) → Ends (12 + 2 * length s.attention) s (begun_on s r d)
begun_ends s r (device.Unit u) = still_ends _ s
begun_ends s r (device.Mailbox b) = either (Ends (12 + 2 * length s.attention) s) (is_read r.req.func) _ _ (take_ends s b r (mailbox_at s b).messages) (write_ends s b (message_of r.req))
