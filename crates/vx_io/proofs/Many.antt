-- An accepted request makes no process, and none goes.
use Rattle.std.proofs.Common.{◌≡◌, ℕ, ◌+◌, ◌-◌, List, [], ◌∷◌, ◌++◌, Bool, true, false, not, ◌==◌, length, length-set, Option, Some, None, refl, ap, ◌∙◌, arith}
use Rattle.std.specs.List.{filter, find}
use Rattle.vx_record.specs.Types.{Attention, BoxNo, Cell, Channel, Device, Entry, Func, Msg, Pid, Request, Status}
use Rattle.vx_base.specs.Pieces.{cleared}
use Rattle.vx_base.specs.declared.cond.Cond.TheVariants.{EndOfFile}
use Rattle.vx_base.specs.declared.effects.Cell.TheVariants.{Common, Local}
use Rattle.vx_base.specs.declared.request.Device.TheVariants as device
use Rattle.vx_base.specs.declared.request.Func.TheVariants.{ReadAttn, WrtAttn}
use Rattle.vx_record.specs.Asts.{charged_ast, with_queued}
use Rattle.vx_record.specs.Charges.{is_attention, is_direct}
use Rattle.vx_record.specs.Finish.{Ending, ending, finish, iosb_part, is_read, put_status, this_request, with_stored_status}
use Rattle.vx_record.specs.Flags.{cell, flag_part, flag_where_named, with_local_flag}
use Rattle.vx_record.specs.Mailboxes.{attend, call_attention, fire_attention, hand_over, is_answered_now, is_attention_at, is_waiting_func, mailbox_at, message_of, mget_part, mput_part, read_box, read_ending, received, take_message, waits_at, write_box, write_done, write_ending}
use Rattle.vx_record.specs.Parts.{Part, each, nothing, part_if}
use Rattle.vx_record.specs.Requests.{Asked, asked_of, attention_on, attention_set, begun_on, cleared_part, done_at_once, new_attention, new_request, opened_request, transfer}
use Rattle.vx_record.specs.State.{State, IsProcess, process_at}
use Rattle.vx_record.proofs.Lists.{either}
use Rattle.vx_procs.specs.Kernel.{Acts, Kernel}
use Rattle.vx_io.proofs.Kept.{finish_kept}
use Rattle.vx_io.proofs.Steady.{found_many}

-- the part leaves as many processes
abbrev IsEven : State → Part → Type 0
IsEven s a = length a.after.procs ≡ length s.procs

status_even : (s : State) (p : Pid) (i : ℕ) (st : Status) → IsEven s (iosb_part s p i st)
status_even s p i st = either (IsEven s) (not (i == 0)) (put_status s p i st) (nothing s) (length-set s.procs (p.0 - 1) (with_stored_status i st (process_at s p))) refl

flag_even : (s : State) (c : Cell) (on : Bool) → IsEven s (flag_part s c on)
flag_even s (Local q n) on = length-set s.procs (q.0 - 1) (with_local_flag n on (process_at s q))
flag_even s (Common group name n) on = refl

named_even : (s : State) (o : Option Cell) → IsEven s (flag_where_named s o true)
named_even s None = refl
named_even s (Some c) = flag_even s c true

fire_even : (s : State) (a : Attention) → IsEven s (fire_attention s a)
fire_even s a = length-set s.procs (a.p.0 - 1) (with_queued (charged_ast a.id a.mode a.tag) (process_at s a.p))

each_even : (xs : List Attention) (s : State) → IsEven s (each fire_attention xs s)
each_even [] s = refl
each_even (a ∷ xs) s = each_even xs (fire_attention s a).after ∙ fire_even s a

finish_even : (s : State) (r : Request) (e : Ending) → IsEven s (finish s r e)
finish_even s r e = (finish_kept s r e).many

done_even : (s : State) (m : Msg) → IsEven s (write_done s m)
done_even s m = found_many s (find (this_request m.id) s.requests) (write_ending m)

-- At a mailbox.

received_even : (s : State) (b : BoxNo) (m : Msg) (r : Request) → IsEven s (received s b m r)
received_even s b m r = finish_even (mget_part s b m r.req.id).after r (read_ending r.req m m.body)

called_even : (s : State) (b : BoxNo) (func : Func) → IsEven s (call_attention s b func)
called_even s b func = each_even (filter (is_attention_at b func) s.attention) s

handed_even : (s : State) (b : BoxNo) (m : Msg) (o : Option Request) → IsEven s (hand_over s b m o)
handed_even s b m None =
    let a = part_if (not m.held) (write_done s m) s in
    called_even a.after b WrtAttn ∙ either (IsEven s) (not m.held) (write_done s m) (nothing s) (done_even s m) refl
handed_even s b m (Some r) = done_even (received s b m r).after m ∙ received_even s b m r

written_even : (s : State) (b : BoxNo) (m : Msg) → IsEven s (write_box s b m)
written_even s b m = let a = (mput_part s b m).after in handed_even a b m (find (waits_at b) a.requests)

taken_even : (s : State) (b : BoxNo) (r : Request) (ms : List Msg) → IsEven s (take_message s b r ms)
taken_even s b r [] =
    let a = part_if (not (is_waiting_func r.req.func)) (finish s r (ending EndOfFile 0 0 [])) s in
    called_even a.after b ReadAttn ∙ either (IsEven s) (not (is_waiting_func r.req.func)) (finish s r (ending EndOfFile 0 0 [])) (nothing s) (finish_even s r (ending EndOfFile 0 0 [])) refl
taken_even s b r (m ∷ ms) =
    let a = (received s b m r).after in
    either (IsEven a) m.held (write_done a m) (nothing a) (done_even a m) refl ∙ received_even s b m r

begun_even : (s : State) (r : Request) (d : Device) → IsEven s (begun_on s r d)
begun_even s r (device.Unit u) = refl
begun_even s r (device.Mailbox b) = either (IsEven s) (is_read r.req.func) (read_box s b r) (write_box s b (message_of r.req)) (taken_even s b r (mailbox_at s b).messages) (written_even s b (message_of r.req))

-- What is asked.

opened_even : (s : State) (p : Pid) (q : Asked) (ch : Channel) → IsEven s (opened_request s p q ch)
opened_even s p q ch = either (IsEven s) (is_direct s ch.device) _ _ refl refl

attend_even : (s : State) (a : Attention) → IsEven s (attend s a)
attend_even s a = either (IsEven s) (is_answered_now s a) (fire_attention s a) (nothing s) (fire_even s a) refl

set_even : (s : State) (p : Pid) (q : Asked) (b : BoxNo) (tag : Entry) → IsEven s (attention_set s p q (new_attention s p q b tag))
set_even s p q b tag =
    let a = new_attention s p q b tag in
    let one : State = record s { next = s.next + 1; attention = s.attention ++ a ∷ [] } in
    let two = (iosb_part one p q.iosb done_at_once).after in
    let three = (flag_where_named two (cell two p q.efn) true).after in
    attend_even three a ∙ (named_even two (cell two p q.efn) ∙ status_even one p q.iosb done_at_once)

on_even : (s : State) (p : Pid) (q : Asked) (d : Device) (o : Option Entry) → IsEven s (attention_on s p q d o)
on_even s p q (device.Unit u) o = refl
on_even s p q (device.Mailbox b) None = refl
on_even s p q (device.Mailbox b) (Some tag) = set_even s p q b tag

transfer_even : (s : State) (p : Pid) (q : Asked) (ch : Channel) → IsEven s (transfer s p q ch)
transfer_even s p q ch = begun_even (opened_request s p q ch).after (new_request s p q ch) ch.device ∙ opened_even s p q ch

asked_even : (s : State) (p : Pid) (q : Asked) (ch : Channel) → IsEven s (asked_of s p q ch)
asked_even s p q ch = either (IsEven s) (is_attention q.func) (attention_on s p q ch.device q.ast) (transfer s p q ch) (on_even s p q ch.device q.ast) (transfer_even s p q ch)

pub asked_made : (k l n : Kernel) (p : Pid) (q asks : Asked) (c : Cell) (ch : Channel) → IsProcess k.state p → Acts (cleared_part k.state p q c) k l → Acts (asked_of l.state p asks ch) l n → IsProcess n.state p
asked_made k l n p q asks c ch made did then =
    let one = (flag_part k.state c false).after in
    let first = ap (λ (y : Kernel). length y.state.procs) did ∙ (status_even one p q.iosb cleared ∙ flag_even k.state c false) in
    let last = ap (λ (y : Kernel). length y.state.procs) then ∙ asked_even l.state p asks ch in
    record { above = made.above; within = omega (arith, made.within, first, last) }
