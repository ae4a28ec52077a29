-- What a message does, as the machine has it by requests, and as the code does it by ids.
use Rattle.std.proofs.Common.{◌≡◌, ℕ, List, [], ◌∷◌, ◌++◌, not, length, Option, Some, None, option_map, refl, ap, sym, subst, ◌∙◌}
use Rattle.std.specs.List.{find}
use Rattle.vx_base.proofs.Lists.{some_mapped, none_mapped}
use Rattle.vx_base.specs.Lists.{less}
use Rattle.vx_record.specs.Types.{Body, BoxNo, Id, Msg, Reply, Req, Request}
use Rattle.vx_base.specs.Queues.{body_bytes}
use Rattle.vx_base.specs.declared.cond.Cond.TheVariants.{EndOfFile}
use Rattle.vx_base.specs.declared.effects.Effect.TheVariants as effect
use Rattle.vx_base.specs.declared.request.Body.TheVariants as body
use Rattle.vx_base.specs.declared.request.Func.TheVariants.{ReadAttn}
use Rattle.vx_record.specs.Finish.{Ending, ending, finish, finish_found, finish_id, this_request}
use Rattle.vx_record.specs.Mailboxes.{call_attention, hand_over, is_waiting_func, mailbox_at, mput_part, read_ending, take_message, this_message, waits_at, with_messages, write_box}
use Rattle.vx_record.specs.Parts.{Part, and_then, part_if}
use Rattle.vx_record.specs.Sound.{AreOrdered, request_id}
use Rattle.vx_record.specs.State.{State}
use Rattle.vx_procs.specs.Kernel.{Acts, Fits, Kernel}
use Rattle.vx_procs.proofs.Firsts.{find_same}
use Rattle.vx_procs.proofs.Rest.{acted, acts_both, room_second}
use Rattle.vx_io.specs.Boxes.{done_by, keep_by, len_found, pass_by, read_by, read_reply}

-- what a read gets of a message
pub reply_same : (r : Req) (m : Msg) (b : Body) → read_ending r m b ≡ (read_reply r.len b, m.writer.0)
reply_same r m body.Eof = refl
reply_same r m (body.Text bytes) = refl

-- Reads.

-- the state that is left when a message went to a read
abbrev without : State → BoxNo → Id → State
without s b w = with_messages s b (less (this_message w) (mailbox_at s b).messages)

-- a message is told to go to a read, and then another part
abbrev got : State → BoxNo → Id → Id → Part → Part
got s b w r a = record { effects = effect.MGet (mailbox_at s b).name w r ∷ a.effects; after = a.after }

taken_same : (s : State) (b : BoxNo) (r : Request) (m : Msg) → find (this_request r.req.id) s.requests ≡ Some r → finish_id (without s b m.id) r.req.id (read_reply (len_found (find (this_request r.req.id) s.requests)) m.body, m.writer.0) ≡ finish (without s b m.id) r (read_ending r.req m m.body)
taken_same s b r m found =
    ap (λ (o : Option Request). finish_found (without s b m.id) o (read_reply (len_found o) m.body, m.writer.0)) found
    ∙ ap (finish (without s b m.id) r) (sym (reply_same r.req m m.body))

pub read_same : (s : State) (b : BoxNo) (r : Request) (ms : List Msg) → find (this_request r.req.id) s.requests ≡ Some r → read_by s b r.req.id r.req.func ms ≡ take_message s b r ms
read_same s b r [] found =
    ap (λ (a : Part). and_then (part_if (not (is_waiting_func r.req.func)) a s) (λ t. call_attention t b ReadAttn)) (ap (λ (o : Option Request). finish_found s o (ending EndOfFile 0 0 [])) found)
read_same s b r (m ∷ ms) found =
    ap (λ (a : Part). and_then (got s b m.id r.req.id a) (λ t. part_if m.held (done_by t m.id (length (body_bytes m.body))) t)) (taken_same s b r m found)

-- Writes.

pass_same : (s : State) (b : BoxNo) (m : Msg) (r : Request) (id : Id) (e : Ending) (count : ℕ) → r.req.id ≡ id → find (this_request id) s.requests ≡ Some r → e ≡ read_ending r.req m m.body → count ≡ length (body_bytes m.body) → pass_by s b m.id id e count ≡ hand_over s b m (Some r)
pass_same s b m r id e count is found ends counts =
    let t = without s b m.id in
    let whole : Part → ℕ → Part = λ a n. and_then a (λ u. done_by u m.id n) in
    ap (λ (o : Option Request). whole (got s b m.id id (finish_found t o e)) count) found
    ∙ (ap (λ (x : Ending). whole (got s b m.id id (finish t r x)) count) ends
    ∙ (ap (λ n. whole (got s b m.id id (finish t r (read_ending r.req m m.body))) n) counts
    ∙ ap (λ (i : Id). whole (got s b m.id i (finish t r (read_ending r.req m m.body))) (length (body_bytes m.body))) (sym is)))

-- the oldest read that waits, by its id
record IsWaiting (s : State) (b : BoxNo) (id : Id) : Type 0 where
  r : Request
  found : find (waits_at b) s.requests ≡ Some r
  is : r.req.id ≡ id
  by_id : find (this_request id) s.requests ≡ Some r

waiting : (s : State) (b : BoxNo) (id : Id) → AreOrdered request_id 0 s.next s.requests → Some id ≡ option_map (λ r. r.req.id) (find (waits_at b) s.requests) → IsWaiting s b id
waiting s b id order given =
    let found = some_mapped (λ (r : Request). r.req.id) (find (waits_at b) s.requests) id (sym given) in
    record {
      r = found.0;
      found = found.1;
      is = found.2;
      by_id = ap (λ (i : Id). find (this_request i) s.requests) (sym found.2) ∙ find_same request_id (waits_at b) 0 s.next s.requests found.0 order found.1;
    }

abbrev handed : BoxNo → Msg → State → Part
handed b m a = hand_over a b m (find (waits_at b) a.requests)

-- a read waits: what is done after the message was put is the rest
pub passed_part : (k l : Kernel) (b : BoxNo) (m : Msg) (id : Id) (reply : Reply) (len count : ℕ) → AreOrdered request_id 0 k.state.next k.state.requests → Some id ≡ option_map (λ r. r.req.id) (find (waits_at b) k.state.requests) → len ≡ len_found (find (this_request id) k.state.requests) → reply ≡ read_reply len m.body → count ≡ length (body_bytes m.body) → Acts (mput_part k.state b m) k l → pass_by l.state b m.id id (reply, m.writer.0) count ≡ handed b m l.state
passed_part k l b m id reply len count order given lens replies counts did =
    let s = k.state in
    let x = waiting s b id order given in
    let same : l.state.requests ≡ s.requests = ap (λ (y : Kernel). y.state.requests) did in
    let long : len ≡ x.r.req.len = lens ∙ ap len_found x.by_id in
    let ends : (let e : Ending = (reply, m.writer.0) in e) ≡ read_ending x.r.req m m.body =
    ap (λ (y : Reply). let e : Ending = (y, m.writer.0) in e) (replies ∙ ap (λ n. read_reply n m.body) long) ∙ sym (reply_same x.r.req m m.body) in
    pass_same l.state b m x.r id (reply, m.writer.0) count x.is (ap (find (this_request id)) same ∙ x.by_id) ends counts
    ∙ ap (hand_over l.state b m) (sym (ap (find (waits_at b)) same ∙ x.found))

-- none waits
pub kept_same : (s : State) (b : BoxNo) (m : Msg) → None ≡ option_map (λ r. r.req.id) (find (waits_at b) s.requests) → keep_by s b m ≡ write_box s b m
kept_same s b m given =
    let none = none_mapped (λ (r : Request). r.req.id) (find (waits_at b) s.requests) (sym given) in
    let put = mput_part s b m in
    let joined : Part → Part = λ y. record { effects = put.effects ++ y.effects; after = y.after } in
    ap (λ (o : Option Request). joined (hand_over put.after b m o)) (sym none)

pub rest_room : (k l : Kernel) (b : BoxNo) (m : Msg) (a : Part) → Acts (mput_part k.state b m) k l → a ≡ handed b m l.state → Fits k (write_box k.state b m).effects → Fits l a.effects
rest_room k l b m a did same room = subst (λ (x : Part). Fits l x.effects) (sym same) (room_second k l (mput_part k.state b m) (handed b m) did room)

pub written_as : (k l n : Kernel) (b : BoxNo) (m : Msg) (a : Part) → Acts (mput_part k.state b m) k l → a ≡ handed b m l.state → Acts a l n → Acts (write_box k.state b m) k n
written_as k l n b m a did same rest = acts_both k l n (mput_part k.state b m) (handed b m) did (rest ∙ ap (acted l) same)
