-- The end of a service, as the machine has it and as the code does it.
use Rattle.std.proofs.Common.{◌≡◌, ℕ, ◌+◌, ◌-◌, ◌≤◌, List, [], ◌∷◌, Bool, true, false, cond, not, ◌&&◌, ◌==◌, nat_lt, length, length-append, length-set, Option, Some, None, option_map, refl, ap, sym, subst, ◌∙◌, arith}
use Rattle.vx_base.specs.Queues.{in_service, is_served_by}
use Rattle.vx_base.specs.Serving.{serve, settled}
use Rattle.vx_record.specs.Types.{Cell, Cond, Reply, Req, Request, UnitNo}
use Rattle.vx_base.specs.declared.cond.Cond.TheVariants.{Abort}
use Rattle.vx_base.specs.declared.effects.Effect.TheVariants as effect
use Rattle.vx_base.specs.declared.record.Answer.TheVariants as answer
use Rattle.vx_record.specs.Events.{don}
use Rattle.vx_record.specs.Finish.{Ending, buf_part, done_flag_part, ending, iosb_part, is_read, status_of, with_stored_bytes, with_stored_status}
use Rattle.vx_record.specs.Flags.{cell, flag_where_named}
use Rattle.vx_record.specs.Parts.{Part, and_then, nothing, part_if, tells}
use Rattle.vx_record.specs.Requests.{with_unit}
use Rattle.vx_record.specs.Sound.{RequestStands, ground}
use Rattle.vx_record.specs.State.{State, change, process_at, unit_at}
use Rattle.vx_record.proofs.Lists.{all_find, either}
use Rattle.vx_procs.specs.Kernel.{Acts, Does, Fits, Kernel, opened, told, with_state}
use Rattle.vx_procs.specs.Requests.{ended, finished, replied, request_ast, served_by, served_if}
use Rattle.vx_procs.specs.Units.{IsForEnd}
use Rattle.vx_procs.specs.Words.{with_queued_if}
use Rattle.vx_procs.specs.declared.requests.Finished.{Finished}
use Rattle.vx_procs.proofs.Rest.{acted}
use Rattle.vx_io.specs.Finishing.{AreRequests, IsEnding, finishing}
use Rattle.vx_io.proofs.QueuedFirst.{finish_same}
use Rattle.vx_io.proofs.Replies.{reply_few}

-- the request that a unit has served, as the code has it
pub record IsServed (k l : Kernel) (u : UnitNo) (d : Finished) (reply : Reply) : Type 0 where
  pub r : Request
  pub found : in_service u k.state.requests ≡ Some r
  pub is : d ≡ finished r
  pub replies : reply ≡ (serve (unit_at k.state u) r.req).reply
  pub after : l ≡ with_state (opened k u) (served_by k.state u r)

served_from : (k l : Kernel) (u : UnitNo) (pair : Finished × Reply) (o : Option Request) → in_service u k.state.requests ≡ o → Some pair ≡ option_map (replied k.state u) o → l ≡ with_state (opened k u) (served_if k.state u o) → IsServed k l u pair.0 pair.1
served_from k l u pair None found e after = absurd (cc)
served_from k l u pair (Some r) found e after =
    let same : pair ≡ replied k.state u r = cc in
    record { r = r; found = found; is = ap (λ (x : Finished × Reply). x.0) same; replies = ap (λ (x : Finished × Reply). x.1) same; after = after }

pub served_of : (k l : Kernel) (u : UnitNo) (d : Finished) (reply : Reply) → Some (d, reply) ≡ option_map (replied k.state u) (in_service u k.state.requests) → l ≡ with_state (opened k u) (served_if k.state u (in_service u k.state.requests)) → IsServed k l u d reply
served_of k l u d reply e after = served_from k l u (d, reply) (in_service u k.state.requests) refl e after

-- what a service ends with, with all bytes that the unit replied
abbrev pub ending_reply : Bool → Reply → Reply
ending_reply marked reply = cond marked (record { cond = Abort; count = 0; bytes = reply.bytes }) reply

bytes_kept : (b : Bool) (reply : Reply) → (ending_reply b reply).bytes ≡ reply.bytes
bytes_kept true reply = refl
bytes_kept false reply = refl

stands_at : (k l : Kernel) (u : UnitNo) (d : Finished) (reply : Reply) (x : IsServed k l u d reply) → AreRequests k.state → RequestStands (ground k.state) x.r
stands_at k l u d reply x h = all_find (RequestStands (ground k.state)) (is_served_by u) k.state.requests x.r h.stand x.found

pub ending_there : (k l : Kernel) (u : UnitNo) (d : Finished) (reply result : Reply) (x : IsServed k l u d reply) → AreRequests k.state → result ≡ ending_reply d.marked reply → IsEnding l.state d.req result
ending_there k l u d reply result x h ends =
    let s = k.state in
    let stands = stands_at k l u d reply x h in
    let here : IsEnding (served_by s u x.r) x.r.req result = record {
      made = record { above = stands.made.above; within = omega (arith, stands.made.within, length-set s.procs (x.r.req.p.0 - 1) (with_queued_if (request_ast x.r) (process_at s x.r.req.p))) };
      iosb = stands.iosb;
      buf = stands.buf;
      size = omega (arith, reply_few (unit_at s u) x.r.req, stands.len, ap (λ (y : Reply). length y.bytes) x.replies, ap (λ (y : List ℕ). length y) (bytes_kept d.marked reply), ap (λ (y : Reply). length y.bytes) ends);
    } in
    subst (λ (y : Kernel). IsEnding y.state d.req result) (sym x.after) (subst (λ (y : Finished). IsEnding (served_by s u x.r) y.req result) (sym x.is) here)

-- Five effects at most.

abbrev IsShort : ℕ → Part → Type 0
IsShort n a = length a.effects ≤ n

short_then : (n : ℕ) (a : Part) (f : State → Part) → IsShort n a → IsShort 1 (f a.after) → IsShort (n + 1) (and_then a f)
short_then n a f few more = omega (arith, few, more, length-append a.effects (f a.after).effects)

buffer_short : (s : State) (r : Req) (e : Ending) → IsShort 1 (buf_part s r e)
buffer_short s r e = either (IsShort 1) (is_read r.func && nat_lt 0 e.0.count) (tells (effect.Buf r.p r.buf e.0.bytes) (change s r.p (with_stored_bytes r.buf e.0.bytes))) (nothing s) (omega arith) (omega arith)

status_short : (s : State) (r : Req) (e : Ending) → IsShort 1 (iosb_part s r.p r.iosb (status_of e))
status_short s r e =
    either (IsShort 1) (not (r.iosb == 0)) (tells (effect.Iosb r.p r.iosb (Some e.0.cond) e.0.count e.1) (change s r.p (with_stored_status r.iosb (status_of e)))) (nothing s) (omega arith) (omega arith)

flag_short : (s : State) (o : Option Cell) → IsShort 1 (flag_where_named s o true)
flag_short s None = omega arith
flag_short s (Some c) = omega arith

pub five : (d : Finished) (e : Ending) (s : State) → IsShort 5 (finishing d e s)
five d e s =
    let fin : Part = tells (effect.Fin d.req.id e.0.cond) s in
    let buf : State → Part = λ t. buf_part t d.req e in
    let iosb : State → Part = λ t. iosb_part t d.req.p d.req.iosb (status_of e) in
    let flag : State → Part = λ t. done_flag_part t d.req in
    let last : State → Part = λ t. part_if d.queued (tells (effect.Que d.req.id) t) t in
    let two = and_then fin buf in
    let three = and_then two iosb in
    let four = and_then three flag in
    short_then 4 four last
    (short_then 3 three flag (short_then 2 two iosb (short_then 1 fin buf (omega arith) (buffer_short fin.after d.req e)) (status_short two.after d.req e)) (flag_short three.after (cell three.after d.req.p d.req.efn)))
    (either (IsShort 1) d.queued (tells (effect.Que d.req.id) four.after) (nothing four.after) (omega arith) (omega arith))

pub end_room : (l : Kernel) (d : Finished) (e : Ending) → IsForEnd l.log → Fits l (finishing d e l.state).effects
end_room l d e h = omega (arith, five d e l.state, h.room, ap (λ xs. length xs) h.none)

-- The bytes that came with no count are not stored.

none_read : (b : Bool) (x y t : Part) → cond (b && false) x t ≡ cond (b && false) y t
none_read true x y t = refl
none_read false x y t = refl

no_bytes : (t : State) (d : Finished) (c : Cond) (bytes : List ℕ) → finishing d (record { cond = c; count = 0; bytes = bytes }, 0) t ≡ finishing d (record { cond = c; count = 0; bytes = [] }, 0) t
no_bytes t d c bytes =
    let e : Ending = (record { cond = c; count = 0; bytes = [] }, 0) in
    let stored : List ℕ → Part = λ bs. tells (effect.Buf d.req.p d.req.buf bs) (change t d.req.p (with_stored_bytes d.req.buf bs)) in
    let rest : Part → Part = λ b. and_then (and_then (and_then (record { effects = effect.Fin d.req.id c ∷ b.effects; after = b.after }) (λ x. iosb_part x d.req.p d.req.iosb (status_of e))) (λ x. done_flag_part x d.req)) (λ x. part_if d.queued (tells (effect.Que d.req.id) x) x) in
    ap rest (none_read (is_read d.req.func) (stored bytes) (stored []) (nothing t))

ended_alike : (t : State) (d : Finished) (reply : Reply) (m : Bool) → finishing d (ending_reply m reply, 0) t ≡ finishing d (cond m (ending Abort 0 0 []) (reply, 0)) t
ended_alike t d reply true = no_bytes t d Abort reply.bytes
ended_alike t d reply false = refl

-- DON.
pub done_as : (k l n : Kernel) (u : UnitNo) (d : Finished) (reply result : Reply) (x : IsServed k l u d reply) → AreRequests k.state → result ≡ ending_reply d.marked reply → Acts (finishing d (result, 0) l.state) l n → Does (don k.state u (in_service u k.state.requests)) (answer.Unit d.req.id) (opened k u) n
done_as k l n u d reply result x h ends acts =
    let s = k.state in
    let r = x.r in
    let unit = unit_at s u in
    let t : State = with_unit s u (settled unit r.req) in
    let e = ended t r in
    let first = with_state (opened k u) e in
    let stands = stands_at k l u d reply x h in
    let marks : result ≡ ending_reply r.marked reply = ends ∙ ap (λ (y : Finished). ending_reply y.marked reply) x.is in
    record {
      answers = ap (λ (y : Finished). answer.Unit y.req.id) x.is ∙ ap (λ (o : Option Request). (don s u o).answer) (sym x.found);
      leaves = acts
          ∙ (ap (λ (y : Kernel). acted y (finishing d (result, 0) y.state)) x.after
          ∙ (ap (λ (y : Finished). acted first (finishing y (result, 0) e)) x.is
          ∙ (ap (λ (y : Reply). acted first (finishing (finished r) (y, 0) e)) marks
          ∙ (ap (acted first) (ended_alike e (finished r) reply r.marked)
          ∙ (ap (λ (y : Reply). acted first (finishing (finished r) (cond r.marked (ending Abort 0 0 []) (y, 0)) e)) x.replies
          ∙ (ap (acted first) (finish_same t r (cond r.marked (ending Abort 0 0 []) ((serve unit r.req).reply, 0)) (record { above = stands.made.above; within = stands.made.within }))
          ∙ ap (λ (o : Option Request). told (with_state (opened k u) (don s u o).after) (don s u o).effects) (sym x.found)))))));
    }
