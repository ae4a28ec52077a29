-- Requests are opened on mailboxes and units as the law of mailboxes asks, by $QIO and $QIOW.
use Rattle.std.proofs.Common.{◌≡◌, ℕ, ◌+◌, List, [], ◌∷◌, ◌++◌, false, not, Option, Some, None, Result, Ok, map, refl, sym, ap, ◌∙◌, subst, inl, inr, nat_lt, ◌≤◌, arith, true, IsTrue, is_some, append-nil, ◌||◌, Bool}
use Rattle.std.proofs.lemmas.Bool.{eq-eqb, ne_eqb, leb-true, and_parts, both_ways}
use Rattle.std.specs.List.{list_any}
use Rattle.vx_laws.proofs.Calls.{at_most}
use Rattle.vx_base.specs.Lists.{less}
use Rattle.vx_record.specs.Types.{BoxNo, Cell, Channel, Cond, Device, Effect, Func, Mailbox, Mode, Msg, Opened, Pid, Request, UnitNo}
use Rattle.vx_base.specs.declared.effects.Effect.TheVariants as effect
use Rattle.vx_base.specs.declared.effects.Opened.TheVariants as opened
use Rattle.vx_base.specs.declared.request.Device.TheVariants as device
use Rattle.vx_record.proofs.Lists.{either, either_by, all_append, ordered_more}
use Rattle.vx_record.proofs.SoundRequests.{tested_channel, on_cell_row}
use Rattle.vx_record.specs.Channels.{channel_test}
use Rattle.vx_record.specs.Charges.{is_direct, is_attention}
use Rattle.vx_record.specs.Finish.{this_request, is_read}
use Rattle.vx_record.specs.Flags.{cell}
use Rattle.vx_record.specs.Mailboxes.{mailbox_at, is_box, is_waiting_func, waits_at, read_box, take_message, write_box, message_of}
use Rattle.vx_record.specs.Parts.{Part, tells, and_then}
use Rattle.vx_record.specs.Requests.{Asked, new_request, cleared_part, begun_on, transfer, attention_on, asked_of, accepted, request_test, is_bad, with_request}
use Rattle.vx_record.specs.Services.{number, function}
use Rattle.vx_record.specs.Sound.{AreOrdered, MayBeServed, request_id}
use Rattle.vx_record.specs.State.{State, next_id, past_id, box_at}
use Rattle.vx_record.proofs.Apart.{Here, HasRoom, here_after, cleared_after, room_after}
use Rattle.vx_record.proofs.Told.{opened_request_moves}
use Rattle.vx_laws.proofs.Aside.{row, attention_on_aside, cleared_aside}
use Rattle.vx_record.proofs.Base.{Base, moves_keep}
use Rattle.vx_laws.proofs.Boxed.{Origin, origin_on, IsThere, IsOn, Rooted, Boxed, Carried, carry, all_rooted, there_as, title_as, aside_boxed}
use Rattle.vx_laws.proofs.Kept.{moves_stand}
use Rattle.vx_laws.proofs.Listed.{Listed, moves_listed}
use Rattle.vx_record.proofs.Moves.{Moves, PartMoves}
use Rattle.vx_laws.proofs.Oldest.{oldest_is}
use Rattle.vx_laws.proofs.Opens.{requests_told}
use Rattle.vx_laws.proofs.Passing.{Right, walk_aside, IsPlainCall, plain_over, latest_over, fewer_same, IsSingle, single_on, unit_stores, mailbox_is, Serving, serving, serving_then}
use Rattle.vx_laws.proofs.Served.{Newest, Writes, read_serving, write_serving, wait_no_get, taken_none, last_any, waiting_reads}
use Rattle.vx_laws.proofs.Stands.{Stands}
use Rattle.vx_laws.specs.Agrees.{as_stored, device_title}
use Rattle.vx_laws.specs.Boxes.{Stored, stored, stored_at, asks, oldest_read}
use Rattle.vx_laws.specs.Items.{Item, Did, later, Calling, latest_call}
use Rattle.vx_laws.specs.Lives.{is_request, device_name, device_called}
use Rattle.vx_laws.specs.MessageLaw.{reads_where_stored, takes_stored, is_taken_by}

-- What a test accepted.

request_test_row : (s : State) (p : Pid) (q : Asked) (to : Cell × Channel) → request_test s p q ≡ Ok to → channel_test s p q.chan ≡ Ok to.1
request_test_row s p q to =
    let P = λ (r : Result (Cell × Channel) Cond). r ≡ Ok to → channel_test s p q.chan ≡ Ok to.1 in
    either P (is_bad q) _ _ (λ e. cc) (either P (nat_lt 127 q.efn) _ _ (λ e. cc) (λ e. on_cell_row s p q (cell s p q.efn) to e))

-- the call that asks it
pub record IsAsking (past : List Item) (p : Pid) (q : Asked) : Type 0 where
  pub call : Calling
  pub is : latest_call past ≡ Some call
  pub caller : call.p ≡ p
  pub chan : number call.call.args.a1 ≡ q.chan
  pub func : function call.call.args.a2 ≡ q.func
  pub len : number call.call.args.a7 ≡ q.len
  pub calm : IsPlainCall past

asking_over : (past : List Item) (es : List Effect) (p : Pid) (q : Asked) → IsAsking past p q → IsAsking (later past (map Did es)) p q
asking_over past es p q k = record { call = k.call; is = latest_over past es ∙ k.is; caller = k.caller; chan = k.chan; func = k.func; len = k.len; calm = plain_over past es k.calm }

-- what holds when it is opened
pub record Ready (s : State) (past : List Item) (p : Pid) (q : Asked) (ch : Channel) : Type 0 where
  pub asking : IsAsking past p q
  pub above : 1 ≤ p.0
  pub numbered : 1 ≤ q.chan
  pub row : row s p q.chan ≡ Some ch
  pub base : Base s
  pub stands : Stands s None past
  pub listed : Listed s None past
  pub boxed : Boxed s past
  pub single : IsSingle s

on_row : (s : State) (p : Pid) (n : ℕ) (mode : Mode) (d : Device) → row s p n ≡ Some (record { device = d; mode = mode }) → IsOn s p n mode d
on_row s p n mode (device.Unit u) e = tt
on_row s p n mode (device.Mailbox b) e = e

unserved : (d : Device) → MayBeServed false d
unserved (device.Unit u) = tt
unserved (device.Mailbox b) = refl

new_rooted : (s : State) (p : Pid) (q : Asked) (ch : Channel) (past : List Item) (k : Opened) (mode : Option Mode) (n : ℕ) → Ready s past p q ch → Rooted (with_request (past_id s) (new_request s p q ch)) (Did (effect.Open (next_id s) k p mode n) ∷ past) (new_request s p q ch)
new_rooted s p q ch past k mode n g =
    let a = g.asking in
    let t = with_request (past_id s) (new_request s p q ch) in
    let at = g.boxed.rows p q.chan ch g.above g.numbered g.row in
    let named : device_called past (latest_call past) ≡ Some (device_title s ch.device) =
    ap (λ (o : Option Calling). device_called past o) a.is ∙ (ap (λ (x : Pid). device_name past x (number a.call.call.args.a1)) a.caller ∙ (ap (λ (x : ℕ). device_name past p x) a.chan ∙ at.1))
    in
    record {
      from = g.boxed.counted;
      below = omega arith;
      above = g.above;
      numbered = g.numbered;
      there = there_as s t refl refl ch.device at.0;
      on = on_row t p q.chan ch.mode ch.device g.row;
      free = unserved ch.device;
      call = a.call;
      is = rw (eq-eqb s.next s.next refl) (ap (λ (x : Option Calling). let o : Origin = record { p = p; by = x; device = device_called past (latest_call past) } in Some o) a.is ∙ ap (λ (x : Option (List ℕ)). let o : Origin = record { p = p; by = Some a.call; device = x } in Some o) (named ∙ ap (λ (x : List ℕ). Some x) (sym (title_as s t refl refl ch.device))));
      func = a.func;
      len = a.len;
    }

open_boxed : (s : State) (p : Pid) (q : Asked) (ch : Channel) (past : List Item) (k : Opened) (mode : Option Mode) (n : ℕ) → Ready s past p q ch → Boxed (with_request (past_id s) (new_request s p q ch)) (Did (effect.Open (next_id s) k p mode n) ∷ past)
open_boxed s p q ch past k mode n g =
    let r = new_request s p q ch in
    let t = with_request (past_id s) r in
    let x = Did (effect.Open (next_id s) k p mode n) in
    let c : Carried s t past (x ∷ past) = record {
      system = refl;
      there = there_as s t refl refl;
      titles = λ d j. title_as s t refl refl d;
      next = omega arith;
      origins = λ id below. origin_on x past id (λ same. omega (arith, below, same));
      devices = λ p n. refl;
    } in
    carry s t past (x ∷ past) c refl (λ p n. refl) (λ name. refl) (λ name. refl) (ordered_more request_id 0 s.next s.requests r refl g.boxed.ordered) (all_append (Rooted t (x ∷ past)) s.requests (r ∷ []) (all_rooted s t past (x ∷ past) c (λ p n. refl) s.requests g.boxed.requests) (new_rooted s p q ch past k mode n g, tt)) g.boxed

open_right : (s : State) (p : Pid) (q : Asked) (ch : Channel) (past : List Item) (k : Opened) (mode : Option Mode) (n : ℕ) (left : List Effect) → is_request k ≡ true → Ready s past p q ch → (is_read q.func ≡ true → takes_stored (next_id s) left (stored past (device_title s ch.device)) ≡ true) → Right past (effect.Open (next_id s) k p mode n) left
open_right s p q ch past k mode n left is g takes =
    let a = g.asking in
    let at = g.boxed.rows p q.chan ch g.above g.numbered g.row in
    let named : device_called past (Some a.call) ≡ Some (device_title s ch.device) =
    ap (λ (x : Pid). device_name past x (number a.call.call.args.a1)) a.caller ∙ (ap (λ (x : ℕ). device_name past p x) a.chan ∙ at.1)
    in
    let told : (not (is_read q.func) || takes_stored (next_id s) left (stored past (device_title s ch.device))) ≡ true = imply (is_read q.func) _ takes in
    let one : (not (is_read q.func) || takes_stored (next_id s) left (stored_at past (device_called past (Some a.call)))) ≡ true = subst (λ (o : Option (List ℕ)). (not (is_read q.func) || takes_stored (next_id s) left (stored_at past o)) ≡ true) (sym named) told in
    let two : reads_where_stored past (next_id s) left (Some a.call) ≡ true = subst (λ (f : Func). (not (is_read f) || takes_stored (next_id s) left (stored_at past (device_called past (Some a.call)))) ≡ true) (sym a.func) one in
    let three : reads_where_stored past (next_id s) left (latest_call past) ≡ true = subst (λ (o : Option Calling). reads_where_stored past (next_id s) left o ≡ true) (sym a.is) two in
    λ rest e. rw (is, e) three
  where
    imply : (b c : Bool) → (b ≡ true → c ≡ true) → (not b || c) ≡ true
    imply true c f = f refl
    imply false c f = refl

-- without the new one the requests are those before it
less_last : (n : ℕ) (low : ℕ) (xs : List Request) (r : Request) → r.req.id.0 ≡ n → AreOrdered request_id low n xs → less (this_request r.req.id) (xs ++ r ∷ []) ≡ xs
less_last n low [] r e o = rw (eq-eqb r.req.id.0 r.req.id.0 refl) refl
less_last n low (x ∷ xs) r e o =
    let below = at_most (request_id x + 1) n xs o.1 in
    rw (ne_eqb x.req.id.0 r.req.id.0 (λ same. omega (arith, below, same, e)), less_last n (request_id x + 1) xs r e o.1) refl

-- A request on a mailbox.
box_serving : (s : State) (p : Pid) (q : Asked) (ch : Channel) (past : List Item) (k : Opened) (mode : Option Mode) (n : ℕ) (b : BoxNo) (box : Mailbox) → ch.device ≡ device.Mailbox b → box_at s b ≡ Some box → is_request k ≡ true → Ready s past p q ch →
    let t = with_request (past_id s) (new_request s p q ch) in
    Moves s None (effect.Open (next_id s) k p mode n ∷ []) t None → Serving past (and_then (tells (effect.Open (next_id s) k p mode n) t) (λ a. begun_on a (new_request s p q ch) (device.Mailbox b)))
box_serving s p q ch past k mode n b box on is req g moves =
    either_by (λ (y : Part). Serving past (and_then (tells (effect.Open (next_id s) k p mode n) (with_request (past_id s) (new_request s p q ch))) (λ a. y))) (is_read q.func) (read_box (with_request (past_id s) (new_request s p q ch)) b (new_request s p q ch)) (write_box (with_request (past_id s) (new_request s p q ch)) b (message_of (new_request s p q ch).req))
    (λ reads.
    let rest = read_serving t after b box r s.requests is on root reads calm newest boxed in
    let es = (read_box t b r).effects in
    record { boxed = rest.boxed; lawful = (open_right s p q ch past k mode n (es ++ []) req g (λ j. takes), rest.lawful); single = rest.single })
    (λ writes.
    let rest = write_serving t after b box r (written writes) calm boxed in
    let es = (write_box t b (message_of r.req)).effects in
    record { boxed = rest.boxed; lawful = (open_right s p q ch past k mode n (es ++ []) req g (λ j. absurd (both_ways (is_read q.func) writes j)), rest.lawful); single = rest.single })
  where
    r : Request
    r = new_request s p q ch

    t : State
    t = with_request (past_id s) (new_request s p q ch)

    after : List Item
    after = Did (effect.Open (next_id s) k p mode n) ∷ past

    boxed : Boxed (with_request (past_id s) (new_request s p q ch)) (Did (effect.Open (next_id s) k p mode n) ∷ past)
    boxed = open_boxed s p q ch past k mode n g

    root : Rooted (with_request (past_id s) (new_request s p q ch)) (Did (effect.Open (next_id s) k p mode n) ∷ past) (new_request s p q ch)
    root = new_rooted s p q ch past k mode n g

    calm : IsPlainCall (Did (effect.Open (next_id s) k p mode n) ∷ past)
    calm = g.asking.calm

    newest : Newest (with_request (past_id s) (new_request s p q ch)) s.requests (new_request s p q ch)
    newest = record { all = refl; less = less_last s.next 0 s.requests (new_request s p q ch) refl g.base.requests; single = g.single }

    title : device_title s ch.device ≡ box.name
    title = ap (λ (d : Device). device_title s d) on ∙ ap (λ (y : Mailbox). y.name) (mailbox_is s b box is)

    takes : takes_stored (next_id s) ((read_box (with_request (past_id s) (new_request s p q ch)) b (new_request s p q ch)).effects ++ []) (stored past (device_title s ch.device)) ≡ true
    takes =
        let kept = g.boxed.boxes b box is in
        let st : map as_stored box.messages ≡ stored past (device_title s ch.device) = kept.messages ∙ ap (stored past) (sym title) in
        let all = ap (λ (y : Mailbox). y.messages) (mailbox_is s b box is) in
        subst (λ (l : List Stored). takes_stored (next_id s) ((take_message t b r (mailbox_at s b).messages).effects ++ []) l ≡ true) st
        (subst (λ (l : List Msg). takes_stored (next_id s) ((take_message t b r l).effects ++ []) (map as_stored box.messages) ≡ true) (sym all) (at box.messages))
      where
        at : (ms : List Msg) → takes_stored (next_id s) ((take_message (with_request (past_id s) (new_request s p q ch)) b (new_request s p q ch) ms).effects ++ []) (map as_stored ms) ≡ true
        at [] =
            let es = (take_message (with_request (past_id s) (new_request s p q ch)) b (new_request s p q ch) []).effects in
            subst (λ (l : List Effect). not (list_any (is_taken_by (next_id s)) l) ≡ true) (sym (append-nil es)) (rw (taken_none (next_id s) es (wait_no_get (with_request (past_id s) (new_request s p q ch)) b (new_request s p q ch))) refl)
        at (m ∷ ms) = rw (eq-eqb s.next s.next refl) refl

    single_now : is_read q.func ≡ false → IsSingle (with_request (past_id s) (new_request s p q ch))
    single_now writes c e =
        elim (last_any (waits_at c) s.requests (new_request s p q ch) e) [
          | inl x ↦ g.single c x
          | inr x ↦ absurd (both_ways (is_read q.func) writes (waiting_reads q.func (and_parts (is_box c ch.device) (is_waiting_func q.func) x).1))
        ]

    written : is_read q.func ≡ false → Writes (with_request (past_id s) (new_request s p q ch)) (Did (effect.Open (next_id s) k p mode n) ∷ past) b box (new_request s p q ch)
    written writes =
        let base = (moves_keep s None (effect.Open (next_id s) k p mode n ∷ []) t None moves g.base).base in
        let stands = moves_stand s None (effect.Open (next_id s) k p mode n ∷ []) t None past moves g.base g.stands in
        let listed = moves_listed s None (effect.Open (next_id s) k p mode n ∷ []) t None past moves g.base g.stands g.listed in
        record {
          is = is;
          on = on;
          root = root;
          olds = (g.boxed.boxes b box is).ids;
          new = refl;
          oldest = ap (λ (y : Mailbox). oldest_read after y.name) (mailbox_is t b box is) ∙ oldest_is t after b box is base (λ id. requests_told t after id stands listed) boxed;
          single = single_now writes;
        }

-- A request on a unit waits there.
unit_serving : (s : State) (p : Pid) (q : Asked) (ch : Channel) (past : List Item) (k : Opened) (mode : Option Mode) (n : ℕ) (u : UnitNo) → ch.device ≡ device.Unit u → is_request k ≡ true → Ready s past p q ch →
    Serving past (tells (effect.Open (next_id s) k p mode n) (with_request (past_id s) (new_request s p q ch)))
unit_serving s p q ch past k mode n u on req g =
    let at = g.boxed.rows p q.chan ch g.above g.numbered g.row in
    let empty : stored past (device_title s ch.device) ≡ [] = subst (λ (d : Device). IsThere s d → stored past (device_title s d) ≡ []) (sym on) (λ there. unit_stores s past u there g.boxed) at.0 in
    record {
      boxed = open_boxed s p q ch past k mode n g;
      lawful = (open_right s p q ch past k mode n [] req g (λ reads. rw empty refl), tt);
      single = λ c e.
          elim (last_any (waits_at c) s.requests (new_request s p q ch) e) [
            | inl x ↦ g.single c x
            | inr x ↦ absurd (let never : false ≡ true = subst (λ (d : Device). is_box c d ≡ true) on (and_parts (is_box c ch.device) (is_waiting_func q.func) x).0 in cc)
          ];
    }

some_box : (s : State) (b : BoxNo) (o : Option Mailbox) → box_at s b ≡ o → IsTrue (is_some o) → (box : Mailbox) × (box_at s b ≡ Some box)
some_box s b None e k = absurd (let never : false ≡ true = k in cc)
some_box s b (Some box) e k = (box, e)

one_serving : (s : State) (p : Pid) (q : Asked) (ch : Channel) (past : List Item) (k : Opened) (mode : Option Mode) (n : ℕ) → is_request k ≡ true → Ready s past p q ch →
    let t = with_request (past_id s) (new_request s p q ch) in
    Moves s None (effect.Open (next_id s) k p mode n ∷ []) t None → Serving past (and_then (tells (effect.Open (next_id s) k p mode n) t) (λ a. begun_on a (new_request s p q ch) ch.device))
one_serving s p q ch past k mode n req g moves = by_device ch.device refl (g.boxed.rows p q.chan ch g.above g.numbered g.row).0
  where
    by_device : (d : Device) → ch.device ≡ d → IsThere s d → Serving past (and_then (tells (effect.Open (next_id s) k p mode n) (with_request (past_id s) (new_request s p q ch))) (λ a. begun_on a (new_request s p q ch) d))
    by_device (device.Unit u) on there = unit_serving s p q ch past k mode n u on req g
    by_device (device.Mailbox b) on there = let box = some_box s b (box_at s b) refl there in box_serving s p q ch past k mode n b box.0 on box.1 req g moves

pub transfer_serving : (s : State) (p : Pid) (q : Asked) (ch : Channel) (past : List Item) → is_attention q.func ≡ false → HasRoom s p q ch → Here s p → Ready s past p q ch → Serving past (transfer s p q ch)
transfer_serving s p q ch past calm room here g =
    either (λ (x : Part). PartMoves s x → Serving past (and_then x (λ a. begun_on a (new_request s p q ch) ch.device))) (is_direct s ch.device) _ _ (λ m. one_serving s p q ch past opened.Dio _ 0 refl g m) (λ m. one_serving s p q ch past opened.Bio _ _ refl g m)
    (opened_request_moves s p q ch here.made calm room)

-- A request that is accepted.
pub record Going (s : State) (past : List Item) : Type 0 where
  pub stands : Stands s None past
  pub listed : Listed s None past
  pub boxed : Boxed s past
  pub single : IsSingle s

pub accepted_serving : (s : State) (p : Pid) (q : Asked) (to : Cell × Channel) (past : List Item) → request_test s p q ≡ Ok to → Here s p → IsAsking past p q → Going s past → Serving past (accepted s p q to.0 to.1)
accepted_serving s p q to past is here asks g =
    let a = cleared_part s p q to.0 in
    let t = a.after in
    let k = cleared_aside s p q to.0 in
    let m : PartMoves s a = cleared_after s p q to is here in
    let past1 = later past (map Did a.effects) in
    let tested = tested_channel s p q.chan to.1 (request_test_row s p q to is) in
    let there = here_after s p None a.effects t None m here in
    let boxed = aside_boxed s t a.effects past k asks.calm g.boxed in
    let single = single_on s t (fewer_same s t k.requests k.boxes) g.single in
    let ready : Ready t past1 p q to.1 = record {
      asking = asking_over past a.effects p q asks;
      above = here.made.above;
      numbered = leb-true 1 q.chan (and_parts _ _ tested.0).0;
      row = k.rows p q.chan ∙ tested.1;
      base = there.base;
      stands = moves_stand s None a.effects t None past m here.base g.stands;
      listed = moves_listed s None a.effects t None past m here.base g.stands g.listed;
      boxed = boxed;
      single = single;
    } in
    let room : HasRoom t p q to.1 = room_after s p q to is here.made in
    let asked_attention = attention_on t p q to.1.device q.ast in
    serving_then s past a (λ x. asked_of x p q to.1) (walk_aside s past a ((asked_of t p q to.1).effects ++ []) k asks.calm g.boxed)
    (either_by (λ (y : Part). Serving past1 y) (is_attention q.func) asked_attention (transfer t p q to.1) (λ y. serving t past1 asked_attention (walk_aside t past1 asked_attention [] (attention_on_aside t p q to.1.device q.ast) ready.asking.calm boxed) single)
    (λ n. transfer_serving t p q to.1 past1 n room there ready))
