-- Records in which nothing finishes, and those of $QIO and $QIOW: what finishes there was opened in the record, or a message was
-- moved from it or to it before.
use mathlib.Core.Bool.{or-true}
use Rattle.std.proofs.Common.{◌≡◌, ℕ, List, [], ◌∷◌, Bool, true, false, not, ◌==◌, ◌&&◌, nat_lt, length, Option, Some, None, Result, Ok, Err, refl, ◌++◌, sym, ap, subst, append-nil}
use Rattle.std.specs.List.{filter, find, list_any}
use Rattle.vx_record.specs.Types.{Body, BoxNo, Cell, Channel, Cond, Device, Effect, Entry, Func, Id, Msg, Pid, Promised, Req, Request, Status, Wait}
use Rattle.vx_base.specs.Pieces.{cleared}
use Rattle.vx_base.specs.declared.cond.Cond.TheVariants.{Cancel as Cancelled, EndOfFile}
use Rattle.vx_base.specs.declared.frame.Wait.TheVariants as wait
use Rattle.vx_base.specs.declared.request.Device.TheVariants as device
use Rattle.vx_base.specs.declared.request.Func.TheVariants.{ReadAttn, WrtAttn}
use Rattle.vx_record.specs.State.{State}
use Rattle.vx_record.specs.Parts.{Part, each, part_if, and_then}
use Rattle.vx_record.specs.Charges.{is_direct, is_attention}
use Rattle.vx_record.specs.Flags.{cell, flag_part, flag_where_named, wait_condition, awaited_at}
use Rattle.vx_record.specs.Finish.{Ending, ending, is_read, fin_part, buf_part, status_of, iosb_part, done_flag_part, done_ast_part, finish, finish_found, this_request}
use Rattle.vx_record.specs.Mailboxes.{mailbox_at, is_waiting_func, waits_at, mput_part, mget_part, message_of, read_ending, write_ending, received, write_done, is_attention_at, fire_attention, call_attention, store_message, hand_over, write_box, take_message, is_answered_now, attend}
use Rattle.vx_record.specs.Requests.{Asked, new_request, opened_request, begun_on, transfer, new_attention, attention_opened, done_at_once, attention_on, asked_of, accepted, qio_tested, qiow_tested}
use Rattle.vx_record.proofs.Lists.{either, all_append}
use Rattle.std.proofs.lemmas.Bool.{eqb-true, or_right, or_left, eq-eqb}
use Rattle.vx_base.specs.declared.effects.Effect.TheVariants as effect
use Rattle.vx_laws.specs.Items.{Item, Did, effects_to_head, latest_call, is_cond, is_id}
use Rattle.vx_laws.proofs.Calm.{is_fine, Fine}
use Rattle.vx_laws.specs.Once.{ends_where, is_requesting, moves, is_done_first}
use Rattle.vx_base.specs.declared.request.Body.TheVariants as body
use Rattle.vx_base.proofs.First.{found_passes}

abbrev pub AllWhere : List Item → List Effect → Type 0
AllWhere past [] = Unit {0}
AllWhere past (x ∷ xs) = ((rest : List Item) → ends_where past (Did x) rest ≡ true) × AllWhere (Did x ∷ past) xs

-- Records in which nothing finishes.

fine_one : (past : List Item) (x : Effect) → is_fine false x ≡ true → (rest : List Item) → ends_where past (Did x) rest ≡ true
fine_one past (effect.Fin id c) k rest = absurd (let never : false ≡ true = k in cc)
fine_one past x k rest = refl

pub fine_where : (past : List Item) (es : List Effect) → Fine false es → AllWhere past es
fine_where past [] k = tt
fine_where past (x ∷ xs) k = (fine_one past x k.0, fine_where (Did x ∷ past) xs k.1)

-- What follows the FIN of a completion finishes nothing.

fine_if : (test : Bool) (part : Part) (s : State) → Fine false part.effects → Fine false (part_if test part s).effects
fine_if true part s k = k
fine_if false part s k = tt

fine_then : (a : Part) (f : State → Part) → Fine false a.effects → Fine false (f a.after).effects → Fine false (and_then a f).effects
fine_then a f h k = all_append (λ x. is_fine false x ≡ true) a.effects (f a.after).effects h k

fine_each : {A : Type 0} (f : State → A → Part) → ((t : State) (x : A) → Fine false (f t x).effects) → (xs : List A) (s : State) → Fine false (each f xs s).effects
fine_each f k [] s = tt
fine_each f k (x ∷ xs) s = fine_then (f s x) (each f xs) (k s x) (fine_each f k xs (f s x).after)

flag_fine : (s : State) (o : Option Cell) (on : Bool) → Fine false (flag_where_named s o on).effects
flag_fine s None on = tt
flag_fine s (Some c) on = (refl, tt)

iosb_fine : (s : State) (p : Pid) (i : ℕ) (st : Status) → Fine false (iosb_part s p i st).effects
iosb_fine s p i st = fine_if (not (i == 0)) _ s (refl, tt)

done_ast_fine : (s : State) (r : Req) (o : Option Promised) → Fine false (done_ast_part s r o).effects
done_ast_fine s r None = tt
done_ast_fine s r (Some a) = (refl, tt)

unfoldable pub after_fin : State → Request → Ending → List Effect
after_fin s r e =
    let a = (fin_part s r.req.id e.0.cond).after in
    let one = buf_part a r.req e in
    let two = iosb_part one.after r.req.p r.req.iosb (status_of e) in
    let three = done_flag_part two.after r.req in
    ((one.effects ++ two.effects) ++ three.effects) ++ (done_ast_part three.after r.req r.ast).effects

pub after_fin_fine : (s : State) (r : Request) (e : Ending) → Fine false (after_fin s r e)
unfolding after_fin
after_fin_fine s r e =
    let a = (fin_part s r.req.id e.0.cond).after in
    let one = buf_part a r.req e in
    let two = iosb_part one.after r.req.p r.req.iosb (status_of e) in
    let three = done_flag_part two.after r.req in
    let P = λ (x : Effect). is_fine false x ≡ true in
    all_append P ((one.effects ++ two.effects) ++ three.effects) (done_ast_part three.after r.req r.ast).effects
    (all_append P (one.effects ++ two.effects) three.effects
    (all_append P one.effects two.effects (fine_if (is_read r.req.func && nat_lt 0 e.0.count) _ a (refl, tt)) (iosb_fine one.after r.req.p r.req.iosb (status_of e)))
    (flag_fine two.after (cell two.after r.req.p r.req.efn) true))
    (done_ast_fine three.after r.req r.ast)

pub finish_is : (s : State) (r : Request) (e : Ending) → (finish s r e).effects ≡ effect.Fin r.req.id e.0.cond ∷ after_fin s r e
unfolding after_fin
finish_is s r e = refl

-- $QIO and $QIOW: a request that finishes was opened in the record, or a message was moved from it or to it before.

abbrev Has : Id → List Effect → Type 0
Has id before = list_any (moves id) before ≡ true

abbrev IsMoved : List Effect → Effect → Type 0
IsMoved before (effect.Fin id c) = (is_cond c Cancelled ≡ false) × Has id before
IsMoved before x = Unit {0}

abbrev AllMoved : List Effect → List Effect → Type 0
AllMoved before [] = Unit {0}
AllMoved before (x ∷ xs) = IsMoved before x × AllMoved (x ∷ before) xs

abbrev onto : List Effect → List Effect → List Effect
onto before [] = before
onto before (x ∷ xs) = onto (x ∷ before) xs

has_more : (id : Id) (x : Effect) (before : List Effect) → Has id before → Has id (x ∷ before)
has_more id x before h = rw h (or-true (moves id x))

has_onto : (id : Id) (before es : List Effect) → Has id before → Has id (onto before es)
has_onto id before [] h = h
has_onto id before (x ∷ xs) h = has_onto id (x ∷ before) xs (has_more id x before h)

moved_one : (past : List Item) (x : Effect) → is_requesting (latest_call past) ≡ true → IsMoved (effects_to_head past) x → (rest : List Item) → ends_where past (Did x) rest ≡ true
moved_one past (effect.Fin id c) asks k rest = rw (k.0, asks, k.1) (or-true (is_done_first past id))
moved_one past x asks k rest = refl

pub moved_where : (past : List Item) (es : List Effect) → is_requesting (latest_call past) ≡ true → AllMoved (effects_to_head past) es → AllWhere past es
moved_where past [] asks k = tt
moved_where past (x ∷ xs) asks k = (moved_one past x asks k.0, moved_where (Did x ∷ past) xs asks k.1)

moved_both : (before es fs : List Effect) → AllMoved before es → AllMoved (onto before es) fs → AllMoved before (es ++ fs)
moved_both before [] fs h k = k
moved_both before (x ∷ es) fs h k = (h.0, moved_both (x ∷ before) es fs h.1 k)

fine_is_moved : (before : List Effect) (x : Effect) → is_fine false x ≡ true → IsMoved before x
fine_is_moved before (effect.Fin id c) k = absurd (let never : false ≡ true = k in cc)
fine_is_moved before x k = tt

fine_moved : (before es : List Effect) → Fine false es → AllMoved before es
fine_moved before [] k = tt
fine_moved before (x ∷ xs) k = (fine_is_moved before x k.0, fine_moved (x ∷ before) xs k.1)

moved_if : (before : List Effect) (test : Bool) (part : Part) (s : State) → AllMoved before part.effects → AllMoved before (part_if test part s).effects
moved_if before true part s k = k
moved_if before false part s k = tt

finish_moved : (before : List Effect) (s : State) (r : Request) (e : Ending) → is_cond e.0.cond Cancelled ≡ false → Has r.req.id before → AllMoved before (finish s r e).effects
finish_moved before s r e n h = subst (λ (l : List Effect). AllMoved before l) (sym (finish_is s r e)) ((n, h), fine_moved (effect.Fin r.req.id e.0.cond ∷ before) (after_fin s r e) (after_fin_fine s r e))

found_moved : (before : List Effect) (s : State) (id : Id) (o : Option Request) (e : Ending) → find (this_request id) s.requests ≡ o → is_cond e.0.cond Cancelled ≡ false → Has id before → AllMoved before (finish_found s o e).effects
found_moved before s id None e is n h = tt
found_moved before s id (Some r) e is n h =
    let same_id : id ≡ r.req.id = ap (λ (k : ℕ). let i : Id = record { 0 = k } in i) (sym (eqb-true r.req.id.0 id.0 (found_passes (this_request id) s.requests r is))) in
    finish_moved before s r e n (subst (λ (i : Id). Has i before) same_id h)

write_done_moved : (before : List Effect) (s : State) (m : Msg) → Has m.id before → AllMoved before (write_done s m).effects
write_done_moved before s m h = found_moved before s m.id (find (this_request m.id) s.requests) (write_ending m) refl refl h

not_cancel : (r : Req) (m : Msg) (b : Body) → is_cond (read_ending r m b).0.cond Cancelled ≡ false
not_cancel r m body.Eof = refl
not_cancel r m (body.Text bytes) = either (λ (c : Cond). is_cond c Cancelled ≡ false) (nat_lt r.len (length bytes)) _ _ refl refl

pub itself : (id : Id) → is_id id id ≡ true
itself id = eq-eqb id.0 id.0 refl

received_moved : (before : List Effect) (s : State) (b : BoxNo) (m : Msg) (r : Request) → AllMoved before (received s b m r).effects
received_moved before s b m r =
    let x = effect.MGet (mailbox_at s b).name m.id r.req.id in
    (tt, finish_moved (x ∷ before) (mget_part s b m r.req.id).after r (read_ending r.req m m.body) (not_cancel r.req m m.body) (or_left (moves r.req.id x) (list_any (moves r.req.id) before) (or_right (is_id m.id r.req.id) (is_id r.req.id r.req.id) (itself r.req.id))))

-- the write of a message that was received
received_has : (before : List Effect) (s : State) (b : BoxNo) (m : Msg) (r : Request) → Has m.id (onto before (received s b m r).effects)
received_has before s b m r =
    let x = effect.MGet (mailbox_at s b).name m.id r.req.id in
    has_onto m.id (x ∷ before) (finish (mget_part s b m r.req.id).after r (read_ending r.req m m.body)).effects (or_left (moves m.id x) (list_any (moves m.id) before) (or_left (is_id m.id m.id) (is_id r.req.id m.id) (itself m.id)))

call_attention_fine : (s : State) (b : BoxNo) (func : Func) → Fine false (call_attention s b func).effects
call_attention_fine s b func = fine_each fire_attention (λ t a. (refl, (refl, tt))) (filter (is_attention_at b func) s.attention) s

store_moved : (before : List Effect) (s : State) (b : BoxNo) (m : Msg) → Has m.id before → AllMoved before (store_message s b m).effects
store_moved before s b m h =
    let one = part_if (not m.held) (write_done s m) s in
    moved_both before one.effects (call_attention one.after b WrtAttn).effects (moved_if before (not m.held) (write_done s m) s (write_done_moved before s m h)) (fine_moved (onto before one.effects) (call_attention one.after b WrtAttn).effects (call_attention_fine one.after b WrtAttn))

hand_over_moved : (before : List Effect) (s : State) (b : BoxNo) (m : Msg) (o : Option Request) → Has m.id before → AllMoved before (hand_over s b m o).effects
hand_over_moved before s b m None h = store_moved before s b m h
hand_over_moved before s b m (Some r) h =
    let one = received s b m r in
    moved_both before one.effects (write_done one.after m).effects (received_moved before s b m r) (write_done_moved (onto before one.effects) one.after m (received_has before s b m r))

write_box_moved : (before : List Effect) (s : State) (b : BoxNo) (m : Msg) → Has m.id before → AllMoved before (write_box s b m).effects
write_box_moved before s b m h =
    let a = (mput_part s b m).after in
    (tt, hand_over_moved (effect.MPut (mailbox_at s b).name m.id m.body ∷ before) a b m (find (waits_at b) a.requests) (has_more m.id (effect.MPut (mailbox_at s b).name m.id m.body) before h))

take_moved : (before : List Effect) (s : State) (b : BoxNo) (r : Request) (ms : List Msg) → Has r.req.id before → AllMoved before (take_message s b r ms).effects
take_moved before s b r [] h =
    let e = ending EndOfFile 0 0 [] in
    let one = part_if (not (is_waiting_func r.req.func)) (finish s r e) s in
    moved_both before one.effects (call_attention one.after b ReadAttn).effects (moved_if before (not (is_waiting_func r.req.func)) (finish s r e) s (finish_moved before s r e refl h)) (fine_moved (onto before one.effects) (call_attention one.after b ReadAttn).effects (call_attention_fine one.after b ReadAttn))
take_moved before s b r (m ∷ ms) h =
    let one = received s b m r in
    moved_both before one.effects (part_if m.held (write_done one.after m) one.after).effects (received_moved before s b m r) (moved_if (onto before one.effects) m.held (write_done one.after m) one.after (write_done_moved (onto before one.effects) one.after m (received_has before s b m r)))

begun_on_moved : (before : List Effect) (s : State) (r : Request) (d : Device) → Has r.req.id before → AllMoved before (begun_on s r d).effects
begun_on_moved before s r (device.Unit u) h = tt
begun_on_moved before s r (device.Mailbox b) h = either (λ (a : Part). AllMoved before a.effects) (is_read r.req.func) _ _ (take_moved before s b r (mailbox_at s b).messages h) (write_box_moved before s b (message_of r.req) h)

transfer_moved : (before : List Effect) (s : State) (p : Pid) (q : Asked) (ch : Channel) → AllMoved before (transfer s p q ch).effects
transfer_moved before s p q ch =
    let r = new_request s p q ch in
    let one = opened_request s p q ch in
    let opens_it : Has r.req.id (onto before one.effects) = either (λ (a : Part). Has r.req.id (onto before a.effects)) (is_direct s ch.device) _ _ (or_left _ (list_any (moves r.req.id) before) (itself r.req.id)) (or_left _ (list_any (moves r.req.id) before) (itself r.req.id)) in
    moved_both before one.effects (begun_on one.after r ch.device).effects
    (either (λ (a : Part). AllMoved before a.effects) (is_direct s ch.device) _ _ (tt, tt) (tt, tt))
    (begun_on_moved (onto before one.effects) one.after r ch.device opens_it)

attention_on_fine : (s : State) (p : Pid) (q : Asked) (d : Device) (o : Option Entry) → Fine false (attention_on s p q d o).effects
attention_on_fine s p q (device.Unit u) o = tt
attention_on_fine s p q (device.Mailbox b) None = tt
attention_on_fine s p q (device.Mailbox b) (Some tag) =
    let a = new_attention s p q b tag in
    let one = attention_opened s p q a in
    let two = and_then one (λ x. iosb_part x p q.iosb done_at_once) in
    let f = λ (x : State). flag_where_named x (cell x p q.efn) true in
    let g = λ (x : State). attend x a in
    fine_then two (λ c. and_then (f c) g) (fine_then one (λ x. iosb_part x p q.iosb done_at_once) (refl, tt) (iosb_fine one.after p q.iosb done_at_once))
    (fine_then (f two.after) g (flag_fine two.after (cell two.after p q.efn) true) (fine_if (is_answered_now (f two.after).after a) (fire_attention (f two.after).after a) (f two.after).after (refl, (refl, tt))))

accepted_moved : (before : List Effect) (s : State) (p : Pid) (q : Asked) (c : Cell) (ch : Channel) → AllMoved before (accepted s p q c ch).effects
accepted_moved before s p q c ch =
    let i = λ (x : State). iosb_part x p q.iosb cleared in
    let one = flag_part s c false in
    let two = and_then one i in
    let t = two.after in
    let now = onto before two.effects in
    moved_both before two.effects (asked_of t p q ch).effects (fine_moved before two.effects (fine_then one i (refl, tt) (iosb_fine one.after p q.iosb cleared)))
    (either (λ (a : Part). AllMoved now a.effects) (is_attention q.func) _ _ (fine_moved now (attention_on t p q ch.device q.ast).effects (attention_on_fine t p q ch.device q.ast)) (transfer_moved now t p q ch))

pub qio_moved : (before : List Effect) (s : State) (p : Pid) (q : Asked) (r : Result (Cell × Channel) Cond) → AllMoved before (qio_tested s p q r).effects
qio_moved before s p q (Err c) = tt
qio_moved before s p q (Ok to) = accepted_moved before s p q to.0 to.1

pub awaited_none : (s : State) (p : Pid) (w : Wait) (o : Option Cond) → (awaited_at s p w o).effects ≡ []
awaited_none s p w None = refl
awaited_none s p w (Some c) = refl

pub qiow_moved : (before : List Effect) (s : State) (p : Pid) (q : Asked) (r : Result (Cell × Channel) Cond) → AllMoved before (qiow_tested s p q r).effects
qiow_moved before s p q (Err c) = tt
qiow_moved before s p q (Ok to) =
    let a = accepted s p q to.0 to.1 in
    let w = wait.Synch q.efn q.iosb in
    subst (λ (l : List Effect). AllMoved before (a.effects ++ l)) (sym (awaited_none a.after p w (wait_condition a.after p w)))
    (subst (λ (l : List Effect). AllMoved before l) (sym (append-nil a.effects)) (accepted_moved before s p q to.0 to.1))
