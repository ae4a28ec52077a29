-- Cancelled channels and freed ones, as the law of mailboxes asks.
use Rattle.std.proofs.Common.{inl, inr, ◌≡◌, ◌≢◌, ℕ, ◌+◌, ◌≤◌, List, [], ◌∷◌, ◌++◌, Bool, true, false, not, ◌==◌, ◌&&◌, ◌||◌, Option, Some, None, map, refl, sym, ap, ◌∙◌, subst, arith, is_some, IsTrue}
use Rattle.std.proofs.lemmas.Bool.{eq-eqb, eqb-true, ne_eqb, and_parts, and_from, or_cases, or_left, or_right, false_from_ne_true, not-true, not_from_false, both_ways}
use Rattle.std.specs.List.{AllByRecursion, filter, list_any}
use Rattle.vx_base.specs.Lists.{less, is_some_and}
use Rattle.vx_record.specs.Types.{BoxNo, Channel, Device, Effect, Id, Mailbox, Msg, Pid, Request, UnitNo}
use Rattle.vx_base.specs.declared.cond.Cond.TheVariants.{Cancel as Cancelled}
use Rattle.vx_base.specs.declared.effects.Effect.TheVariants as effect
use Rattle.vx_base.specs.declared.request.Device.TheVariants as device
use Rattle.vx_record.proofs.Ground.{at_set}
use Rattle.vx_record.proofs.Lists.{either, either_by, all_weaker, all_both, all_less, all_amend, all_filter, all_find, all_from, ordered_less, ordered_amend, removed}
use Rattle.vx_record.proofs.SoundChannels.{is_on_box}
use Rattle.vx_record.specs.Cancel.{with_abort, mark_part, withdraw, withdraw_from, cancelled_request, cancel_request, is_request_on, is_attention_on, drop_attention, cancel_channel}
use Rattle.vx_record.specs.Channels.{with_channel, is_assigned, goes_unused, box_gone, swept_device, swept_box, free_channel}
use Rattle.vx_record.specs.Finish.{ending, this_request, finish}
use Rattle.vx_record.specs.Mailboxes.{mailbox_at, or_no_box, waits_at, this_message, mcut_part}
use Rattle.vx_record.specs.Parts.{Part, nothing, and_then, each}
use Rattle.vx_record.specs.Sound.{AreOrdered, MayBeServed, request_id}
use Rattle.vx_record.specs.State.{State, change, box_at, with_box}
use Rattle.vx_record.proofs.Cancelled.{still_has, cancelled_requests}
use Rattle.vx_laws.proofs.Aside.{row, drop_attentions_aside}
use Rattle.vx_laws.proofs.Boxed.{Origin, origin_on, IsThere, Rooted, Boxed, Carried, carry, all_rooted, there_as, title_as, put_there, some_within, message_id}
use Rattle.vx_record.proofs.Finds.{all_found, ordered_filter}
use Rattle.vx_laws.proofs.Handed.{cut_boxed, less_fewer}
use Rattle.vx_record.proofs.Moves.{HasRequest}
use Rattle.vx_laws.proofs.Passing.{Right, Walk, walk_then, walk_aside, walk_nothing, finish_walk, IsPlainCall, plain_over, Fewer, fewer_same, MayFin, lives_origin, unit_stores, mailbox_is, fewer_then}
use Rattle.vx_laws.proofs.Rows.{IsClear, freed_boxed, gone_boxed, row_written}
use Rattle.vx_laws.specs.Agrees.{as_stored, device_title}
use Rattle.vx_laws.specs.Boxes.{this_stored, stored, stored_at}
use Rattle.vx_laws.specs.Items.{Item, Did, later, is_cond}
use Rattle.vx_laws.specs.Lives.{life}
use Rattle.vx_laws.specs.MessageLaw.{is_cancelled_next, is_stored_nowhere}
use Rattle.vx_laws.proofs.Common.{any_amend}

-- A request that is to be aborted.

marked_boxed : (s : State) (r : Request) (past : List Item) → Boxed s past → Boxed (mark_part s r).after (Did (effect.Mark r.req.id) ∷ past)
marked_boxed s r past h =
    let t = (mark_part s r).after in
    let x = Did (effect.Mark r.req.id) in
    let c : Carried s t past (x ∷ past) = record { system = refl; there = there_as s t refl refl; titles = λ d k. title_as s t refl refl d; next = omega arith; origins = λ id k. origin_on x past id tt; devices = λ p n. refl } in
    carry s t past (x ∷ past) c refl (λ p n. refl) (λ name. refl) (λ name. refl) (ordered_amend request_id (this_request r.req.id) with_abort (λ y. refl) 0 s.next s.requests h.ordered)
    (all_amend (Rooted t (x ∷ past)) (this_request r.req.id) with_abort (λ y k. record { from = k.from; below = k.below; above = k.above; numbered = k.numbered; there = k.there; on = k.on; free = k.free; call = k.call; is = k.is; func = k.func; len = k.len }) s.requests
    (all_rooted s t past (x ∷ past) c (λ p n. refl) s.requests h.requests)) h

-- A write that is cancelled is stored no more.

any_stored : (w : Id) (ms : List Msg) → list_any (this_stored w) (map as_stored ms) ≡ list_any (this_message w) ms
any_stored w [] = refl
any_stored w (m ∷ ms) = ap (λ (b : Bool). (m.id.0 == w.0) || b) (any_stored w ms)

none_with : (w : Id) (ms : List Msg) → AllByRecursion (λ m. message_id m ≢ w.0) ms → list_any (this_message w) ms ≡ false
none_with w [] h = refl
none_with w (m ∷ ms) h = rw (ne_eqb m.id.0 w.0 h.0, none_with w ms h.1) refl

stored_nowhere : (s : State) (past : List Item) (r : Request) → Rooted s past r → list_any (this_stored r.req.id) (stored past (device_title s r.req.device)) ≡ false → is_some_and (is_stored_nowhere past r.req.id) (life past r.req.id) ≡ true
stored_nowhere s past r root none =
    let g : Origin = record { p = r.req.p; by = Some root.call; device = Some (device_title s r.req.device) } in
    lives_origin (is_stored_nowhere past r.req.id) g (life past r.req.id) root.is
    (λ l e. subst (λ (d : Option (List ℕ)). not (list_any (this_stored r.req.id) (stored_at past d)) ≡ true) (sym (ap (λ (o : Origin). o.device) e)) (not_from_false _ none))

box_nowhere : (s : State) (past : List Item) (r : Request) (b : BoxNo) (box : Mailbox) → r.req.device ≡ device.Mailbox b → box_at s b ≡ Some box → Rooted s past r → list_any (this_message r.req.id) box.messages ≡ false → Boxed s past → MayFin past r.req.id Cancelled
box_nowhere s past r b box on is root none h =
    let title : device_title s r.req.device ≡ box.name = ap (λ (d : Device). device_title s d) on ∙ ap (λ (y : Mailbox). y.name) (mailbox_is s b box is) in
    let st : stored past (device_title s r.req.device) ≡ map as_stored box.messages = ap (stored past) title ∙ sym (h.boxes b box is).messages in
    or_right (not (is_cond Cancelled Cancelled)) (is_some_and (is_stored_nowhere past r.req.id) (life past r.req.id)) (stored_nowhere s past r root (ap (list_any (this_stored r.req.id)) st ∙ (any_stored r.req.id box.messages ∙ none)))

pub unit_nowhere : (s : State) (past : List Item) (r : Request) (u : UnitNo) → r.req.device ≡ device.Unit u → Rooted s past r → Boxed s past → is_some_and (is_stored_nowhere past r.req.id) (life past r.req.id) ≡ true
unit_nowhere s past r u on root h =
    let empty : stored past (device_title s r.req.device) ≡ [] = subst (λ (d : Device). IsThere s d → stored past (device_title s d) ≡ []) (sym on) (λ there. unit_stores s past u there h) root.there in
    stored_nowhere s past r root (ap (list_any (this_stored r.req.id)) empty)

-- what is not in service is withdrawn, and finishes
cancelled_walk : (s : State) (past : List Item) (r : Request) (more : List Effect) → HasRequest s r → IsPlainCall past → Boxed s past → Walk s past (cancelled_request s r) more
cancelled_walk s past r more has calm h = by_device r.req.device refl root.there
  where
    root : Rooted s past r
    root = all_find (Rooted s past) (this_request r.req.id) s.requests r h.requests has

    by_box : (b : BoxNo) (o : Option Mailbox) → r.req.device ≡ device.Mailbox b → box_at s b ≡ o → IsTrue (is_some o) → Walk s past (and_then (withdraw_from s r b) (λ a. finish a r (ending Cancelled 0 0 []))) more
    by_box b None on is k = absurd (let never : false ≡ true = k in cc)
    by_box b (Some box) on is k =
        let same : (mailbox_at s b).messages ≡ box.messages = ap (λ (y : Mailbox). y.messages) (mailbox_is s b box is) in
        either_by (λ (x : Part). Walk s past (and_then x (λ a. finish a r (ending Cancelled 0 0 []))) more) (list_any (this_message r.req.id) (mailbox_at s b).messages) (mcut_part s b r.req.id) (nothing s)
        (λ t. cut b box on is t)
        (λ f. walk_then s past (nothing s) (λ a. finish a r (ending Cancelled 0 0 [])) more (walk_nothing s past _ h) (finish_walk s past r (ending Cancelled 0 0 []) more calm (box_nowhere s past r b box on is root (ap (list_any (this_message r.req.id)) (sym same) ∙ f) h) h))
      where
        cut : (b : BoxNo) (box : Mailbox) → r.req.device ≡ device.Mailbox b → box_at s b ≡ Some box → list_any (this_message r.req.id) (mailbox_at s b).messages ≡ true → Walk s past (and_then (mcut_part s b r.req.id) (λ a. finish a r (ending Cancelled 0 0 []))) more
        cut b box on is t =
            let a = mcut_part s b r.req.id in
            let x = effect.MCut (mailbox_at s b).name r.req.id in
            let new : Mailbox = record (mailbox_at s b) { messages = less (this_message r.req.id) (mailbox_at s b).messages } in
            let boxed = cut_boxed s b box r.req.id past is h in
            let there = put_there s b b (Some new) refl (some_within s.boxes b.0 box is) in
            let same : (mailbox_at s b).messages ≡ box.messages = ap (λ (y : Mailbox). y.messages) (mailbox_is s b box is) in
            let st : stored past (mailbox_at s b).name ≡ map as_stored (mailbox_at s b).messages = ap (λ (y : Mailbox). stored past y.name) (mailbox_is s b box is) ∙ (sym (h.boxes b box is).messages ∙ ap (map as_stored) (sym same)) in
            let here : list_any (this_stored r.req.id) (stored past (mailbox_at s b).name) ≡ true = ap (list_any (this_stored r.req.id)) st ∙ (any_stored r.req.id (mailbox_at s b).messages ∙ t) in
            let es = (finish a.after r (ending Cancelled 0 0 [])).effects in
            let next : is_cancelled_next r.req.id (es ++ more) ≡ true = and_from _ _ (eq-eqb r.req.id.0 r.req.id.0 refl) refl in
            let right : Right past x (es ++ more) = λ rest left. and_from _ _ here (subst (λ (l : List Effect). is_cancelled_next r.req.id l ≡ true) (sym left) next) in
            let gone : list_any (this_message r.req.id) new.messages ≡ false = none_with r.req.id new.messages (removed message_id r.req.id.0 0 s.next (mailbox_at s b).messages (subst (AreOrdered message_id 0 s.next) (sym same) (h.boxes b box is).ids)) in
            let rooted = all_find (Rooted a.after (Did x ∷ past)) (this_request r.req.id) s.requests r boxed.requests has in
            walk_then s past a (λ a. finish a r (ending Cancelled 0 0 [])) more (record { boxed = boxed; lawful = (right, tt); fewer = less_fewer s b r.req.id })
            (finish_walk a.after (Did x ∷ past) r (ending Cancelled 0 0 []) more calm (box_nowhere a.after (Did x ∷ past) r b new on there rooted gone boxed) boxed)

    by_device : (d : Device) → r.req.device ≡ d → IsThere s d → Walk s past (and_then (withdraw s r d) (λ a. finish a r (ending Cancelled 0 0 []))) more
    by_device (device.Unit u) on there = walk_then s past (nothing s) (λ a. finish a r (ending Cancelled 0 0 [])) more (walk_nothing s past _ h) (finish_walk s past r (ending Cancelled 0 0 []) more calm (or_right (not (is_cond Cancelled Cancelled)) (is_some_and (is_stored_nowhere past r.req.id) (life past r.req.id)) (unit_nowhere s past r u on root h)) h)
    by_device (device.Mailbox b) on there = by_box b (box_at s b) on refl there

pub cancel_request_walk : (s : State) (past : List Item) (r : Request) (more : List Effect) → HasRequest s r → IsPlainCall past → Boxed s past → Walk s past (cancel_request s r) more
cancel_request_walk s past r more has calm h =
    either (λ (x : Part). Walk s past x more) r.served _ (cancelled_request s r)
    (either (λ (x : Part). Walk s past x more) (not r.marked) (mark_part s r) (nothing s)
    (record { boxed = marked_boxed s r past h; lawful = ((λ rest left. refl), tt); fewer = record { reads = λ b e. sym (any_amend (this_request r.req.id) (waits_at b) with_abort s.requests (λ x. refl)) ∙ e; empty = λ b e. e } })
    (walk_nothing s past more h))
    (cancelled_walk s past r more has calm h)

-- one after another

each_cancel_walk : (low high : ℕ) (xs : List Request) (s : State) (past : List Item) (more : List Effect) → AreOrdered request_id low high xs → AllByRecursion (HasRequest s) xs → IsPlainCall past → Boxed s past → Walk s past (each cancel_request xs s) more
each_cancel_walk low high [] s past more o k calm h = walk_nothing s past more h
each_cancel_walk low high (x ∷ xs) s past more o k calm h =
    let a = cancel_request s x in
    let one = cancel_request_walk s past x ((each cancel_request xs a.after).effects ++ more) k.0 calm h in
    let rest : AllByRecursion (HasRequest a.after) xs = all_weaker (λ (y : Request). (request_id x + 1 ≤ request_id y) × HasRequest s y) (HasRequest a.after) (λ y l. still_has s x y l.0 l.1) xs (all_both (λ (y : Request). request_id x + 1 ≤ request_id y) (HasRequest s) xs (all_from request_id (request_id x + 1) high xs o.1) k.1) in
    walk_then s past a (each cancel_request xs) more one (each_cancel_walk (request_id x + 1) high xs a.after (later past (map Did a.effects)) more o.1 rest (plain_over past a.effects calm) one.boxed)

pub cancel_channel_walk : (s : State) (past : List Item) (p : Pid) (n : ℕ) (more : List Effect) → IsPlainCall past → Boxed s past → Walk s past (cancel_channel s p n) more
cancel_channel_walk s past p n more calm h =
    let todo = filter (is_request_on p n) s.requests in
    let a = each cancel_request todo s in
    let f = λ (x : State). each drop_attention (filter (is_attention_on p n) x.attention) x in
    let one = each_cancel_walk 0 s.next todo s past ((f a.after).effects ++ more) (ordered_filter request_id (is_request_on p n) 0 s.next s.requests h.ordered) (all_filter (HasRequest s) (is_request_on p n) s.requests (all_found request_id 0 s.next s.requests h.ordered)) calm h in
    walk_then s past a f more one (walk_aside a.after (later past (map Did a.effects)) (f a.after) more (drop_attentions_aside a.after (filter (is_attention_on p n) a.after.attention)) (plain_over past a.effects calm) one.boxed)

-- Nothing hangs on a cancelled channel: those that are still to come, not in service, are all that does.

takes : Request → Request → Bool
takes r t = this_request t.req.id r && not t.served

Covered : Pid → ℕ → List Request → Request → Type 0
Covered p n todo r = (is_on_box r.req.device && is_request_on p n r) ≡ true → list_any (takes r) todo ≡ true

past_served : (p : Pid) (n : ℕ) (t : Request) (ts : List Request) → t.served ≡ true → (r : Request) → Covered p n (t ∷ ts) r → Covered p n ts r
unfolding takes Covered
past_served p n t ts served r k e =
    elim (or_cases (takes r t) (list_any (takes r) ts) (k e)) [
      | inl here ↦ absurd (both_ways t.served (not-true t.served (and_parts (this_request t.req.id r) (not t.served) here).1) served)
      | inr there ↦ there
    ]

past_gone : (p : Pid) (n : ℕ) (t : Request) (ts : List Request) (r : Request) → request_id r ≢ t.req.id.0 → Covered p n (t ∷ ts) r → Covered p n ts r
unfolding takes Covered
past_gone p n t ts r other k e =
    elim (or_cases (takes r t) (list_any (takes r) ts) (k e)) [
      | inl here ↦ absurd (other (eqb-true (request_id r) t.req.id.0 (and_parts (this_request t.req.id r) (not t.served) here).0))
      | inr there ↦ there
    ]

abort_covered : (p : Pid) (n : ℕ) (ts : List Request) (r : Request) → Covered p n ts r → Covered p n ts (with_abort r)
unfolding takes Covered
abort_covered p n ts r k e = k e

record Left (p : Pid) (n high : ℕ) (ts : List Request) (rs : List Request) : Type 0 where
  pub ordered : AreOrdered request_id 0 high rs
  pub covered : AllByRecursion (Covered p n ts) rs

left_after : (s : State) (p : Pid) (n high : ℕ) (t : Request) (ts : List Request) → Left p n high (t ∷ ts) s.requests → Left p n high ts (cancel_request s t).after.requests
left_after s p n high t ts k =
    let P = λ (x : Part). Left p n high ts x.after.requests in
    either_by P t.served _ (cancelled_request s t)
    (λ served.
    let rest = all_weaker (Covered p n (t ∷ ts)) (Covered p n ts) (past_served p n t ts served) s.requests k.covered in
    either P (not t.marked) (mark_part s t) (nothing s)
    (record { ordered = ordered_amend request_id (this_request t.req.id) with_abort (λ y. refl) 0 high s.requests k.ordered; covered = all_amend (Covered p n ts) (this_request t.req.id) with_abort (abort_covered p n ts) s.requests rest })
    (record { ordered = k.ordered; covered = rest }))
    (λ free.
    subst (Left p n high ts) (sym (cancelled_requests s t))
    (record {
      ordered = ordered_less request_id (this_request t.req.id) 0 high s.requests k.ordered;
      covered = all_weaker (λ r. Covered p n (t ∷ ts) r × (request_id r ≢ t.req.id.0)) (Covered p n ts) (λ r e. past_gone p n t ts r e.1 e.0) (less (this_request t.req.id) s.requests)
          (all_both (Covered p n (t ∷ ts)) (λ r. request_id r ≢ t.req.id.0) (less (this_request t.req.id) s.requests) (all_less (Covered p n (t ∷ ts)) (this_request t.req.id) s.requests k.covered)
          (removed request_id t.req.id.0 0 high s.requests k.ordered));
    }))

none_left : (p : Pid) (n : ℕ) (r : Request) → Covered p n [] r → (is_on_box r.req.device && is_request_on p n r) ≡ false
unfolding Covered
none_left p n r k = false_from_ne_true _ (λ e. let no : false ≡ true = k e in cc)

each_clear : (p : Pid) (n high : ℕ) (todo : List Request) (s : State) → Left p n high todo s.requests → IsClear (each cancel_request todo s).after p n
each_clear p n high [] s k = all_weaker (Covered p n []) (λ r. (is_on_box r.req.device && is_request_on p n r) ≡ false) (none_left p n) s.requests k.covered
each_clear p n high (t ∷ ts) s k = each_clear p n high ts (cancel_request s t).after (left_after s p n high t ts k)

box_unserved : (served : Bool) (d : Device) → MayBeServed served d → is_on_box d ≡ true → served ≡ false
box_unserved served (device.Unit u) k e = absurd (let never : false ≡ true = e in cc)
box_unserved served (device.Mailbox b) k e = k

covered_more : (p : Pid) (n : ℕ) (t : Request) (ts : List Request) (r : Request) → Covered p n ts r → Covered p n (t ∷ ts) r
unfolding Covered
covered_more p n t ts r k e = or_right (takes r t) (list_any (takes r) ts) (k e)

covered_here : (p : Pid) (n : ℕ) (r : Request) (ts : List Request) → MayBeServed r.served r.req.device → Covered p n (r ∷ ts) r
unfolding takes Covered
covered_here p n r ts k e =
    or_left (takes r r) (list_any (takes r) ts) (and_from (this_request r.req.id r) (not r.served) (eq-eqb r.req.id.0 r.req.id.0 refl) (not_from_false r.served (box_unserved r.served r.req.device k (and_parts (is_on_box r.req.device) (is_request_on p n r) e).0)))

covered_not : (p : Pid) (n : ℕ) (r : Request) (ts : List Request) → is_request_on p n r ≡ false → Covered p n ts r
unfolding Covered
covered_not p n r ts other e = absurd (both_ways (is_request_on p n r) other (and_parts (is_on_box r.req.device) (is_request_on p n r) e).1)

all_covered : (s : State) (past : List Item) (p : Pid) (n : ℕ) (xs : List Request) → AllByRecursion (Rooted s past) xs → AllByRecursion (Covered p n (filter (is_request_on p n) xs)) xs
all_covered s past p n [] k = tt
all_covered s past p n (x ∷ xs) k =
    let rest = all_covered s past p n xs k.1 in
    let ys = filter (is_request_on p n) xs in
    either_by (λ todo. AllByRecursion (Covered p n todo) (x ∷ xs)) (is_request_on p n x) (x ∷ ys) ys
    (λ e. (covered_here p n x ys k.0.free, all_weaker (Covered p n ys) (Covered p n (x ∷ ys)) (covered_more p n x ys) xs rest)) (λ e. (covered_not p n x ys e, rest))

pub cancel_channel_clear : (s : State) (past : List Item) (p : Pid) (n : ℕ) → Boxed s past → IsClear (cancel_channel s p n).after p n
cancel_channel_clear s past p n h =
    let todo = filter (is_request_on p n) s.requests in
    let a = (each cancel_request todo s).after in
    let k = drop_attentions_aside a (filter (is_attention_on p n) a.attention) in
    subst (AllByRecursion (λ r. (is_on_box r.req.device && is_request_on p n r) ≡ false)) (sym k.requests) (each_clear p n s.next todo s (record { ordered = h.ordered; covered = all_covered s past p n s.requests h.requests }))

-- A channel is freed, and its mailbox goes if no other is to it.

gone_fewer : (s : State) (b : BoxNo) → Fewer s (with_box s b None)
gone_fewer s b = record {
  reads = λ c e. e;
  empty = λ c e. at_set (λ (x y : Option Mailbox). (or_no_box x).messages ≡ [] → (or_no_box y).messages ≡ []) (λ x k. k) s.boxes b.0 c.0 None None (λ k. refl) e;
}

gone_walk : (s : State) (past : List Item) (b : BoxNo) (o : Option Mailbox) (more : List Effect) → box_at s b ≡ o → IsTrue (is_some o) → is_assigned s b ≡ false → Boxed s past → Walk s past (box_gone s b) more
gone_walk s past b None more is k none h = absurd (let never : false ≡ true = k in cc)
gone_walk s past b (Some box) more is k none h = record {
  boxed = subst (λ (y : Mailbox). Boxed (with_box s b None) (Did (effect.Mbx y.name false) ∷ past)) (sym (mailbox_is s b box is)) (gone_boxed s b box past is none h);
  lawful = ((λ rest left. refl), tt);
  fewer = gone_fewer s b;
}

swept_walk : (s : State) (past : List Item) (d : Device) (more : List Effect) → IsThere s d → Boxed s past → Walk s past (swept_device s d) more
swept_walk s past (device.Unit u) more there h = walk_nothing s past more h
swept_walk s past (device.Mailbox b) more there h =
    either_by (λ (x : Part). Walk s past x more) (not (is_assigned s b) && goes_unused (mailbox_at s b)) (box_gone s b) (nothing s)
    (λ e. gone_walk s past b (box_at s b) more refl there (not-true (is_assigned s b) (and_parts (not (is_assigned s b)) (goes_unused (mailbox_at s b)) e).0) h) (λ e. walk_nothing s past more h)

pub free_walk : (s : State) (past : List Item) (p : Pid) (n : ℕ) (more : List Effect) → 1 ≤ p.0 → 1 ≤ n → IsClear s p n → Boxed s past → Walk s past (free_channel s p n) more
free_walk s past p n more above one clear h = by_row (row s p n) refl
  where
    by_row : (o : Option Channel) → row s p n ≡ o → Walk s past (swept_box (change s p (with_channel n None)) o) more
    by_row None e =
        let t = change s p (with_channel n None) in
        record { boxed = freed_boxed s p n past above one clear h; lawful = tt; fewer = fewer_same s t refl refl }
    by_row (Some ch) e =
        let t = change s p (with_channel n None) in
        let w = swept_walk t past ch.device more (there_as s t refl refl ch.device (h.rows p n ch above one e).0) (freed_boxed s p n past above one clear h) in
        record { boxed = w.boxed; lawful = w.lawful; fewer = fewer_then s t (swept_device t ch.device).after (fewer_same s t refl refl) w.fewer }

-- what a freed channel leaves as it was

swept_as : (P : State → Type 0) (s : State) (o : Option Channel) → P s → ((b : BoxNo) → P (with_box s b None)) → P (swept_box s o).after
swept_as P s None h k = h
swept_as P s (Some ch) h k = by_device ch.device
  where
    by_device : (d : Device) → P (swept_device s d).after
    by_device (device.Unit u) = h
    by_device (device.Mailbox b) = either (λ (x : Part). P x.after) (not (is_assigned s b) && goes_unused (mailbox_at s b)) (box_gone s b) (nothing s) (k b) h

pub free_rows : (s : State) (p q : Pid) (n m : ℕ) (c : Channel) → row (free_channel s p n).after q m ≡ Some c → row s q m ≡ Some c
free_rows s p q n m c e =
    let t = change s p (with_channel n None) in
    let same : row (free_channel s p n).after q m ≡ row t q m = swept_as (λ (u : State). row u q m ≡ row t q m) t (row s p n) refl (λ b. refl) in
    elim (row_written s p q n m None c (sym same ∙ e)) [ inl k ↦ absurd (let never : None ≡ Some c = k in cc) | inr k ↦ k ]

pub free_requests : (s : State) (p : Pid) (n : ℕ) → (free_channel s p n).after.requests ≡ s.requests
free_requests s p n = swept_as (λ (u : State). u.requests ≡ s.requests) (change s p (with_channel n None)) (row s p n) refl (λ b. refl)
