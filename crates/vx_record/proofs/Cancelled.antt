-- Channels, cancelling and timers, as sequences of moves, and what is left on a channel that was cancelled.
use Rattle.std.proofs.Common.{◌≡◌, ℕ, List, [], ◌∷◌, Bool, true, false, not, ◌&&◌, length, Option, Some, None, Result, Ok, Err, is_some, position, is_none, refl, ◌∙◌, ◌+◌, ◌≤◌, IfSome, sym, ap, arith, subst, ◌<◌, ◌≢◌}
use Rattle.std.specs.List.{filter, find, list_any, AllByRecursion}
use Rattle.vx_base.specs.Modes.{outer}
use Rattle.vx_record.specs.Types.{Alarm, Attention, Cell, Channel, Cond, Device, Entry, Mailbox, Mode, Pid, Request, Timer}
use Rattle.vx_base.specs.Pieces.{OfTimer, OfWake}
use Rattle.vx_base.specs.declared.cond.Cond.TheVariants.{Cancel as Cancelled}
use Rattle.vx_base.specs.declared.request.Device.TheVariants as device
use Rattle.vx_record.specs.State.{Process, State, process_at, change, current, IsProcess}
use Rattle.vx_record.specs.Parts.{Part, Outcome, nothing, each, refused, at_tested, and_then}
use Rattle.vx_record.specs.Charges.{exceeds, ast_need, timer_need}
use Rattle.vx_record.specs.Flags.{cell, flag_part, flag_where_named}
use Rattle.vx_record.specs.Finish.{Ending, ending, finish, this_request}
use Rattle.vx_record.specs.Mailboxes.{mailbox_at, this_message, mcut_part, this_attention}
use Rattle.vx_record.specs.Channels.{box_named, with_channel, free_channel_of, assign_at, assign_to, is_bad_box, new_box, make_box, make_box_in, find_or_create, crembx, delmbx_on, swept_device, swept_box, free_channel, box_number, box_made, is_box_of}
use Rattle.vx_record.specs.Cancel.{mark_part, withdraw, cancelled_request, cancel_request, is_request_on, is_attention_on, drop_attention, cancel_channel, with_abort}
use Rattle.vx_record.specs.Control.{with_wake}
use Rattle.vx_record.specs.Timers.{drop_timer, drop_timers, setimr_at, setimr, scheduled, que_timer, fired, fire, is_due, at_time, next_time, tick, mode_of_ast, this_timer, after_wake, new_timer, new_wake, timer_set}
use Rattle.vx_base.specs.Channels.{channel_at}
use Rattle.vx_record.proofs.Lists.{either, either_by, all_weaker, all_both, all_filter, all_find, all_less, all_amend, ordered_amend, ordered_less, removed}
use Rattle.std.proofs.lemmas.Bool.{eq-eqb, and_parts, and_from, or_left, or_right, false_from_ne_true, not-true, both_ways}
use Rattle.std.proofs.Math.ListN.{length-set}
use Rattle.std.specs.Prelude.{option_map}
use Rattle.vx_base.specs.Lists.{less}
use Rattle.vx_base.specs.declared.effects.Effect.TheVariants as effect
use Rattle.vx_record.specs.Asts.{charged_ast}
use Rattle.vx_record.specs.Sound.{AreOrdered, request_id, timer_id, attention_id, ground, IsRoutineOf, DeviceStands, RequestStands, MayBeServed}
use Rattle.std.proofs.lemmas.List.Quantifiers.{position-Some}
use Rattle.vx_record.proofs.Moves.{passed, IsAt, loosed_timer, fired_by, IsCellMade, IsAlarmMade, IsOfTimer, IsSilent, IsNewTimer, HasRequest, HasTimer, none, both, quiet, channel, flag, que, mark, mcut, box_opens, box_ends, box_marked, open_timer, open_wake, timer_fires, wake_fires, end_timer, time, MovesBy, PartBy, OutcomeBy, Answers, IsRow}
use Rattle.vx_record.proofs.Firm.{IsFirm}
use Rattle.vx_record.proofs.Changes.{with_wake_quiet}
use Rattle.vx_record.proofs.Fits.{cell_seated, routine_seated}
use Rattle.vx_record.proofs.SoundChannels.{IsClear, is_on_box, free_row, is_some_box, made_there}
use Rattle.vx_record.proofs.Base.{Base, moves_keep}
use Rattle.vx_record.proofs.Finds.{other_id, find_less, find_amend, ordered_filter}
use Rattle.vx_record.proofs.Apart.{set_where, Here, part_then, based_then, part_either, part_by, outcome_either, moves_if, each_moves, tamely, cell_made, named_flag, at_flag_moves, finish_moves, requests_found, timers_found, drop_attentions_moves, cell_charged_as, room_as}

-- Channels.

pub at_tested_moves : {refs : Bool} {A : Type 0} (s : State) (go : A → Outcome Cond) (r : Result A Cond) → ((x : A) → r ≡ Ok x → OutcomeBy refs s (go x)) → OutcomeBy refs s (at_tested s go r)
at_tested_moves s go (Err c) f = none s None
at_tested_moves s go (Ok x) f = f x refl

-- a channel is assigned at the least free number
assign_at_moves : {refs : Bool} (s : State) (p : Pid) (d : Device) (mode : Mode) (o : Option ℕ) → free_channel_of s p ≡ o → Answers refs s (DeviceStands (ground s) d) → OutcomeBy refs s (assign_at s p d mode o)
assign_at_moves s p d mode None e k = none s None
assign_at_moves s p d mode (Some n) e k = channel s None p n (Some (record { device = d; mode = mode })) (λ refers h. ((free_row 1 n (process_at s p).channels e).1, k refers h))

pub assign_to_moves : {refs : Bool} (s : State) (p : Pid) (mode : Mode) (o : Option Device) → Answers refs s (IfSome o (DeviceStands (ground s))) → OutcomeBy refs s (assign_to s p mode o)
assign_to_moves s p mode None k = none s None
assign_to_moves s p mode (Some d) k = assign_at_moves s p d mode (free_channel_of s p) refl k

make_box_moves : {refs : Bool} (s : State) (p : Pid) (mode : Mode) (box : Mailbox) (b : ℕ) (o : Option ℕ) → b < length s.boxes → free_channel_of s p ≡ o → OutcomeBy refs s (make_box s p mode box b o)
make_box_moves s p mode box b None k e = none s None
make_box_moves s p mode box b (Some n) k e =
    let a = (box_made s b box).after in
    let ch : Channel = record { device = device.Mailbox (box_number b); mode = mode } in
    both s a (change a p (with_channel n (Some ch))) None None None (effect.Mbx box.name true ∷ []) [] (box_opens s b box) (channel a None p n (Some ch) (λ refers h. ((free_row 1 n (process_at s p).channels e).1, made_there s b box k)))

make_box_in_moves : {refs : Bool} (s : State) (p : Pid) (mode : Mode) (box : Mailbox) (o : Option ℕ) → position is_none s.boxes ≡ o → OutcomeBy refs s (make_box_in s p mode box o)
make_box_in_moves s p mode box None e = none s None
make_box_in_moves s p mode box (Some b) e = make_box_moves s p mode box b (free_channel_of s p) (position-Some is_none s.boxes b None e).0 refl

find_or_create_moves : {refs : Bool} (s : State) (p : Pid) (mode : Mode) (box : Mailbox) (name : List ℕ) (o : Option ℕ) → box_named s name ≡ o → OutcomeBy refs s (find_or_create s p mode box o)
find_or_create_moves s p mode box name None e = outcome_either s (box.permanent && not (process_at s p).privs.prmmbx) _ _ (none s None) (make_box_in_moves s p mode box (position is_none s.boxes) refl)
find_or_create_moves s p mode box name (Some b) e = assign_at_moves s p _ mode (free_channel_of s p) refl (λ refers h. is_some_box name _ (position-Some (is_box_of name) s.boxes b None e).1)

pub crembx_moves : {refs : Bool} (s : State) (p : Pid) (name : List ℕ) (perm maxmsg bufquo : ℕ) (mode : Mode) → OutcomeBy refs s (crembx s p name perm maxmsg bufquo mode)
crembx_moves s p name perm maxmsg bufquo mode = outcome_either s (is_bad_box s name maxmsg bufquo) _ _ (none s None) (find_or_create_moves s p (outer mode (current s p)) (new_box name perm maxmsg bufquo) name (box_named s name) refl)

pub delmbx_moves : {refs : Bool} (s : State) (p : Pid) (d : Device) → OutcomeBy refs s (delmbx_on s p d)
delmbx_moves s p (device.Unit u) = none s None
delmbx_moves s p (device.Mailbox b) = grind (arith, outcome_either, none, moves_if, box_marked)

swept_device_moves : {refs : Bool} (s : State) (d : Device) → PartBy refs s (swept_device s d)
swept_device_moves s (device.Unit u) = none s None
swept_device_moves s (device.Mailbox b) = grind (arith, part_by, box_ends, not-true, and_parts, none)

swept_moves : {refs : Bool} (s : State) (o : Option Channel) → PartBy refs s (swept_box s o)
swept_moves s None = none s None
swept_moves s (Some ch) = swept_device_moves s ch.device

pub free_channel_moves : {refs : Bool} (s : State) (p : Pid) (n : ℕ) → Answers refs s (IsRow s p n None) → PartBy refs s (free_channel s p n)
free_channel_moves s p n ok =
    let a = change s p (with_channel n None) in
    let o = channel_at (process_at s p).channels n in
    both s a (swept_box a o).after None None None [] (swept_box a o).effects (channel s None p n None ok) (swept_moves a o)

-- Cancelling.

withdraw_moves : {refs : Bool} (s : State) (r : Request) (d : Device) → PartBy refs s (withdraw s r d)
withdraw_moves s r (device.Unit u) = none s None
withdraw_moves s r (device.Mailbox b) = moves_if s None (list_any (this_message r.req.id) (mailbox_at s b).messages) (mcut_part s b r.req.id) (mcut s b r.req.id)

pub withdraw_requests : (s : State) (r : Request) (d : Device) → (withdraw s r d).after.requests ≡ s.requests
withdraw_requests s r d = grind arith

cancel_request_moves : {refs : Bool} (s : State) (r : Request) → Base s → HasRequest s r → PartBy refs s (cancel_request s r)
cancel_request_moves {refs} s r h has =
    part_either s None None r.served _ (cancelled_request s r)
    (either_by (λ (x : Part). PartBy refs s x) (not r.marked) (mark_part s r) (nothing s) (λ t. mark s r has (not-true r.marked t)) (λ f. none s None))
    (let w = withdraw s r r.req.device in
    based_then s w (λ a. finish a r (ending Cancelled 0 0 [])) h (withdraw_moves s r r.req.device) (λ k. finish_moves w.after r (ending Cancelled 0 0 []) (rw (withdraw_requests s r r.req.device) has) k))

-- what a finish does to the list of requests
pub finish_requests : (s : State) (r : Request) (e : Ending) → (finish s r e).after.requests ≡ less (this_request r.req.id) s.requests
finish_requests s r e = grind arith

pub cancelled_requests : (s : State) (r : Request) → (cancelled_request s r).after.requests ≡ less (this_request r.req.id) s.requests
cancelled_requests s r = finish_requests (withdraw s r r.req.device).after r (ending Cancelled 0 0 []) ∙ ap (less (this_request r.req.id)) (withdraw_requests s r r.req.device)

pub still_has : (s : State) (x y : Request) → request_id x + 1 ≤ request_id y → HasRequest s y → HasRequest (cancel_request s x).after y
still_has s x y h e =
    let P = λ (a : Part). HasRequest a.after y in
    let apart = λ (z : Request). other_id z.req.id.0 x.req.id.0 y.req.id.0 (λ same. omega arith) in
    either P x.served _ (cancelled_request s x) (either P (not x.marked) (mark_part s x) (nothing s) (find_amend (this_request x.req.id) (this_request y.req.id) with_abort s.requests y apart apart e) e)
    (rw (cancelled_requests s x) (find_less (this_request x.req.id) (this_request y.req.id) s.requests y apart e))

pub cancel_channel_moves : {refs : Bool} (s : State) (p : Pid) (n : ℕ) → Base s → PartBy refs s (cancel_channel s p n)
cancel_channel_moves {refs} s p n h =
    let todo = filter (is_request_on p n) s.requests in
    let one : PartBy refs s (each cancel_request todo s) =
    each_moves request_id cancel_request HasRequest cancel_request_moves (λ t x y hx l e. still_has t x y l e) 0 s.next todo s
    (ordered_filter request_id (is_request_on p n) 0 s.next s.requests h.requests) (all_filter (HasRequest s) (is_request_on p n) s.requests (requests_found s h)) h
    in
    based_then s (each cancel_request todo s) (λ a. each drop_attention (filter (is_attention_on p n) a.attention) a) h one (λ k. drop_attentions_moves (each cancel_request todo s).after p n k)

-- What is left on a channel that was cancelled.

-- each that a test is true of has one in the list that is to do
abbrev IsToDo : {A : Type 0} → (A → Bool) → (A → A → Bool) → List A → A → Type 0
IsToDo on takes todo x = on x ≡ true → list_any (takes x) todo ≡ true

all_to_do : {A : Type 0} (on test : A → Bool) (takes : A → A → Bool) → ((x : A) → on x ≡ true → (test x ≡ true) × (takes x x ≡ true)) → (xs : List A) → AllByRecursion (IsToDo on takes (filter test xs)) xs
all_to_do on test takes k [] = tt
all_to_do on test takes k (x ∷ xs) =
    let rest = all_to_do on test takes k xs in
    let ys = filter test xs in
    either_by (λ todo. AllByRecursion (IsToDo on takes todo) (x ∷ xs)) (test x) (x ∷ ys) ys
    (λ e. ((λ o. or_left (takes x x) (list_any (takes x) ys) (k x o).1), all_weaker (IsToDo on takes ys) (IsToDo on takes (x ∷ ys)) (λ y h o. or_right (takes y x) (list_any (takes y) ys) (h o)) xs rest))
    (λ e. ((λ o. absurd (both_ways (test x) e (k x o).0)), rest))

past : {A : Type 0} (on : A → Bool) (takes : A → A → Bool) (t : A) (ts : List A) (x : A) → takes x t ≡ false → IsToDo on takes (t ∷ ts) x → IsToDo on takes ts x
past on takes t ts x other k e = rw other at (k e)

none_to_do : {A : Type 0} (on : A → Bool) (takes : A → A → Bool) (x : A) → IsToDo on takes [] x → on x ≡ false
none_to_do on takes x k = false_from_ne_true _ (λ e. let no : false ≡ true = k e in cc)

-- of each of a list
pub each_keeps : {A : Type 0} (P : State → Type 0) (f : State → A → Part) → ((s : State) (x : A) → P s → P (f s x).after) → (xs : List A) (s : State) → P s → P (each f xs s).after
each_keeps P f k [] s h = h
each_keeps P f k (x ∷ xs) s h = each_keeps P f k xs (f s x).after (k s x h)

-- a request on the channel that is not in service is still to come
abbrev is_waiting : Pid → ℕ → Request → Bool
is_waiting p n r = not r.served && is_request_on p n r

abbrev takes : Request → Request → Bool
takes r t = this_request t.req.id r && not t.served

abbrev Covered : Pid → ℕ → List Request → Request → Type 0
Covered p n todo = IsToDo (is_waiting p n) takes todo

served_takes : (r t : Request) → t.served ≡ true → takes r t ≡ false
served_takes r t e = grind arith

other_takes : (r t : Request) → request_id r ≢ t.req.id.0 → takes r t ≡ false
other_takes r t e = grind arith

covered_after : (s : State) (p : Pid) (n high : ℕ) (t : Request) (ts : List Request) → AllByRecursion (Covered p n (t ∷ ts)) s.requests → AreOrdered request_id 0 high s.requests → AllByRecursion (Covered p n ts) (cancel_request s t).after.requests
covered_after s p n high t ts k o =
    let P = λ (x : Part). AllByRecursion (Covered p n ts) x.after.requests in
    either_by P t.served _ (cancelled_request s t)
    (λ served.
    let rest = all_weaker (Covered p n (t ∷ ts)) (Covered p n ts) (λ r. past (is_waiting p n) takes t ts r (served_takes r t served)) s.requests k in
    either P (not t.marked) (mark_part s t) (nothing s) (all_amend (Covered p n ts) (this_request t.req.id) with_abort (λ r k. k) s.requests rest) rest)
    (λ free.
    rw (cancelled_requests s t)
    (all_weaker (λ r. Covered p n (t ∷ ts) r × (request_id r ≢ t.req.id.0)) (Covered p n ts) (λ r e. past (is_waiting p n) takes t ts r (other_takes r t e.1) e.0) (less (this_request t.req.id) s.requests)
    (all_both (Covered p n (t ∷ ts)) (λ r. request_id r ≢ t.req.id.0) (less (this_request t.req.id) s.requests) (all_less (Covered p n (t ∷ ts)) (this_request t.req.id) s.requests k)
    (removed request_id t.req.id.0 0 high s.requests o))))

cancel_ordered : (s : State) (high : ℕ) (t : Request) → AreOrdered request_id 0 high s.requests → AreOrdered request_id 0 high (cancel_request s t).after.requests
cancel_ordered s high t o = grind (arith, either, ordered_amend, cancelled_requests, ordered_less)

each_cancel_served : (s : State) (p : Pid) (n high : ℕ) (todo : List Request) → AllByRecursion (Covered p n todo) s.requests → AreOrdered request_id 0 high s.requests → AllByRecursion (λ r. is_waiting p n r ≡ false) (each cancel_request todo s).after.requests
each_cancel_served s p n high [] c o = all_weaker (Covered p n []) (λ r. is_waiting p n r ≡ false) (none_to_do (is_waiting p n) takes) s.requests c
each_cancel_served s p n high (t ∷ ts) c o = each_cancel_served (cancel_request s t).after p n high ts (covered_after s p n high t ts c o) (cancel_ordered s high t o)

-- the attention entries on it are dropped

abbrev calls : Attention → Attention → Bool
calls a t = this_attention t.id a

other_calls : (a t : Attention) → attention_id a ≢ t.id.0 → calls a t ≡ false
other_calls a t e = grind arith

abbrev Attended : Pid → ℕ → List Attention → Attention → Type 0
Attended p n todo = IsToDo (is_attention_on p n) calls todo

each_drop_clear : (s : State) (p : Pid) (n high : ℕ) (todo : List Attention) → AllByRecursion (Attended p n todo) s.attention → AreOrdered attention_id 0 high s.attention → AllByRecursion (λ a. is_attention_on p n a ≡ false) (each drop_attention todo s).after.attention
each_drop_clear s p n high [] k o = all_weaker (Attended p n []) (λ a. is_attention_on p n a ≡ false) (none_to_do (is_attention_on p n) calls) s.attention k
each_drop_clear s p n high (t ∷ ts) k o =
    let xs = less (this_attention t.id) s.attention in
    each_drop_clear (drop_attention s t).after p n high ts
    (all_weaker (λ x. Attended p n (t ∷ ts) x × (attention_id x ≢ t.id.0)) (Attended p n ts) (λ x e. past (is_attention_on p n) calls t ts x (other_calls x t e.1) e.0) xs
    (all_both (Attended p n (t ∷ ts)) (λ x. attention_id x ≢ t.id.0) xs (all_less (Attended p n (t ∷ ts)) (this_attention t.id) s.attention k) (removed attention_id t.id.0 0 high s.attention o)))
    (ordered_less attention_id (this_attention t.id) 0 high s.attention o)

-- what holds of all attention entries holds of those that are left

flag_attention_same : (s : State) (r : Request) (e : Ending) → (finish s r e).after.attention ≡ s.attention
flag_attention_same s r e = grind arith

cancel_request_attention : (s : State) (r : Request) → (cancel_request s r).after.attention ≡ s.attention
cancel_request_attention s r =
    let P = λ (x : Part). x.after.attention ≡ s.attention in
    let w = (withdraw s r r.req.device).after in
    let same : w.attention ≡ s.attention = grind arith in
    either P r.served _ (cancelled_request s r) (either P (not r.marked) (mark_part s r) (nothing s) refl refl) (flag_attention_same w r (ending Cancelled 0 0 []) ∙ same)

pub cancel_channel_all : (P : Attention → Type 0) (s : State) (p : Pid) (n : ℕ) → AllByRecursion P s.attention → AllByRecursion P (cancel_channel s p n).after.attention
cancel_channel_all P s p n k =
    let a = (each cancel_request (filter (is_request_on p n) s.requests) s).after in
    each_keeps (λ x. AllByRecursion P x.attention) drop_attention (λ t y. all_less P (this_attention y.id) t.attention) (filter (is_attention_on p n) a.attention) a
    (each_keeps (λ x. AllByRecursion P x.attention) cancel_request (λ t r k. rw (cancel_request_attention t r) k) (filter (is_request_on p n) s.requests) s k)

pub cancel_channel_attention : (s : State) (p : Pid) (n : ℕ) → Base s → AllByRecursion (λ a. is_attention_on p n a ≡ false) (cancel_channel s p n).after.attention
cancel_channel_attention s p n h =
    let a = (each cancel_request (filter (is_request_on p n) s.requests) s).after in
    each_drop_clear a p n s.next (filter (is_attention_on p n) a.attention) (all_to_do (is_attention_on p n) (is_attention_on p n) calls (λ x e. (e, eq-eqb x.id.0 x.id.0 refl)) a.attention)
    (each_keeps (λ x. AreOrdered attention_id 0 s.next x.attention) cancel_request (λ t r k. rw (cancel_request_attention t r) k) (filter (is_request_on p n) s.requests) s h.attention)

-- a request on a mailbox is not in service
box_unserved : (served : Bool) (d : Device) → MayBeServed served d → is_on_box d ≡ true → not served ≡ true
box_unserved served d k e = grind arith

pub cancel_channel_clears : (s : State) (p : Pid) (n : ℕ) → Base s → IsFirm (cancel_channel s p n).after → IsClear (cancel_channel s p n).after p n
cancel_channel_clears s p n h i =
    let todo = filter (is_request_on p n) s.requests in
    let a = (each cancel_request todo s).after in
    let t = (cancel_channel s p n).after in
    let Served = λ (r : Request). is_waiting p n r ≡ false in
    let covered = all_to_do (is_waiting p n) (is_request_on p n) takes (λ r e. let b = and_parts (not r.served) (is_request_on p n r) e in (b.1, and_from (this_request r.req.id r) (not r.served) (eq-eqb r.req.id.0 r.req.id.0 refl) b.0)) s.requests in
    let served = each_keeps (λ x. AllByRecursion Served x.requests) drop_attention (λ x y k. k) (filter (is_attention_on p n) a.attention) a (each_cancel_served s p n s.next todo covered h.requests) in
    record {
      requests = all_weaker (λ r. RequestStands (ground t) r × Served r) (λ r. (is_on_box r.req.device && is_request_on p n r) ≡ false)
          (λ r k. false_from_ne_true _
          (λ e.
          let both = and_parts (is_on_box r.req.device) (is_request_on p n r) e in
          both_ways (not r.served && is_request_on p n r) k.1 (and_from (not r.served) (is_request_on p n r) (box_unserved r.served r.req.device k.0.served both.0) both.1))) t.requests
          (all_both (RequestStands (ground t)) Served t.requests i.requests served);
      attention = cancel_channel_attention s p n h;
    }

-- Timers.

timers_less : (s : State) (x y : Timer) → timer_id x + 1 ≤ timer_id y → HasTimer s y → find (this_timer y.id) (less (this_timer x.id) s.timers) ≡ Some y
timers_less s x y h e = find_less (this_timer x.id) (this_timer y.id) s.timers y (λ z. other_id z.id.0 x.id.0 y.id.0 (λ same. omega arith)) e

pub drop_timers_moves : {refs : Bool} (s : State) (passes : Timer → Bool) → Base s → PartBy refs s (drop_timers passes s)
drop_timers_moves s passes h =
    each_moves timer_id drop_timer HasTimer (λ t x k has. end_timer t x has) (λ t x y hx l e. timers_less t x y l e) 0 s.next (filter passes s.timers) s
    (ordered_filter timer_id passes 0 s.next s.timers h.timers) (all_filter (HasTimer s) passes s.timers (timers_found s h)) h

tag_mode : (mode : Mode) (o : Option Entry) → mode_of_ast mode o ≡ option_map (λ t. mode) o
tag_mode mode o = grind arith

flag_made : (s : State) (p : Pid) (c : Cell) → IsProcess s p → IsProcess (flag_part s c false).after p
flag_made s p c m = grind (arith, length-set {A = Process})

pub setimr_moves : {refs : Bool} (s : State) (p : Pid) (efn delta : ℕ) (tag : Option Entry) (reqid : ℕ) → IsProcess s p → (refs ≡ true → IfSome tag (IsRoutineOf (ground s) p)) → OutcomeBy refs s (setimr s p efn delta tag reqid)
setimr_moves {refs} s p efn delta tag reqid m is =
    at_flag_moves s p efn (refused s) (setimr_at s p efn delta tag reqid) m (λ c. none s None) (λ c k. either_by (λ (o : Outcome Cond). OutcomeBy refs s o) (exceeds s p (timer_need (is_some tag))) _ _ (λ t. none s None) (λ f. set_moves c k f))
  where
    set_moves : (c : Cell) → IsCellMade s c → exceeds s p (timer_need (is_some tag)) ≡ false → PartBy refs s (timer_set s p efn delta tag reqid c)
    set_moves c k f =
        let a = (flag_part s c false).after in
        let t = new_timer a p efn delta tag reqid in
        let new : IsNewTimer a p t = record { made = flag_made s p c m; id = refl; owner = refl; alarm = tt; room = room_as s a p (timer_need (is_some tag)) (cell_charged_as s p c false) f } in
        both s a _ None None None (effect.Flag c false ∷ []) _ (flag s None c false k tt tt) (open_timer a p (mode_of_ast (current a p) tag) t efn reqid (current a p) tag new refl (tag_mode (current a p) tag) (λ e h. record { made = new.made; alarm = routine_seated s a p tag (cell_seated s p c false) (is e) }))

pub scheduled_moves : {refs : Bool} (s : State) (p : Pid) (delta repeat : ℕ) (q : Pid) → IsProcess s p → IsProcess s q → OutcomeBy refs s (scheduled s p delta repeat q)
scheduled_moves {refs} s p delta repeat q m k =
    let t = new_wake s p q delta repeat in
    either_by (λ (o : Outcome Cond). OutcomeBy refs s o) (exceeds s p (ast_need true)) _ _ (λ y. none s None) (λ f. open_wake s p repeat t q (record { made = m; id = refl; owner = refl; alarm = k; room = f }) refl)

que_timer_moves : {refs : Bool} (s : State) (t : Timer) (mode : Mode) (o : Option Entry) → IsProcess s t.p → MovesBy refs s (passed 3 (option_map (fired_by t mode) o)) (que_timer s t mode o).effects (que_timer s t mode o).after None
que_timer_moves s t mode None m = none s None
que_timer_moves s t mode (Some tag) m = que s t.p (charged_ast t.id mode tag) 3 m

fired_at : (t : Timer) (mode : Mode) (o : Option Entry) → IsAt 2 (option_map (fired_by t mode) o)
fired_at t mode o = grind arith

pub woken : {refs : Bool} (s : State) (p : Pid) (on : Bool) → IsSilent refs s p (with_wake on)
woken s p on = record { decl = refl; enables = refl; asts = refl; channels = refl; handlers = refl; cluster_0 = refl; cluster_1 = refl; statuses = refl; tame = tamely s p (with_wake on) (with_wake_quiet on (process_at s p)) }

fired_moves : {refs : Bool} (s : State) (t : Timer) (a : Alarm) → t.what ≡ a → Base s → HasTimer s t → PartBy refs s (fired s t a)
fired_moves {refs} s t (OfTimer efn reqid mode tag) e h has =
    let made = (all_find (λ (x : Timer). IsProcess s x.p × IsAlarmMade s x.what) (this_timer t.id) s.timers t h.timer_owners has).0 in
    let here : Here s t.p = record { base = h; made = made } in
    let one = Rattle.vx_record.specs.Timers.fire_timer s t in
    let l = option_map (fired_by t mode) tag in
    let f = λ (x : State). flag_where_named x (cell x t.p efn) true in
    let two = and_then one f in
    let first : MovesBy refs s None one.effects one.after l = subst (λ (w : Alarm). MovesBy refs s None one.effects one.after (loosed_timer t w)) e (timer_fires s t (has, rw e refl) (subst IsOfTimer (sym e) tt)) in
    let l3 = passed 3 l in
    let second : MovesBy refs s None two.effects two.after l3 = part_then s t.p None l l3 one f here first (λ k. named_flag one.after l (cell one.after t.p efn) true (cell_made one.after t.p efn k.made) (fired_at t mode tag) (set_where l)) in
    part_then s t.p None l3 None two (λ b. que_timer b t mode tag) here second (λ k. que_timer_moves two.after t mode tag k.made)
fired_moves s t (OfWake target repeat) e h has =
    let a = after_wake s t repeat in
    both s a (change a target (with_wake true)) None None None (effect.Fire t.id ∷ []) [] (wake_fires s t target repeat has e) (quiet a None target (with_wake true) (woken a target true))

fired_timers : (s : State) (t : Timer) (efn reqid : ℕ) (mode : Mode) (tag : Option Entry) → (fired s t (OfTimer efn reqid mode tag)).after.timers ≡ less (this_timer t.id) s.timers
fired_timers s t efn reqid mode tag = grind arith

still_timed : (s : State) (x : Timer) (a : Alarm) (y : Timer) → timer_id x + 1 ≤ timer_id y → HasTimer s y → HasTimer (fired s x a).after y
still_timed s x (OfTimer efn reqid mode tag) y h e = rw (fired_timers s x efn reqid mode tag) (timers_less s x y h e)
still_timed s x (OfWake target repeat) y h e = grind (arith, other_id, either, timers_less, find_amend)

pub tick_moves : {refs : Bool} (s : State) → Base s → PartBy refs s (tick s)
tick_moves {refs} s h =
    let a = at_time s (next_time s) in
    let first : MovesBy refs s None [] a None = time s None (next_time s) in
    let k = (moves_keep s None [] a None first h).base in
    let todo = filter (is_due (next_time s)) s.timers in
    let second : PartBy refs a (each fire todo a) =
    each_moves timer_id fire HasTimer (λ t x. fired_moves t x x.what refl) (λ t x y hx l e. still_timed t x x.what y l e) 0 s.next todo a
    (ordered_filter timer_id (is_due (next_time s)) 0 s.next s.timers h.timers) (all_filter (HasTimer a) (is_due (next_time s)) s.timers (timers_found s h)) k
    in
    both s a (each fire todo a).after None None None [] (each fire todo a).effects first second
