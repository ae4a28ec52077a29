-- References stand after the services on requests, and after what units do.
use Rattle.std.proofs.Common.{◌≡◌, ℕ, ◌-◌, List, [], ◌∷◌, Bool, true, false, Option, Some, None, Ok, IfSome, refl, ap, arith, subst, ◌∙◌, ◌==◌}
use Rattle.std.proofs.Math.ListN.{length-set}
use Rattle.std.proofs.lemmas.Bool.{eqb-true}
use Rattle.std.specs.List.{AllByRecursion, find}
use Rattle.vx_base.specs.Channels.{is_channel_number, channel_at}
use Rattle.vx_base.specs.Lists.{amend}
use Rattle.vx_record.specs.Types.{Attention, Cell, Channel, Device, DeviceUnit, Entry, Mode, Pid, Promised, Request, UnitNo}
use Rattle.vx_base.specs.Queues.{is_unit, waits_for}
use Rattle.vx_base.specs.declared.request.Device.TheVariants as device
use Rattle.vx_record.specs.State.{State, IsProcess, process_at, next_id, past_id}
use Rattle.vx_record.specs.Flags.{cell}
use Rattle.vx_record.specs.Finish.{this_request}
use Rattle.vx_record.specs.Channels.{usable_in, channel_test}
use Rattle.vx_record.specs.Requests.{with_attention, Asked, is_bad, device_test, on_cell, request_test, promised, with_request, taken_up, begun, with_unit}
use Rattle.vx_record.specs.Sound.{Ground, ground, process_of, IsRoutineOf, DeviceStands, ChannelStands, IsRooted, MayBeServed, RequestStands, AttentionStands, AreOrdered, request_id}
use Rattle.vx_record.proofs.Finds.{all_found}
use Rattle.vx_record.proofs.Firm.{IsFirm}
use Rattle.vx_record.proofs.Lists.{either_by, all_weaker, all_append, all_find, ordered_more, ordered_amend, all_get}
use Rattle.vx_record.proofs.Ground.{Keeps, process_moves, Still, still_then, moved, requests_still, attention_still, past_id_still}
use Rattle.vx_record.proofs.Changes.{firm_at}
use Rattle.vx_base.proofs.First.{found_passes}

-- A channel that passed the test.

usable_row : (mode : Mode) (o : Option Channel) (ch : Channel) → usable_in mode o ≡ Ok ch → o ≡ Some ch
usable_row mode o ch e = grind arith

pub tested_channel : (s : State) (p : Pid) (n : ℕ) (ch : Channel) → channel_test s p n ≡ Ok ch → (is_channel_number n ≡ true) × (channel_at (process_at s p).channels n ≡ Some ch)
tested_channel s p n ch e = grind (arith, usable_row)

-- an assigned channel's device stands
pub device_stands : (s : State) (p : Pid) (n : ℕ) (ch : Channel) → IsProcess s p → channel_at (process_at s p).channels n ≡ Some ch → IsFirm s → DeviceStands (ground s) ch.device
device_stands s p n ch m e h = subst (ChannelStands (ground s)) e (all_get (ChannelStands (ground s)) (process_at s p).channels (n - 1) None tt (firm_at s p h m).channels)

-- What stands when a request is accepted.

pub rooted_new : (g : Ground) (p : Pid) (n : ℕ) (mode : Mode) (d : Device) → is_channel_number n ≡ true → channel_at (process_of g p).channels n ≡ Some (record { device = d; mode = mode }) → IsRooted g p n mode d
rooted_new g p n mode (device.Unit u) a e = tt
rooted_new g p n mode (device.Mailbox b) a e = record { number = a; row = e }

pub unserved : (d : Device) → MayBeServed false d
unserved (device.Unit u) = tt
unserved (device.Mailbox b) = refl

pub promised_stands : (g : Ground) (p : Pid) (mode : Mode) (o : Option Entry) → IfSome o (IsRoutineOf g p) → IfSome (promised mode o) (λ (ast : Promised). IsRoutineOf g p ast.tag)
promised_stands g p mode None h = tt
promised_stands g p mode (Some tag) h = h

pub with_request_still : (s : State) (r : Request) → r.req.id ≡ next_id s → RequestStands (ground s) r → IsFirm s → Still s (with_request (past_id s) r)
with_request_still s r e k h = grind (arith, still_then, past_id_still, requests_still, all_append, ordered_more)

-- Attention.

pub with_attention_still : (s : State) (a : Attention) → a.id ≡ next_id s → AttentionStands (ground s) a → IsFirm s → Still s (with_attention (past_id s) a)
with_attention_still s a e k h = grind (arith, still_then, past_id_still, attention_still, all_append, ordered_more)

-- The tests.

pub device_test_row : (s : State) (p : Pid) (q : Asked) (c : Cell) (ch : Channel) (to : Cell × Channel) → device_test s p q c ch ≡ Ok to → ch ≡ to.1
device_test_row s p q c ch to e = grind arith

pub on_cell_row : (s : State) (p : Pid) (q : Asked) (o : Option Cell) (to : Cell × Channel) → on_cell s p q o ≡ Ok to → channel_test s p q.chan ≡ Ok to.1
on_cell_row s p q o to e = let row = λ (c : Cell) (ch : Channel). device_test_row s p q c ch to in grind arith

pub request_test_row : (s : State) (p : Pid) (q : Asked) (to : Cell × Channel) → request_test s p q ≡ Ok to → (is_bad q ≡ false) × (channel_test s p q.chan ≡ Ok to.1)
request_test_row s p q to e = let row = on_cell_row s p q (cell s p q.efn) to in grind arith

-- Units.

unit_keeps : (s : State) (u : UnitNo) (unit : DeviceUnit) → Keeps (ground s) (ground (with_unit s u unit))
unit_keeps s u unit = search (arith, length-set s.units u.0 unit)

pub with_unit_still : (s : State) (u : UnitNo) (unit : DeviceUnit) → IsFirm s → Still s (with_unit s u unit)
with_unit_still s u unit h = grind (arith, unit_keeps, moved, all_weaker, process_moves)

-- all that has the id of what was found passes too
same_id : (w : Request → Bool) (low high : ℕ) (xs : List Request) (r : Request) → AreOrdered request_id low high xs → find w xs ≡ Some r → AllByRecursion (λ x. request_id x ≡ request_id r → w x ≡ true) xs
same_id w low high xs r h e =
    let P = λ (y : Request). find (λ z. request_id z == request_id y) xs ≡ Some y in
    let found = all_found request_id low high xs h in
    let here : P r = all_find P w xs r found e in
    let alike = λ (x : Request) (k : P x) (same : request_id x ≡ request_id r). let there : find (λ z. request_id z == request_id r) xs ≡ Some x = subst (λ (n : ℕ). find (λ z. request_id z == n) xs ≡ Some x) same k in let is : x ≡ r = cc in ap w is ∙ found_passes w xs r e in
    all_weaker P (λ x. request_id x ≡ request_id r → w x ≡ true) alike xs found

amend_by : {A : Type 0} (P : A → Type 0) (p : A → Bool) (f : A → A) (xs : List A) → AllByRecursion P xs → AllByRecursion (λ x. p x ≡ true → P x → P (f x)) xs → AllByRecursion P (amend p f xs)
amend_by P p f [] h k = tt
amend_by P p f (x ∷ xs) h k = either_by (AllByRecursion P) (p x) (f x ∷ xs) (x ∷ amend p f xs) (λ e. (k.0 e h.0, h.1)) (λ e. (h.0, amend_by P p f xs h.1 k.1))

served_unit : (u : UnitNo) (d : Device) → is_unit u d ≡ true → MayBeServed true d
served_unit u (device.Unit v) e = tt
served_unit u (device.Mailbox b) e = cc

taken_up_stands : (g : Ground) (u : UnitNo) (r : Request) → waits_for u r ≡ true → RequestStands g r → RequestStands g (taken_up r)
taken_up_stands g u r e k = grind arith

pub begun_sound : (s : State) (u : UnitNo) (r : Request) → find (waits_for u) s.requests ≡ Some r → IsFirm s → IsFirm (begun s r)
begun_sound s u r e h =
    let P = RequestStands (ground s) in
    (requests_still s (amend (this_request r.req.id) taken_up s.requests)
    (amend_by P (this_request r.req.id) taken_up s.requests h.requests
    (all_weaker (λ x. request_id x ≡ request_id r → waits_for u x ≡ true) (λ x. this_request r.req.id x ≡ true → P x → P (taken_up x)) (λ x f t k. taken_up_stands (ground s) u x (f (eqb-true _ _ t)) k) s.requests
    (same_id (waits_for u) 0 s.next s.requests r h.request_ids e)))
    (ordered_amend request_id (this_request r.req.id) taken_up (λ x. refl) 0 s.next s.requests h.request_ids) h).sound
