-- References stand after channels are assigned and freed, and mailboxes come and go.
use Rattle.std.proofs.Common.{◌≡◌, ◌≢◌, ℕ, zero, suc, ◌+◌, ◌-◌, ◌<◌, ◌≤◌, List, [], ◌∷◌, Bool, true, false, ◌==◌, ◌&&◌, nat_le, length, Option, Some, None, IfSome, is_some, get_or, refl, sym, ap, ◌∙◌, arith, inl, inr, get_or-set_same, get_or-set_other, subst}
use Rattle.std.proofs.Math.ListN.{length-set}
use Rattle.std.proofs.lemmas.Bool.{leb-true, and_parts, and_from, eq-eqb, eqb-false, cases_eq}
use Rattle.std.proofs.lemmas.List.Quantifiers.{position-Some}
use Rattle.std.specs.List.{AllByRecursion}
use Rattle.vx_base.specs.Channels.{is_channel_number, channel_at, free_from}
use Rattle.vx_record.specs.Types.{BoxNo, Channel, Device, Mailbox, Mode, Pid}
use Rattle.vx_base.specs.declared.request.Device.TheVariants as device
use Rattle.vx_record.specs.State.{Process, State, IsProcess, process_at, change, with_box, nobody, no_unit_decl}
use Rattle.vx_record.specs.Charges.{is_same}
use Rattle.vx_record.specs.Mailboxes.{is_box}
use Rattle.vx_record.specs.Cancel.{is_request_on, is_attention_on}
use Rattle.vx_record.specs.Channels.{is_unit_of, is_box_of, box_number, unit_named, box_named, unit_or_box, with_channel, assigned, is_channel_to, has_channel_to, is_assigned}
use Rattle.vx_record.specs.Sound.{ground, BoxStands, DeviceStands, ChannelStands, HasChannel, IsRooted, RequestStands, is_drained, AttentionStands, ProcessStands}
use Rattle.vx_record.proofs.Firm.{IsFirm}
use Rattle.vx_record.proofs.Lists.{all_weaker, all_both, all_set, all_at, all_get, none_passes}
use Rattle.vx_record.proofs.Ground.{Base, request_moves, attention_moves, rebuilt, process_moves, Still, change_still, at_set, change_base}

-- The least free number.

pub free_row : (k n : ℕ) (rows : List (Option Channel)) → free_from k rows ≡ Some n → (k ≤ n) × (get_or rows (n - k) None ≡ None)
free_row k n [] e = cc
free_row k n (None ∷ rows) e = let same : k ≡ n = cc in let place : n - k ≡ zero = omega arith in (omega arith, rw place refl)
free_row k n (Some row ∷ rows) e =
    let rest = free_row (k + 1) n rows e in
    let place : n - k ≡ suc (n - (k + 1)) = omega (arith, rest.0) in
    (omega (arith, rest.0), rw place rest.1)

-- Assigning.

pub assigned_still : (s : State) (p : Pid) (d : Device) (mode : Mode) (n : ℕ) → channel_at (process_at s p).channels n ≡ None → DeviceStands (ground s) d → IsFirm s → Still s (assigned s p d mode n)
assigned_still s p d mode n free k h =
    let new : Channel = record { device = d; mode = mode } in
    let x = process_at s p in
    change_still s p (with_channel n (Some new)) (record { decl = refl; channel = λ m ch e. at_set (λ (a b : Option Channel). a ≡ Some ch → b ≡ Some ch) (λ a k. k) x.channels (n - 1) (m - 1) (Some new) None (λ k. cc) e; going = λ m e. e })
    (λ f. search (length-set x.channels (n - 1) (Some new) ∙ f.numbers, all_set (ChannelStands (ground s)) x.channels (n - 1) (Some new) None (λ u. k) f.channels)) h

pub is_some_box : (name : List ℕ) (o : Option Mailbox) → is_box_of name o ≡ true → is_some o ≡ true
is_some_box name None e = cc
is_some_box name (Some box) e = refl

-- a device that is found by its name stands
pub named_stands : (s : State) (name : List ℕ) (u b : Option ℕ) → unit_named s name ≡ u → box_named s name ≡ b → IsFirm s → IfSome (unit_or_box u b) (DeviceStands (ground s))
named_stands s name (Some u) b e f h = let at = position-Some (is_unit_of name) s.system.units u no_unit_decl e in omega (arith, at.0, h.units)
named_stands s name None (Some b) e f h = is_some_box name _ (position-Some (is_box_of name) s.boxes b None f).1
named_stands s name None None e f h = tt

-- Mailboxes.

pub made_there : (s : State) (b : ℕ) (box : Mailbox) → b < length s.boxes → BoxStands (ground (with_box s (box_number b) (Some box))) (box_number b)
made_there s b box k = ap is_some (get_or-set_same s.boxes b (Some box) None k)

-- A channel goes: nothing may hang on it.

abbrev pub is_on_box : Device → Bool
is_on_box (device.Unit u) = false
is_on_box (device.Mailbox b) = true

-- no request on a mailbox and no attention entry is on the channel
pub record IsClear (s : State) (p : Pid) (n : ℕ) : Type 0 where
  pub requests : AllByRecursion (λ r. (is_on_box r.req.device && is_request_on p n r) ≡ false) s.requests
  pub attention : AllByRecursion (λ a. is_attention_on p n a ≡ false) s.attention

number_above : (n : ℕ) → is_channel_number n ≡ true → 1 ≤ n
number_above n e = leb-true 1 n (and_parts (nat_le 1 n) (nat_le n 64) e).0

-- a channel stays if it is not the one that goes
channel_stays : (s : State) (p q : Pid) (n m : ℕ) (b : BoxNo) (mode : Mode) → IsProcess s p → IsProcess s q → is_channel_number n ≡ true → (is_same q p && (m == n)) ≡ false → HasChannel (ground s) q m b mode → HasChannel (ground (change s p (with_channel n None))) q m b mode
channel_stays s p q n m b mode made also number other c =
    let ch : Channel = record { device = device.Mailbox b; mode = mode } in
    let low = number_above n number in
    let high = number_above m c.number in
    let f = with_channel n None in
    record {
      number = c.number;
      row = elim (cases_eq m n) [
        | inl same ↦
            let apart : q.0 - 1 ≢ p.0 - 1 = λ e. let yes : (is_same q p && (m == n)) ≡ true = and_from (is_same q p) (m == n) (eq-eqb q.0 p.0 (omega (arith, made.above, also.above, e))) (eq-eqb m n same) in cc in
            rw (get_or-set_other s.procs (p.0 - 1) (q.0 - 1) (f (process_at s p)) nobody apart) c.row
        | inr ne ↦
            at_set (λ (x y : Process). channel_at x.channels m ≡ Some ch → channel_at y.channels m ≡ Some ch) (λ x e. e) s.procs (p.0 - 1) (q.0 - 1) (f (process_at s p)) nobody
            (λ e. get_or-set_other (process_at s p).channels (n - 1) (m - 1) None None (λ k. ne (omega (arith, low, high, k))) ∙ e) c.row
      ];
    }

rooted_stays : (s : State) (p q : Pid) (n m : ℕ) (mode : Mode) (d : Device) → IsProcess s p → IsProcess s q → is_channel_number n ≡ true → (is_on_box d && (is_same q p && (m == n))) ≡ false → IsRooted (ground s) q m mode d → IsRooted (ground (change s p (with_channel n None))) q m mode d
rooted_stays s p q n m mode (device.Unit u) made also number other c = tt
rooted_stays s p q n m mode (device.Mailbox b) made also number other c = channel_stays s p q n m b mode made also number other c

pub freed_sound : (s : State) (p : Pid) (n : ℕ) → IsProcess s p → is_channel_number n ≡ true → IsClear s p n → IsFirm s → IsFirm (change s p (with_channel n None))
freed_sound s p n made number clear h =
    let f = with_channel n None in
    let x = process_at s p in
    let t = change s p f in
    let g = ground s in
    let to = ground t in
    let base = change_base s p f refl in
    rebuilt s t.procs s.boxes s.units refl base
    (all_weaker (ProcessStands g) (ProcessStands to) (process_moves g to refl refl (λ b e. e)) t.procs
    (all_set (ProcessStands g) s.procs (p.0 - 1) (f x) nobody (λ k. search (length-set x.channels (n - 1) None ∙ k.numbers, all_set (ChannelStands g) x.channels (n - 1) None None (λ u. tt) k.channels)) h.procs))
    (all_weaker (λ r. RequestStands g r × ((is_on_box r.req.device && is_request_on p n r) ≡ false)) (RequestStands to)
    (λ r k. request_moves g to base r (λ e. e) (rooted_stays s p r.req.p n r.req.chan r.req.chan_mode r.req.device made k.0.made number k.1) k.0) s.requests
    (all_both (RequestStands g) (λ r. (is_on_box r.req.device && is_request_on p n r) ≡ false) s.requests h.requests clear.requests))
    (all_weaker (λ a. AttentionStands g a × (is_attention_on p n a ≡ false)) (AttentionStands to)
    (λ a k. attention_moves g to base a k.0 k.0.stands (channel_stays s p a.p n a.chan a.box k.0.channel_mode made k.0.made number k.1 k.0.channel)
    (at_set (λ (x y : Process). is_drained x.phase k.0.channel_mode ≡ false → is_drained y.phase k.0.channel_mode ≡ false) (λ x e. e) s.procs (p.0 - 1) (a.p.0 - 1) (f x) nobody (λ e. e) k.0.going)) s.attention
    (all_both (AttentionStands g) (λ a. is_attention_on p n a ≡ false) s.attention h.attention clear.attention)) h

-- A mailbox goes that no channel is to.

no_channel_to : (s : State) (b : BoxNo) (p : Pid) (n : ℕ) (c : BoxNo) (mode : Mode) → is_assigned s b ≡ false → IsProcess s p → HasChannel (ground s) p n c mode → b.0 ≢ c.0
no_channel_to s b p n c mode none m k same =
    let pr : has_channel_to b (process_at s p) ≡ false = all_at (λ x. has_channel_to b x ≡ false) s.procs (p.0 - 1) nobody (none_passes (has_channel_to b) s.procs none) (omega (arith, m.above, m.within)) in
    let row : is_channel_to b (channel_at (process_at s p).channels n) ≡ false = all_get (λ x. is_channel_to b x ≡ false) (process_at s p).channels (n - 1) None refl (none_passes (is_channel_to b) (process_at s p).channels pr) in
    let here : is_channel_to b (Some (record { device = device.Mailbox c; mode = mode })) ≡ false = subst (λ (o : Option Channel). is_channel_to b o ≡ false) k.row row in
    let yes : (b.0 == c.0) ≡ true = eq-eqb b.0 c.0 same in
    cc

box_stays : (s : State) (b c : BoxNo) → b.0 ≢ c.0 → BoxStands (ground s) c → BoxStands (ground (with_box s b None)) c
box_stays s b c apart e = ap is_some (get_or-set_other s.boxes b.0 c.0 None None (λ k. apart (sym k))) ∙ e

device_stays : (s : State) (b : BoxNo) (d : Device) → is_box b d ≡ false → DeviceStands (ground s) d → DeviceStands (ground (with_box s b None)) d
device_stays s b (device.Unit u) other e = e
device_stays s b (device.Mailbox c) other e = box_stays s b c (eqb-false b.0 c.0 other) e

row_stays : (s : State) (b : BoxNo) (o : Option Channel) → is_channel_to b o ≡ false → ChannelStands (ground s) o → ChannelStands (ground (with_box s b None)) o
row_stays s b None other e = tt
row_stays s b (Some ch) other e = device_stays s b ch.device other e

device_rooted_stays : (s : State) (b : BoxNo) (p : Pid) (n : ℕ) (mode : Mode) (d : Device) → is_assigned s b ≡ false → IsProcess s p → IsRooted (ground s) p n mode d → DeviceStands (ground s) d → DeviceStands (ground (with_box s b None)) d
device_rooted_stays s b p n mode (device.Unit u) none m k e = e
device_rooted_stays s b p n mode (device.Mailbox c) none m k e = box_stays s b c (no_channel_to s b p n c mode none m k) e

rooted_same : (s : State) (b : BoxNo) (p : Pid) (n : ℕ) (mode : Mode) (d : Device) → IsRooted (ground s) p n mode d → IsRooted (ground (with_box s b None)) p n mode d
rooted_same s b p n mode (device.Unit u) k = tt
rooted_same s b p n mode (device.Mailbox c) k = record { number = k.number; row = k.row }

pub gone_sound : (s : State) (b : BoxNo) → is_assigned s b ≡ false → IsFirm s → IsFirm (with_box s b None)
gone_sound s b none h =
    let t = with_box s b None in
    let g = ground s in
    let to = ground t in
    let base : Base g to = record { system = refl; more = omega arith; decl = λ q m. refl; units = refl } in
    rebuilt s s.procs t.boxes s.units refl base
    (all_weaker (λ x. ProcessStands g x × (has_channel_to b x ≡ false)) (ProcessStands to)
    (λ x k. search (all_weaker (λ o. ChannelStands g o × (is_channel_to b o ≡ false)) (ChannelStands to) (λ o e. row_stays s b o e.1 e.0) x.channels
    (all_both (ChannelStands g) (λ o. is_channel_to b o ≡ false) x.channels k.0.channels (none_passes (is_channel_to b) x.channels k.1)))) s.procs
    (all_both (ProcessStands g) (λ x. has_channel_to b x ≡ false) s.procs h.procs (none_passes (has_channel_to b) s.procs none)))
    (all_weaker (RequestStands g) (RequestStands to)
    (λ r k. request_moves g to base r (device_rooted_stays s b r.req.p r.req.chan r.req.chan_mode r.req.device none k.made k.rooted) (rooted_same s b r.req.p r.req.chan r.req.chan_mode r.req.device) k) s.requests h.requests)
    (all_weaker (AttentionStands g) (AttentionStands to)
    (λ a k. attention_moves g to base a k (box_stays s b a.box (no_channel_to s b a.p a.chan a.box k.channel_mode none k.made k.channel) k.stands) (record { number = k.channel.number; row = k.channel.row }) k.going) s.attention h.attention) h
