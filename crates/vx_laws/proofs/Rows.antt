-- Channels and mailboxes come and go: what agrees goes on.
use Rattle.std.proofs.Common.{◌⊎◌, inl, inr, ◌≡◌, ◌≢◌, ℕ, ◌-◌, ◌<◌, ◌≤◌, List, [], ◌∷◌, Bool, true, false, ◌==◌, ◌&&◌, length, Option, Some, None, refl, sym, ap, ◌∙◌, subst, arith, get_or, set, is_some, IsTrue}
use Rattle.std.proofs.lemmas.Bool.{eq-eqb, eqb-true, and_parts, and_from, cases_eq, false_from_ne_true, both_ways}
use Rattle.std.proofs.lemmas.List.{get_or-set_other}
use Rattle.std.proofs.lemmas.Slice.Eq.{bytes_eq-Decides}
use Rattle.std.specs.List.{AllByRecursion, list_any}
use Rattle.std.specs.Prelude.{bytes_eq}
use Rattle.vx_base.specs.Channels.{channel_at}
use Rattle.vx_record.specs.Types.{BoxNo, Channel, Device, Mailbox, Mode, Pid, Request, Target}
use Rattle.vx_base.specs.declared.effects.Effect.TheVariants as effect
use Rattle.vx_base.specs.declared.request.Device.TheVariants as device
use Rattle.vx_record.proofs.Ground.{at_set}
use Rattle.vx_record.proofs.Lists.{either_by, all_weaker, all_both, all_get, none_passes}
use Rattle.vx_record.proofs.SoundChannels.{is_on_box}
use Rattle.vx_record.specs.Cancel.{is_request_on}
use Rattle.vx_record.specs.Channels.{with_channel, is_box_of, is_unit_of, is_channel_to, has_channel_to, is_assigned}
use Rattle.vx_record.specs.Charges.{is_same}
use Rattle.vx_record.specs.Mailboxes.{is_box, or_no_box}
use Rattle.vx_record.specs.Sound.{AreOrdered, request_id}
use Rattle.vx_record.specs.State.{Process, State, nobody, process_at, change, box_at, with_box}
use Rattle.vx_laws.proofs.Aside.{row}
use Rattle.vx_laws.proofs.Boxed.{any_index, IsThere, IsOn, Rooted, BoxIs, Boxed, Carried, rows_on, rooted_on, all_rooted, box_on, there_as, title_as, some_within, any_kept, was_there, put_there, Origin}
use Rattle.vx_laws.specs.Agrees.{box_stands, device_title}
use Rattle.vx_laws.specs.Boxes.{stored, Stored}
use Rattle.vx_laws.specs.Items.{Item, Did, latest_call}
use Rattle.vx_laws.specs.Lives.{device_name, named_in}
use Rattle.std.proofs.lemmas.List.Folds.{list_any_at}
use Rattle.std.specs.Option.{option_or}

-- One row of one process is written.

pub row_elsewhere : (s : State) (p q : Pid) (n m : ℕ) (ch : Option Channel) → 1 ≤ p.0 → 1 ≤ q.0 → 1 ≤ n → 1 ≤ m → (is_same q p && (m == n)) ≡ false → row (change s p (with_channel n ch)) q m ≡ row s q m
row_elsewhere s p q n m ch a b c d other =
    let f = with_channel n ch in
    elim (cases_eq m n) [
      | inl same ↦
          let apart : q.0 - 1 ≢ p.0 - 1 = λ e. let yes : (is_same q p && (m == n)) ≡ true = and_from (is_same q p) (m == n) (eq-eqb q.0 p.0 (omega (arith, a, b, e))) (eq-eqb m n same) in both_ways _ other yes in
          ap (λ (x : Process). channel_at x.channels m) (get_or-set_other s.procs (p.0 - 1) (q.0 - 1) (f (process_at s p)) nobody apart)
      | inr ne ↦
          let apart : m - 1 ≢ n - 1 = λ e. ne (omega (arith, c, d, e)) in
          at_set (λ (x y : Process). channel_at y.channels m ≡ channel_at x.channels m) (λ x. refl) s.procs (p.0 - 1) (q.0 - 1) (f (process_at s p)) nobody
          (get_or-set_other (process_at s p).channels (n - 1) (m - 1) ch None apart)
    ]

pub row_written : (s : State) (p q : Pid) (n m : ℕ) (ch : Option Channel) (c : Channel) → row (change s p (with_channel n ch)) q m ≡ Some c → (ch ≡ Some c) ⊎ (row s q m ≡ Some c)
row_written s p q n m ch c e =
    at_set (λ (x y : Process). channel_at y.channels m ≡ Some c → (ch ≡ Some c) ⊎ (channel_at x.channels m ≡ Some c)) (λ x k. inr k) s.procs (p.0 - 1) (q.0 - 1) (with_channel n ch (process_at s p)) nobody
    (at_set (λ (x y : Option Channel). y ≡ Some c → (ch ≡ Some c) ⊎ (x ≡ Some c)) (λ x k. inr k) (process_at s p).channels (n - 1) (m - 1) ch None (λ k. inl k)) e

-- A channel is freed on which there is no request to a mailbox.

abbrev pub IsClear : State → Pid → ℕ → Type 0
IsClear s p n = AllByRecursion (λ r. (is_on_box r.req.device && is_request_on p n r) ≡ false) s.requests

pub freed_boxed : (s : State) (p : Pid) (n : ℕ) (past : List Item) → 1 ≤ p.0 → 1 ≤ n → IsClear s p n → Boxed s past → Boxed (change s p (with_channel n None)) past
freed_boxed s p n past above one clear h =
    let t = change s p (with_channel n None) in
    let c : Carried s t past past = record { system = refl; there = there_as s t refl refl; titles = λ d k. title_as s t refl refl d; next = omega arith; origins = λ id k. refl; devices = λ p n. refl } in
    record {
      counted = h.counted;
      ordered = h.ordered;
      rows = rows_on s t past past c (λ q m ch up low e. elim (row_written s p q n m None ch e) [ inl k ↦ absurd (let never : None ≡ Some ch = k in cc) | inr k ↦ k ]) h.rows;
      requests = all_weaker (λ (r : Request). Rooted s past r × ((is_on_box r.req.device && is_request_on p n r) ≡ false)) (Rooted t past)
          (λ r k. rooted_on s t past past c r (on_stays r.req.p r.req.chan r.req.chan_mode r.req.device k.0.above k.0.numbered k.1 k.0.on) k.0) s.requests
          (all_both (Rooted s past) (λ (r : Request). (is_on_box r.req.device && is_request_on p n r) ≡ false) s.requests h.requests clear);
      boxes = λ b box e. let k = h.boxes b box e in box_on s t past past b box c refl k.alone k;
      others = h.others;
      stands = h.stands;
    }
  where
    on_stays : (q : Pid) (m : ℕ) (mode : Mode) (d : Device) → 1 ≤ q.0 → 1 ≤ m → (is_on_box d && (is_same q p && (m == n))) ≡ false → IsOn s q m mode d → IsOn (change s p (with_channel n None)) q m mode d
    on_stays q m mode (device.Unit u) a b other k = tt
    on_stays q m mode (device.Mailbox b) a d other k = row_elsewhere s p q n m None above a one d other ∙ k

-- A mailbox goes to which there is no channel.

no_row_to : (s : State) (b : BoxNo) (p : Pid) (n : ℕ) → is_assigned s b ≡ false → is_channel_to b (row s p n) ≡ false
no_row_to s b p n none =
    let pr : has_channel_to b (process_at s p) ≡ false = all_get (λ (x : Process). has_channel_to b x ≡ false) s.procs (p.0 - 1) nobody refl (none_passes (has_channel_to b) s.procs none) in
    all_get (λ (x : Option Channel). is_channel_to b x ≡ false) (process_at s p).channels (n - 1) None refl (none_passes (is_channel_to b) (process_at s p).channels pr)

gone_there : (s : State) (b : BoxNo) (d : Device) → is_box b d ≡ false → IsThere s d → IsThere (with_box s b None) d
gone_there s b (device.Unit u) other k = k
gone_there s b (device.Mailbox c) other k = subst (λ (o : Option Mailbox). IsTrue (is_some o)) (sym (get_or-set_other s.boxes b.0 c.0 None None (λ e. both_ways _ other (eq-eqb b.0 c.0 (sym e))))) k

gone_title : (s : State) (b : BoxNo) (d : Device) → is_box b d ≡ false → device_title (with_box s b None) d ≡ device_title s d
gone_title s b (device.Unit u) other = refl
gone_title s b (device.Mailbox c) other = ap (λ (o : Option Mailbox). (or_no_box o).name) (get_or-set_other s.boxes b.0 c.0 None None (λ e. both_ways _ other (eq-eqb b.0 c.0 (sym e))))

on_other : (s : State) (b : BoxNo) (p : Pid) (n : ℕ) (mode : Mode) (d : Device) → is_assigned s b ≡ false → IsOn s p n mode d → is_box b d ≡ false
on_other s b p n mode (device.Unit u) none k = refl
on_other s b p n mode (device.Mailbox c) none k = subst (λ (o : Option Channel). is_channel_to b o ≡ false) k (no_row_to s b p n none)

on_gone : (s : State) (b : BoxNo) (p : Pid) (n : ℕ) (mode : Mode) (d : Device) → IsOn s p n mode d → IsOn (with_box s b None) p n mode d
on_gone s b p n mode (device.Unit u) k = tt
on_gone s b p n mode (device.Mailbox c) k = k

gone_rooted : (s : State) (b : BoxNo) (past : List Item) (name : List ℕ) → is_assigned s b ≡ false → (r : Request) → Rooted s past r → Rooted (with_box s b None) (Did (effect.Mbx name false) ∷ past) r
gone_rooted s b past name none r k =
    let other = on_other s b r.req.p r.req.chan r.req.chan_mode r.req.device none k.on in
    record {
      from = k.from;
      below = k.below;
      above = k.above;
      numbered = k.numbered;
      there = gone_there s b r.req.device other k.there;
      on = on_gone s b r.req.p r.req.chan r.req.chan_mode r.req.device k.on;
      free = k.free;
      call = k.call;
      is = k.is ∙ ap (λ (x : List ℕ). let o : Origin = record { p = r.req.p; by = Some k.call; device = Some x } in Some o) (sym (gone_title s b r.req.device other));
      func = k.func;
      len = k.len;
    }

pub not_named : (x y : List ℕ) → (x ≡ y → ⊥) → bytes_eq x y ≡ false
not_named x y n = false_from_ne_true _ (λ e. n ((bytes_eq-Decides x y).0 e))

pub gone_boxed : (s : State) (b : BoxNo) (box : Mailbox) (past : List Item) → box_at s b ≡ Some box → is_assigned s b ≡ false → Boxed s past → Boxed (with_box s b None) (Did (effect.Mbx box.name false) ∷ past)
gone_boxed s b box past is none h = record {
  counted = h.counted;
  ordered = h.ordered;
  rows = λ p n ch above one e.
      let k = h.rows p n ch above one e in
      let other : is_box b ch.device ≡ false = subst (λ (o : Option Channel). is_channel_to b o ≡ false) e (no_row_to s b p n none) in
      (gone_there s b ch.device other k.0, k.1 ∙ ap (λ (x : List ℕ). Some x) (sym (gone_title s b ch.device other)));
  requests = all_weaker (Rooted s past) (Rooted (with_box s b None) (Did (effect.Mbx box.name false) ∷ past)) (gone_rooted s b past box.name none) s.requests h.requests;
  boxes = λ c other e. elim (cases_eq c.0 b.0) [ inl same ↦ absurd (let never : None ≡ Some other = sym (put_there s b c None same within) ∙ e in cc) | inr apart ↦ at_other c other apart (was_there s b c None other apart e) ];
  others = λ name e.
      either_by (λ (l : List Stored). l ≡ []) (bytes_eq box.name name) [] (stored past name) (λ t. refl)
      (λ f. h.others name (sym (any_kept (is_box_of name) s.boxes b.0 None None (rw (is, f) refl)) ∙ e));
  stands = λ name.
      either_by (λ (y : Bool). list_any (is_box_of name) (set s.boxes b.0 None) ≡ y) (bytes_eq box.name name) false (box_stands past name)
      (λ t. false_from_ne_true _ (λ e. let at = any_index (is_box_of name) (set s.boxes b.0 None) None e in none_named name t (record { 0 = at.0 }) (box_at (with_box s b None) (record { 0 = at.0 })) refl at.1))
      (λ f. any_kept (is_box_of name) s.boxes b.0 None None (rw (is, f) refl) ∙ h.stands name);
}
  where
    within : b.0 < length s.boxes
    within = some_within s.boxes b.0 box is

    -- no other has its name
    none_named : (name : List ℕ) → bytes_eq box.name name ≡ true → (c : BoxNo) (o : Option Mailbox) → box_at (with_box s b None) c ≡ o → is_box_of name o ≡ true → ⊥
    none_named name t c None e k = absurd (let never : false ≡ true = k in cc)
    none_named name t c (Some other) e k =
        elim (cases_eq c.0 b.0) [
          | inl same ↦ absurd (let never : None ≡ Some other = sym (put_there s b c None same within) ∙ e in cc)
          | inr apart ↦ absurd (apart ((h.boxes b box is).alone c other (was_there s b c None other apart e) ((bytes_eq-Decides other.name name).0 k ∙ sym ((bytes_eq-Decides box.name name).0 t))))
        ]

    at_other : (c : BoxNo) (other : Mailbox) → c.0 ≢ b.0 → box_at s c ≡ Some other → BoxIs (with_box s b None) (Did (effect.Mbx box.name false) ∷ past) c other
    at_other c other apart e =
        let k = h.boxes c other e in
        let differ = not_named box.name other.name (λ same. apart (sym (k.alone b box is same))) in
        record {
          messages = rw differ k.messages;
          ids = k.ids;
          writers = k.writers;
          unit = k.unit;
          alone = λ a o f g. elim (cases_eq a.0 b.0) [ inl x ↦ absurd (let never : None ≡ Some o = sym (put_there s b a None x within) ∙ f in cc) | inr x ↦ k.alone a o (was_there s b a None o x f) g ];
        }

-- A mailbox is made, with a name that is no unit's and no other's.

made_there : (s : State) (b : BoxNo) (box : Mailbox) → b.0 < length s.boxes → (d : Device) → IsThere s d → IsThere (with_box s b (Some box)) d
made_there s b box k (device.Unit u) h = h
made_there s b box k (device.Mailbox c) h = elim (cases_eq c.0 b.0) [ inl same ↦ subst (λ (o : Option Mailbox). IsTrue (is_some o)) (sym (put_there s b c (Some box) same k)) refl | inr apart ↦ subst (λ (o : Option Mailbox). IsTrue (is_some o)) (sym (get_or-set_other s.boxes b.0 c.0 (Some box) None apart)) h ]

made_title : (s : State) (b : BoxNo) (box : Mailbox) → box_at s b ≡ None → (d : Device) → IsThere s d → device_title (with_box s b (Some box)) d ≡ device_title s d
made_title s b box free (device.Unit u) h = refl
made_title s b box free (device.Mailbox c) h =
    elim (cases_eq c.0 b.0) [
      | inl same ↦ absurd (let none : box_at s c ≡ None = ap (λ (i : ℕ). get_or s.boxes i None) same ∙ free in let never : false ≡ true = subst (λ (o : Option Mailbox). IsTrue (is_some o)) none h in cc)
      | inr apart ↦ ap (λ (o : Option Mailbox). (or_no_box o).name) (get_or-set_other s.boxes b.0 c.0 (Some box) None apart)
    ]

pub made_boxed : (s : State) (b : BoxNo) (box : Mailbox) (past : List Item) → box_at s b ≡ None → b.0 < length s.boxes → box.messages ≡ [] → list_any (is_box_of box.name) s.boxes ≡ false → list_any (is_unit_of box.name) s.system.units ≡ false → Boxed s past → Boxed (with_box s b (Some box)) (Did (effect.Mbx box.name true) ∷ past)
made_boxed s b box past free within empty fresh unit h =
    let t = with_box s b (Some box) in
    let after = Did (effect.Mbx box.name true) ∷ past in
    record {
      counted = h.counted;
      ordered = h.ordered;
      rows = rows_on s t past after c (λ p n ch above one e. e) h.rows;
      requests = all_rooted s t past after c (λ p n. refl) s.requests h.requests;
      boxes = λ d other e. elim (cases_eq d.0 b.0) [ inl same ↦ at_here d other same e | inr apart ↦ at_other d other apart (was_there s b d (Some box) other apart e) ];
      others = λ name e.
          let differ : bytes_eq box.name name ≡ false = false_from_ne_true _ (λ yes. both_ways _ e (list_any_at (is_box_of name) t.boxes b.0 None (subst (λ (n : ℕ). b.0 < n) (sym (Rattle.std.proofs.Math.ListN.length-set s.boxes b.0 (Some box))) within) (rw (put_there s b b (Some box) (refl {a = b.0}) within) yes))) in
          rw differ (h.others name (sym (any_kept (is_box_of name) s.boxes b.0 (Some box) None (rw (free, differ) refl)) ∙ e));
      stands = λ name.
          either_by (λ (y : Bool). list_any (is_box_of name) t.boxes ≡ y) (bytes_eq box.name name) true (box_stands past name)
          (λ yes. list_any_at (is_box_of name) t.boxes b.0 None (subst (λ (n : ℕ). b.0 < n) (sym (Rattle.std.proofs.Math.ListN.length-set s.boxes b.0 (Some box))) within) (rw (put_there s b b (Some box) (refl {a = b.0}) within) yes))
          (λ no. any_kept (is_box_of name) s.boxes b.0 (Some box) None (rw (free, no) refl) ∙ h.stands name);
    }
  where
    c : Carried s (with_box s b (Some box)) past (Did (effect.Mbx box.name true) ∷ past)
    c = record { system = refl; there = made_there s b box within; titles = made_title s b box free; next = omega arith; origins = λ id k. refl; devices = λ p n. refl }

    named : (d : BoxNo) (other : Mailbox) → d.0 ≡ b.0 → box_at (with_box s b (Some box)) d ≡ Some other → box ≡ other
    named d other same e = let k : Some box ≡ Some other = sym (put_there s b d (Some box) same within) ∙ e in cc

    -- no other has its name
    other_name : (d : BoxNo) (other : Mailbox) → box_at s d ≡ Some other → other.name ≡ box.name → ⊥
    other_name d other e same = both_ways _ fresh (list_any_at (is_box_of box.name) s.boxes d.0 None (some_within s.boxes d.0 other e) (rw e ((bytes_eq-Decides other.name box.name).1 same)))

    at_here : (d : BoxNo) (other : Mailbox) → d.0 ≡ b.0 → box_at (with_box s b (Some box)) d ≡ Some other → BoxIs (with_box s b (Some box)) (Did (effect.Mbx box.name true) ∷ past) d other
    at_here d other same e = subst (BoxIs (with_box s b (Some box)) (Did (effect.Mbx box.name true) ∷ past) d) (named d other same e) (record {
      messages = rw (empty, (bytes_eq-Decides box.name box.name).1 refl) refl;
      ids = rw empty (omega arith);
      writers = rw empty tt;
      unit = unit;
      alone = λ a o f g. elim (cases_eq a.0 b.0) [ inl x ↦ x ∙ sym same | inr x ↦ absurd (other_name a o (was_there s b a (Some box) o x f) g) ];
    })

    at_other : (d : BoxNo) (other : Mailbox) → d.0 ≢ b.0 → box_at s d ≡ Some other → BoxIs (with_box s b (Some box)) (Did (effect.Mbx box.name true) ∷ past) d other
    at_other d other apart e =
        let k = h.boxes d other e in
        let differ = not_named box.name other.name (λ same. other_name d other e (sym same)) in
        box_on s (with_box s b (Some box)) past (Did (effect.Mbx box.name true) ∷ past) d other c (rw differ refl)
        (λ a o f g. elim (cases_eq a.0 b.0) [ inl x ↦ absurd (other_name d other e (sym g ∙ sym (ap (λ (y : Mailbox). y.name) (named a o x f)))) | inr x ↦ k.alone a o (was_there s b a (Some box) o x f) g ]) k

-- A free number takes a channel, and a variable takes the number.

pub assigned_boxed : (s u : State) (p : Pid) (v : Target) (n : ℕ) (ch : Channel) (past : List Item) → u.system ≡ s.system → u.boxes ≡ s.boxes → u.requests ≡ s.requests → u.next ≡ s.next → ((q : Pid) (m : ℕ) → row u q m ≡ row (change s p (with_channel n (Some ch))) q m) →
    1 ≤ p.0 → 1 ≤ n → row s p n ≡ None → IsThere s ch.device → named_in (latest_call past) ≡ Some (device_title s ch.device) → Boxed s past → Boxed u (Did (effect.Var p v n) ∷ past)
assigned_boxed s u p v n ch past a b c d same above one free there named h = record {
  counted = rw d h.counted;
  ordered = subst (λ (l : List Request). AreOrdered request_id 0 u.next l) (sym c) (rw d h.ordered);
  rows = λ q m x up low e.
      either_by (λ (o : Option (List ℕ)). IsThere u x.device × (o ≡ Some (device_title u x.device))) (is_same p q && (n == m)) (option_or (named_in (latest_call past)) (device_name past q m)) (device_name past q m)
      (λ t. at_it q m x t (sym (same q m) ∙ e)) (λ f. at_other q m x up low f (sym (same q m) ∙ e));
  requests = subst (λ (l : List Request). AllByRecursion (Rooted u (Did (effect.Var p v n) ∷ past)) l) (sym c) (all_weaker (Rooted s past) (Rooted u (Did (effect.Var p v n) ∷ past)) on s.requests h.requests);
  boxes = λ f box e. let was = at f e in let k = h.boxes f box was in record { messages = k.messages; ids = rw d k.ids; writers = k.writers; unit = rw a k.unit; alone = λ g o i j. k.alone g o (at g i) j };
  others = λ name e. h.others name (ap (λ (l : List (Option Mailbox)). list_any (is_box_of name) l) (sym b) ∙ e);
  stands = λ name. ap (λ (l : List (Option Mailbox)). list_any (is_box_of name) l) b ∙ h.stands name;
}
  where
    at : {o : Option Mailbox} (f : BoxNo) → box_at u f ≡ o → box_at s f ≡ o
    at f e = ap (λ (l : List (Option Mailbox)). get_or l f.0 None) (sym b) ∙ e

    at_it : (q : Pid) (m : ℕ) (x : Channel) → (is_same p q && (n == m)) ≡ true → row (change s p (with_channel n (Some ch))) q m ≡ Some x → IsThere u x.device × (option_or (named_in (latest_call past)) (device_name past q m) ≡ Some (device_title u x.device))
    at_it q m x t e =
        let both = and_parts (is_same p q) (n == m) t in
        let pq : p.0 ≡ q.0 = eqb-true p.0 q.0 both.0 in
        let nm : n ≡ m = eqb-true n m both.1 in
        let was : row s q m ≡ None = ap (λ (i : ℕ). channel_at (get_or s.procs (i - 1) nobody).channels m) (sym pq) ∙ (ap (λ (i : ℕ). row s p i) (sym nm) ∙ free) in
        elim (row_written s p q n m (Some ch) x e) [
          | inl k ↦
              let it : ch ≡ x = cc in
              subst (λ (y : Channel). IsThere u y.device × (option_or (named_in (latest_call past)) (device_name past q m) ≡ Some (device_title u y.device))) it
              (there_as s u a b ch.device there, rw named (ap (λ (l : List ℕ). Some l) (sym (title_as s u a b ch.device))))
          | inr k ↦ absurd (let never : None ≡ Some x = sym was ∙ k in cc)
        ]

    at_other : (q : Pid) (m : ℕ) (x : Channel) → 1 ≤ q.0 → 1 ≤ m → (is_same p q && (n == m)) ≡ false → row (change s p (with_channel n (Some ch))) q m ≡ Some x → IsThere u x.device × (device_name past q m ≡ Some (device_title u x.device))
    at_other q m x up low f e =
        let turned : (is_same q p && (m == n)) ≡ false = false_from_ne_true _ (λ yes. let both = and_parts (is_same q p) (m == n) yes in both_ways _ f (and_from (is_same p q) (n == m) (eq-eqb p.0 q.0 (sym (eqb-true q.0 p.0 both.0))) (eq-eqb n m (sym (eqb-true m n both.1))))) in
        let k = h.rows q m x up low (sym (row_elsewhere s p q n m (Some ch) above up one low turned) ∙ e) in
        (there_as s u a b x.device k.0, k.1 ∙ ap (λ (l : List ℕ). Some l) (sym (title_as s u a b x.device)))

    on_row : (q : Pid) (m : ℕ) (mode : Mode) (e : Device) → IsOn s q m mode e → IsOn u q m mode e
    on_row q m mode (device.Unit w) k = tt
    on_row q m mode (device.Mailbox w) k =
        let it : Channel = record { device = device.Mailbox w; mode = mode } in
        same q m ∙ at_set (λ (x y : Process). channel_at x.channels m ≡ Some it → channel_at y.channels m ≡ Some it) (λ x j. j) s.procs (p.0 - 1) (q.0 - 1) (with_channel n (Some ch) (process_at s p)) nobody
        (at_set (λ (x y : Option Channel). x ≡ Some it → y ≡ Some it) (λ x j. j) (process_at s p).channels (n - 1) (m - 1) (Some ch) None (λ j. absurd (let never : None ≡ Some it = sym free ∙ j in cc))) k

    on : (r : Request) → Rooted s past r → Rooted u (Did (effect.Var p v n) ∷ past) r
    on r k = record {
      from = k.from;
      below = rw d k.below;
      above = k.above;
      numbered = k.numbered;
      there = there_as s u a b r.req.device k.there;
      on = on_row r.req.p r.req.chan r.req.chan_mode r.req.device k.on;
      free = k.free;
      call = k.call;
      is = k.is ∙ ap (λ (x : List ℕ). let o : Origin = record { p = r.req.p; by = Some k.call; device = Some x } in Some o) (sym (title_as s u a b r.req.device));
      func = k.func;
      len = k.len;
    }
