-- Mailboxes, channels and requests, in the state and in the records: what agrees, and what keeps it.
use Rattle.std.proofs.Common.{inl, inr, ◌≡◌, ◌≢◌, ℕ, zero, suc, ◌+◌, ◌<◌, ◌≤◌, List, [], ◌∷◌, Bool, true, false, ◌==◌, ◌&&◌, ◌||◌, length, Option, Some, None, map, refl, sym, ap, ◌∙◌, subst, arith, get_or, set, is_some, IsTrue}
use Rattle.std.proofs.lemmas.Bool.{ne_eqb, cases_eq}
use Rattle.std.proofs.lemmas.Grind.{get_or-set_at}
use Rattle.std.proofs.lemmas.List.{get_or-set_other}
use Rattle.std.proofs.lemmas.Slice.Eq.{bytes_eq-Decides}
use Rattle.std.specs.List.{AllByRecursion, list_any}
use Rattle.std.specs.Prelude.{option_map, ⊤}
use Rattle.vx_record.specs.Types.{Answer, BoxNo, Channel, Device, Effect, Event, Id, Mailbox, Mode, Msg, Pid, Request}
use Rattle.vx_base.specs.declared.effects.Effect.TheVariants as effect
use Rattle.vx_base.specs.declared.record.Event.TheVariants as event
use Rattle.vx_base.specs.declared.request.Device.TheVariants as device
use Rattle.vx_record.proofs.Lists.{either, either_by, all_weaker, all_both, ordered_below}
use Rattle.vx_record.specs.Channels.{is_box_of, is_unit_of}
use Rattle.vx_record.specs.Charges.{is_same}
use Rattle.vx_record.specs.Mailboxes.{or_no_box}
use Rattle.vx_record.specs.Services.{number, function}
use Rattle.vx_record.specs.Sound.{AreOrdered, MayBeServed, request_id}
use Rattle.vx_record.specs.State.{State, box_at, with_box}
use Rattle.vx_laws.proofs.Aside.{row, IsAside, Aside}
use Rattle.vx_laws.specs.Agrees.{as_stored, box_stands, device_title}
use Rattle.vx_laws.specs.Boxes.{stored}
use Rattle.vx_laws.specs.Items.{Item, Head, Did, Calling, later, latest_call}
use Rattle.vx_laws.specs.Lives.{Life, life, lived, subject, is_about, device_name, named_in}
use Rattle.std.proofs.lemmas.Option.{same_Some}
use Rattle.std.proofs.lemmas.List.Folds.{list_any_at}
use Rattle.vx_laws.proofs.Calls.{IsElse}
use Rattle.std.specs.Option.{option_or}

-- How an id was opened: by which process and call, and on which device.
pub record Origin : Type 0 where
  pub p : Pid
  pub by : Option Calling
  pub device : Option (List ℕ)

abbrev pub origin : Life → Origin
origin l = record { p = l.p; by = l.by; device = l.device }

abbrev pub origin_of : List Item → Id → Option Origin
origin_of past id = option_map origin (life past id)

abbrev pub owner_of : List Item → Id → Option Pid
owner_of past id = option_map (λ o. o.p) (origin_of past id)

-- Items that do not open an id keep it.

origin_lived : (x : Item) (past : List Item) (o : Option Life) (id : Id) → IsElse x id → is_about (subject x) id ≡ true → option_map origin (lived past x o) ≡ option_map origin o
origin_lived (Did (effect.Open i k p mode n)) past o id e t = absurd (let never : true ≡ false = sym t ∙ ne_eqb i.0 id.0 e in cc)
origin_lived (Did (effect.Fin i c)) past None id e t = refl
origin_lived (Did (effect.Fin i c)) past (Some l) id e t = refl
origin_lived (Did (effect.Mark i)) past None id e t = refl
origin_lived (Did (effect.Mark i)) past (Some l) id e t = refl
origin_lived (Did (effect.Que i)) past None id e t = refl
origin_lived (Did (effect.Que i)) past (Some l) id e t = refl
origin_lived (Did (effect.Fire i)) past None id e t = refl
origin_lived (Did (effect.Fire i)) past (Some l) id e t = refl
origin_lived (Did (effect.Drop i)) past None id e t = refl
origin_lived (Did (effect.Drop i)) past (Some l) id e t = refl
origin_lived (Did (effect.Enter i)) past None id e t = refl
origin_lived (Did (effect.Enter i)) past (Some l) id e t = refl
origin_lived (Head (event.Ast p) a) past None id e t = refl
origin_lived (Head (event.Ast p) a) past (Some l) id e t = refl
origin_lived (Head (event.Beg u) a) past None id e t = refl
origin_lived (Head (event.Beg u) a) past (Some l) id e t = refl
origin_lived x past o id e t = refl

pub origin_on : (x : Item) (past : List Item) (id : Id) → IsElse x id → origin_of (x ∷ past) id ≡ origin_of past id
origin_on x past id e =
    either_by (λ (o : Option Life). option_map origin o ≡ origin_of past id) (is_about (subject x) id) (lived past x (life past id)) (life past id)
    (λ t. origin_lived x past (life past id) id e t) (λ f. refl)

-- What agrees.

-- a unit of the script, or a mailbox that stands
abbrev pub IsThere : State → Device → Type 0
IsThere s (device.Unit u) = u.0 < length s.system.units
IsThere s (device.Mailbox b) = IsTrue (is_some (box_at s b))

-- a request on a mailbox is on its process's channel to it
abbrev pub IsOn : State → Pid → ℕ → Mode → Device → Type 0
IsOn s p n mode (device.Unit u) = ⊤
IsOn s p n mode (device.Mailbox b) = row s p n ≡ Some (record { device = device.Mailbox b; mode = mode })

-- an outstanding request, with what its OPEN tells
pub record Rooted (s : State) (past : List Item) (r : Request) : Type 0 where
  pub from : 1 ≤ r.req.id.0
  pub below : r.req.id.0 < s.next
  pub above : 1 ≤ r.req.p.0
  pub numbered : 1 ≤ r.req.chan
  pub there : IsThere s r.req.device
  pub on : IsOn s r.req.p r.req.chan r.req.chan_mode r.req.device
  pub free : MayBeServed r.served r.req.device
  pub call : Calling
  pub is : origin_of past r.req.id ≡ Some (record { p = r.req.p; by = Some call; device = Some (device_title s r.req.device) })
  pub func : function call.call.args.a2 ≡ r.req.func
  pub len : number call.call.args.a7 ≡ r.req.len

abbrev pub message_id : Msg → ℕ
message_id m = m.id.0

-- a mailbox that stands: its messages are those that the records leave, each with the process of its OPEN, their ids rise, and its
-- name is no unit's and no other mailbox's
pub record BoxIs (s : State) (past : List Item) (b : BoxNo) (box : Mailbox) : Type 0 where
  pub messages : map as_stored box.messages ≡ stored past box.name
  pub ids : AreOrdered message_id 0 s.next box.messages
  pub writers : AllByRecursion (λ m. owner_of past m.id ≡ Some m.writer) box.messages
  pub unit : list_any (is_unit_of box.name) s.system.units ≡ false
  pub alone : (c : BoxNo) (other : Mailbox) → box_at s c ≡ Some other → other.name ≡ box.name → c.0 ≡ b.0

-- a channel is on a device that is there, and whose name gave the channel
abbrev pub RowsAre : State → List Item → Type 0
RowsAre s past = (p : Pid) (n : ℕ) (ch : Channel) → 1 ≤ p.0 → 1 ≤ n → row s p n ≡ Some ch → IsThere s ch.device × (device_name past p n ≡ Some (device_title s ch.device))

pub record Boxed (s : State) (past : List Item) : Type 0 where
  pub counted : 1 ≤ s.next
  pub ordered : AreOrdered request_id 0 s.next s.requests
  pub rows : RowsAre s past
  pub requests : AllByRecursion (Rooted s past) s.requests
  pub boxes : (b : BoxNo) (box : Mailbox) → box_at s b ≡ Some box → BoxIs s past b box
  pub others : (name : List ℕ) → list_any (is_box_of name) s.boxes ≡ false → stored past name ≡ []
  pub stands : (name : List ℕ) → list_any (is_box_of name) s.boxes ≡ box_stands past name

-- From one state and past to another, if devices that are there stay.
pub record Carried (s t : State) (past after : List Item) : Type 0 where
  pub system : t.system ≡ s.system
  pub there : (d : Device) → IsThere s d → IsThere t d
  pub titles : (d : Device) → IsThere s d → device_title t d ≡ device_title s d
  pub next : s.next ≤ t.next
  pub origins : (id : Id) → id.0 < s.next → origin_of after id ≡ origin_of past id
  pub devices : (p : Pid) (n : ℕ) → device_name after p n ≡ device_name past p n

pub rows_on : (s t : State) (past after : List Item) → Carried s t past after → ((p : Pid) (n : ℕ) (ch : Channel) → 1 ≤ p.0 → 1 ≤ n → row t p n ≡ Some ch → row s p n ≡ Some ch) → RowsAre s past → RowsAre t after
rows_on s t past after c same h p n ch above one e =
    let k = h p n ch above one (same p n ch above one e) in
    (c.there ch.device k.0, c.devices p n ∙ (k.1 ∙ ap (λ (x : List ℕ). Some x) (sym (c.titles ch.device k.0))))

pub rooted_on : (s t : State) (past after : List Item) → Carried s t past after → (r : Request) → IsOn t r.req.p r.req.chan r.req.chan_mode r.req.device → Rooted s past r → Rooted t after r
rooted_on s t past after c r on k = record {
  from = k.from;
  below = omega (arith, k.below, c.next);
  above = k.above;
  numbered = k.numbered;
  there = c.there r.req.device k.there;
  on = on;
  free = k.free;
  call = k.call;
  is = c.origins r.req.id k.below ∙ (k.is ∙ ap (λ (x : List ℕ). let o : Origin = record { p = r.req.p; by = Some k.call; device = Some x } in Some o) (sym (c.titles r.req.device k.there)));
  func = k.func;
  len = k.len;
}

pub on_same : (s t : State) (p : Pid) (n : ℕ) (mode : Mode) (d : Device) → ((p : Pid) (n : ℕ) → row t p n ≡ row s p n) → IsOn s p n mode d → IsOn t p n mode d
on_same s t p n mode (device.Unit u) same h = tt
on_same s t p n mode (device.Mailbox b) same h = same p n ∙ h

pub all_rooted : (s t : State) (past after : List Item) → Carried s t past after → ((p : Pid) (n : ℕ) → row t p n ≡ row s p n) → (rs : List Request) → AllByRecursion (Rooted s past) rs → AllByRecursion (Rooted t after) rs
all_rooted s t past after c same rs h = all_weaker (Rooted s past) (Rooted t after) (λ r k. rooted_on s t past after c r (on_same s t r.req.p r.req.chan r.req.chan_mode r.req.device same k.on) k) rs h

at_most : (low high : ℕ) (xs : List Msg) → AreOrdered message_id low high xs → low ≤ high
at_most low high [] h = h
at_most low high (x ∷ xs) h = let k = at_most (message_id x + 1) high xs h.1 in omega (arith, k, h.0)

all_below : (low high : ℕ) (xs : List Msg) → AreOrdered message_id low high xs → AllByRecursion (λ m. m.id.0 < high) xs
all_below low high [] h = tt
all_below low high (x ∷ xs) h = (let k = at_most (message_id x + 1) high xs h.1 in omega (arith, k), all_below (message_id x + 1) high xs h.1)

pub writers_on : (n : ℕ) (past after : List Item) → ((id : Id) → id.0 < n → origin_of after id ≡ origin_of past id) → (ms : List Msg) → AreOrdered message_id 0 n ms → AllByRecursion (λ m. owner_of past m.id ≡ Some m.writer) ms → AllByRecursion (λ m. owner_of after m.id ≡ Some m.writer) ms
writers_on n past after same ms o h =
    all_weaker (λ (m : Msg). (owner_of past m.id ≡ Some m.writer) × (m.id.0 < n)) (λ (m : Msg). owner_of after m.id ≡ Some m.writer) (λ m k. ap (λ (x : Option Origin). option_map (λ o. o.p) x) (same m.id k.1) ∙ k.0) ms
    (all_both (λ (m : Msg). owner_of past m.id ≡ Some m.writer) (λ (m : Msg). m.id.0 < n) ms h (all_below 0 n ms o))

-- a mailbox as it was
pub box_on : (s t : State) (past after : List Item) (b : BoxNo) (box : Mailbox) → Carried s t past after → stored after box.name ≡ stored past box.name → ((c : BoxNo) (other : Mailbox) → box_at t c ≡ Some other → other.name ≡ box.name → c.0 ≡ b.0) → BoxIs s past b box → BoxIs t after b box
box_on s t past after b box c same alone k = record {
  messages = k.messages ∙ sym same;
  ids = ordered_below message_id 0 s.next t.next box.messages c.next k.ids;
  writers = writers_on s.next past after c.origins box.messages k.ids k.writers;
  unit = rw c.system k.unit;
  alone = alone;
}

-- nothing of it changes
pub carry : (s t : State) (past after : List Item) → Carried s t past after → t.boxes ≡ s.boxes → ((p : Pid) (n : ℕ) → row t p n ≡ row s p n) → ((name : List ℕ) → stored after name ≡ stored past name) → ((name : List ℕ) → box_stands after name ≡ box_stands past name) → AreOrdered request_id 0 t.next t.requests → AllByRecursion (Rooted t after) t.requests → Boxed s past → Boxed t after
carry s t past after c boxes rows same bits ordered requests h = record {
  counted = omega (arith, h.counted, c.next);
  ordered = ordered;
  rows = rows_on s t past after c (λ p n ch above one e. sym (rows p n) ∙ e) h.rows;
  requests = requests;
  boxes = λ b box e. box_on s t past after b box c (same box.name) (λ d other f. (h.boxes b box (at b e)).alone d other (at d f)) (h.boxes b box (at b e));
  others = λ name e. same name ∙ h.others name (ap (λ (l : List (Option Mailbox)). list_any (is_box_of name) l) (sym boxes) ∙ e);
  stands = λ name. ap (λ (l : List (Option Mailbox)). list_any (is_box_of name) l) boxes ∙ (h.stands name ∙ sym (bits name));
}
  where
    at : {o : Option Mailbox} (b : BoxNo) → box_at t b ≡ o → box_at s b ≡ o
    at b e = ap (λ (l : List (Option Mailbox)). get_or l b.0 None) (sym boxes) ∙ e

pub there_as : (s t : State) → t.system ≡ s.system → t.boxes ≡ s.boxes → (d : Device) → IsThere s d → IsThere t d
there_as s t a b (device.Unit u) h = rw a h
there_as s t a b (device.Mailbox c) h = rw b h

pub title_as : (s t : State) → t.system ≡ s.system → t.boxes ≡ s.boxes → (d : Device) → device_title t d ≡ device_title s d
title_as s t a b (device.Unit u) = rw a refl
title_as s t a b (device.Mailbox c) = rw b refl

-- Effects aside of all this.

pub origins_past : (n : ℕ) (es : List Effect) (past : List Item) → AllByRecursion (IsAside n) es → (id : Id) → id.0 < n → origin_of (later past (map Did es)) id ≡ origin_of past id
origins_past n [] past h id below = refl
origins_past n (x ∷ xs) past h id below = origins_past n xs (Did x ∷ past) h.1 id below ∙ origin_on (Did x) past id (is_else x h.0)
  where
    is_else : (x : Effect) → IsAside n x → IsElse (Did x) id
    is_else (effect.Open i k p mode m) e = omega (arith, below, e.1)
    is_else x e = tt

pub stored_past : (n : ℕ) (es : List Effect) (past : List Item) (name : List ℕ) → AllByRecursion (IsAside n) es → stored (later past (map Did es)) name ≡ stored past name
stored_past n [] past name h = refl
stored_past n (x ∷ xs) past name h = stored_past n xs (Did x ∷ past) name h.1 ∙ at x h.0
  where
    at : (x : Effect) → IsAside n x → stored (Did x ∷ past) name ≡ stored past name
    at (effect.MPut a b c) e = absurd e
    at (effect.MGet a b c) e = absurd e
    at (effect.MCut a b) e = absurd e
    at (effect.Mbx a b) e = absurd e
    at x e = refl

pub bits_past : (n : ℕ) (es : List Effect) (past : List Item) (name : List ℕ) → AllByRecursion (IsAside n) es → box_stands (later past (map Did es)) name ≡ box_stands past name
bits_past n [] past name h = refl
bits_past n (x ∷ xs) past name h = bits_past n xs (Did x ∷ past) name h.1 ∙ at x h.0
  where
    at : (x : Effect) → IsAside n x → box_stands (Did x ∷ past) name ≡ box_stands past name
    at (effect.Mbx a b) e = absurd e
    at x e = refl

-- in the record of a call that names no device
pub devices_past : (es : List Effect) (past : List Item) (p : Pid) (n : ℕ) → named_in (latest_call past) ≡ None → device_name (later past (map Did es)) p n ≡ device_name past p n
devices_past [] past p n calm = refl
devices_past (x ∷ xs) past p n calm = devices_past xs (Did x ∷ past) p n calm ∙ at x
  where
    at : (x : Effect) → device_name (Did x ∷ past) p n ≡ device_name past p n
    at (effect.Var q v m) = either (λ (o : Option (List ℕ)). o ≡ device_name past p n) (is_same q p && (m == n)) _ _ (ap (λ (o : Option (List ℕ)). option_or o (device_name past p n)) calm) refl
    at x = refl

pub aside_carried : (s t : State) (es : List Effect) (past : List Item) → Aside s es t → named_in (latest_call past) ≡ None → Carried s t past (later past (map Did es))
aside_carried s t es past k calm = record {
  system = k.system;
  there = there_as s t k.system k.boxes;
  titles = λ d h. title_as s t k.system k.boxes d;
  next = k.next;
  origins = origins_past s.next es past k.effects;
  devices = λ p n. devices_past es past p n calm;
}

pub aside_boxed : (s t : State) (es : List Effect) (past : List Item) → Aside s es t → named_in (latest_call past) ≡ None → Boxed s past → Boxed t (later past (map Did es))
aside_boxed s t es past k calm h =
    let c = aside_carried s t es past k calm in
    carry s t past (later past (map Did es)) c k.boxes k.rows (λ name. stored_past s.next es past name k.effects) (λ name. bits_past s.next es past name k.effects) (subst (λ (l : List Request). AreOrdered request_id 0 t.next l) (sym k.requests) (ordered_below request_id 0 s.next t.next s.requests k.next h.ordered))
    (subst (λ (l : List Request). AllByRecursion (Rooted t (later past (map Did es))) l) (sym k.requests) (all_rooted s t past (later past (map Did es)) c k.rows s.requests h.requests)) h

-- A head opens nothing and puts nothing.
pub head_boxed : (s : State) (past : List Item) (e : Event) (a : Answer) → Boxed s past → Boxed s (Head e a ∷ past)
head_boxed s past e a h =
    let c : Carried s s past (Head e a ∷ past) = record { system = refl; there = λ d k. k; titles = λ d k. refl; next = omega arith; origins = λ id k. origin_on (Head e a) past id tt; devices = λ p n. refl } in
    carry s s past (Head e a ∷ past) c refl (λ p n. refl) (λ name. refl) (λ name. refl) h.ordered (all_rooted s s past (Head e a ∷ past) c (λ p n. refl) s.requests h.requests) h

-- The messages of a mailbox that stands.

pub kept_at : {A T : Type 0} (g : A → T) (l : List A) (i j : ℕ) (a d : A) → g a ≡ g (get_or l i d) → g (get_or (set l i a) j d) ≡ g (get_or l j d)
kept_at g [] i j a d h = refl
kept_at g (x ∷ xs) zero zero a d h = h
kept_at g (x ∷ xs) zero (suc j) a d h = refl
kept_at g (x ∷ xs) (suc i) zero a d h = refl
kept_at g (x ∷ xs) (suc i) (suc j) a d h = kept_at g xs i j a d h

pub some_within : {A : Type 0} (l : List (Option A)) (i : ℕ) (x : A) → get_or l i None ≡ Some x → i < length l
some_within [] i x e = absurd (let never : None ≡ Some x = e in cc)
some_within (y ∷ l) zero x e = omega arith
some_within (y ∷ l) (suc i) x e = let k = some_within l i x e in omega (arith, k)

pub any_kept : {A : Type 0} (p : A → Bool) (l : List A) (i : ℕ) (a d : A) → p a ≡ p (get_or l i d) → list_any p (set l i a) ≡ list_any p l
any_kept p [] i a d h = refl
any_kept p (x ∷ xs) zero a d h = rw h refl
any_kept p (x ∷ xs) (suc i) a d h = rw (any_kept p xs i a d h) refl

abbrev pub name_of_box : Option Mailbox → List ℕ
name_of_box o = (or_no_box o).name

pub any_index : {A : Type 0} (p : A → Bool) (xs : List A) (d : A) → list_any p xs ≡ true → (i : ℕ) × (p (get_or xs i d) ≡ true)
any_index p [] d e = absurd (let never : false ≡ true = e in cc)
any_index p (x ∷ xs) d e = at (p x) refl (any_index p xs d) e
  where
    at : (b : Bool) → p x ≡ b → (list_any p xs ≡ true → (i : ℕ) × (p (get_or xs i d) ≡ true)) → (b || list_any p xs) ≡ true → (i : ℕ) × (p (get_or (x ∷ xs) i d) ≡ true)
    at true is rest k = (zero, is)
    at false is rest k = let found = rest k in (suc found.0, found.1)

-- what stood where another mailbox was put
pub was_there : (s : State) (b c : BoxNo) (o : Option Mailbox) (other : Mailbox) → c.0 ≢ b.0 → box_at (with_box s b o) c ≡ Some other → box_at s c ≡ Some other
was_there s b c o other apart e = sym (get_or-set_other s.boxes b.0 c.0 o None apart) ∙ e

pub put_there : (s : State) (b c : BoxNo) (o : Option Mailbox) → c.0 ≡ b.0 → b.0 < length s.boxes → box_at (with_box s b o) c ≡ o
put_there s b c o same k = get_or-set_at s.boxes b.0 c.0 o None same k

pub restock : (s : State) (b : BoxNo) (box new : Mailbox) (past after : List Item) → box_at s b ≡ Some box → new.name ≡ box.name → ((id : Id) → origin_of after id ≡ origin_of past id) → ((p : Pid) (n : ℕ) → device_name after p n ≡ device_name past p n) →
    map as_stored new.messages ≡ stored after box.name → ((name : List ℕ) → name ≢ box.name → stored after name ≡ stored past name) → ((name : List ℕ) → box_stands after name ≡ box_stands past name) → AreOrdered message_id 0 s.next new.messages → AllByRecursion (λ m. owner_of past m.id ≡ Some m.writer) new.messages → Boxed s past → Boxed (with_box s b (Some new)) after
restock s b box new past after is title origins devices here else bits ids writers h = record {
  counted = h.counted;
  ordered = h.ordered;
  rows = rows_on s t past after c (λ p n ch above one e. e) h.rows;
  requests = all_rooted s t past after c (λ p n. refl) s.requests h.requests;
  boxes = λ d other e. elim (cases_eq d.0 b.0) [ inl same ↦ at_here d other same e | inr apart ↦ at_other d other apart (was_there s b d (Some new) other apart e) ];
  others = λ name e.
      let none : list_any (is_box_of name) s.boxes ≡ false = sym (any_kept (is_box_of name) s.boxes b.0 (Some new) None (rw (is, title) refl)) ∙ e in
      else name (λ same. let yes : list_any (is_box_of name) s.boxes ≡ true = list_any_at (is_box_of name) s.boxes b.0 None within (rw is ((bytes_eq-Decides box.name name).1 (sym same))) in cc) ∙ h.others name none;
  stands = λ name. any_kept (is_box_of name) s.boxes b.0 (Some new) None (rw (is, title) refl) ∙ (h.stands name ∙ sym (bits name));
}
  where
    t : State
    t = with_box s b (Some new)

    within : b.0 < length s.boxes
    within = some_within s.boxes b.0 box is

    there_on : (d : Device) → IsThere s d → IsThere (with_box s b (Some new)) d
    there_on (device.Unit u) k = k
    there_on (device.Mailbox d) k = subst IsTrue (sym (kept_at is_some s.boxes b.0 d.0 (Some new) None (rw is refl))) k

    titled_on : (d : Device) → device_title (with_box s b (Some new)) d ≡ device_title s d
    titled_on (device.Unit u) = refl
    titled_on (device.Mailbox d) = kept_at name_of_box s.boxes b.0 d.0 (Some new) None (rw (is, title) refl)

    c : Carried s (with_box s b (Some new)) past after
    c = record { system = refl; there = there_on; titles = λ d k. titled_on d; next = omega arith; origins = λ id k. origins id; devices = devices }

    k : BoxIs s past b box
    k = h.boxes b box is

    named : (d : BoxNo) (other : Mailbox) → d.0 ≡ b.0 → box_at (with_box s b (Some new)) d ≡ Some other → new ≡ other
    named d other same e = same_Some (new) other (sym (put_there s b d (Some new) same within) ∙ e)

    at_here : (d : BoxNo) (other : Mailbox) → d.0 ≡ b.0 → box_at (with_box s b (Some new)) d ≡ Some other → BoxIs (with_box s b (Some new)) after d other
    at_here d other same e = subst (BoxIs (with_box s b (Some new)) after d) (named d other same e) (record {
      messages = rw title here;
      ids = ids;
      writers = writers_on s.next past after (λ id below. origins id) new.messages ids writers;
      unit = rw title k.unit;
      alone = λ a o f g. elim (cases_eq a.0 b.0) [ inl x ↦ x ∙ sym same | inr x ↦ k.alone a o (was_there s b a (Some new) o x f) (g ∙ title) ∙ sym same ];
    })

    at_other : (d : BoxNo) (other : Mailbox) → d.0 ≢ b.0 → box_at s d ≡ Some other → BoxIs (with_box s b (Some new)) after d other
    at_other d other apart e =
        let j = h.boxes d other e in
        let differ : other.name ≢ box.name = λ same. apart (k.alone d other e same) in
        box_on s (with_box s b (Some new)) past after d other c (else other.name differ)
        (λ a o f g. elim (cases_eq a.0 b.0) [ inl x ↦ absurd (differ (sym g ∙ (sym (ap (λ (y : Mailbox). y.name) (named a o x f)) ∙ title))) | inr x ↦ j.alone a o (was_there s b a (Some new) o x f) g ]) j
