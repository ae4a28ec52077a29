-- A request may still be opened after its flag and its status block were cleared; and what holds after it was opened.
use Rattle.std.proofs.Common.{◌≡◌, ℕ, ◌+◌, ◌-◌, ◌≤◌, List, [], ◌∷◌, ◌++◌, Bool, true, false, cond, length, length-set, not, ◌==◌, Option, Some, None, is_some, slice_index_or, if◌then◌else◌, refl, ap, sym, subst, ◌∙◌, arith}
use Rattle.std.specs.List.{find, list_any}
use Rattle.std.proofs.lemmas.Bool.{eq-eqb, ne_eqb}
use Rattle.vx_record.proofs.Apart.{need_as}
use Rattle.vx_base.specs.Lists.{tally}
use Rattle.vx_record.specs.Types.{BoxNo, Cell, Device, Effect, Entry, Func, Id, Mailbox, Mode, Need, Pid, Queued, Request, Status}
use Rattle.vx_base.specs.Pieces.{cleared}
use Rattle.vx_base.specs.Quotas.{is_within, together}
use Rattle.vx_base.specs.declared.effects.Cell.TheVariants.{Local, Common}
use Rattle.vx_base.specs.declared.effects.Effect.TheVariants as effect
use Rattle.vx_base.specs.declared.request.Device.TheVariants as device
use Rattle.vx_record.specs.Charges.{bears_ast, charge, charged_timer, exceeds, is_attention_of, is_charged, request_need}
use Rattle.vx_record.specs.Finish.{is_read, put_status, this_request, with_stored_status}
use Rattle.vx_record.specs.Flags.{with_cell}
use Rattle.vx_record.specs.Mailboxes.{mailbox_at, message_of, write_box}
use Rattle.vx_record.specs.Parts.{Part, part_if}
use Rattle.vx_record.specs.Requests.{Asked, begun_on, cleared_part, new_request, opened_request, transfer, with_request}
use Rattle.vx_record.specs.Sound.{AreOrdered, DeviceStands, attention_id, ground, request_id}
use Rattle.vx_record.specs.State.{State, change, limits_of, next_id, no_decl, nobody, past_id, process_at}
use Rattle.vx_record.proofs.Ground.{at_set}
use Rattle.vx_record.proofs.Lists.{all_append, ordered_below, ordered_more}
use Rattle.vx_procs.specs.Kernel.{Acts, Fits, Kernel, told, with_state}
use Rattle.vx_procs.specs.Ready.{IsReady}
use Rattle.vx_procs.proofs.Changed.{IsQuiet}
use Rattle.vx_procs.proofs.Rest.{acted, acts_both, room_second}
use Rattle.vx_ctl.proofs.Flagged.{flagged_exceeds, flagged_made, flagged_spares}
use Rattle.vx_io.specs.Asking.{AreOpen, IsGranted, IsInRange, IsOpening, asked, to_device}
use Rattle.vx_io.specs.Boxes.{IsServing}
use Rattle.vx_io.specs.Moving.{moved}
use Rattle.vx_io.specs.Steady.{IsFit}
use Rattle.vx_io.specs.declared.asking.Asking.{Asking}
use Rattle.vx_io.specs.declared.asking.Granted.{Granted}
use Rattle.vx_io.proofs.Passing.{read_same}
use Rattle.vx_io.proofs.Steady.{steady_in, steady_of}

-- with other processes and flags

same_device : (s t : State) (dev : Device) → length t.units ≡ length s.units → t.boxes ≡ s.boxes → DeviceStands (ground s) dev → DeviceStands (ground t) dev
same_device s t (device.Unit u) units boxes h = omega (arith, units, h)
same_device s t (device.Mailbox b) units boxes h = subst (λ (xs : List (Option Mailbox)). is_some (slice_index_or xs b.0 None) ≡ true) (sym boxes) h

-- a flag is cleared
flag_cleared : (k : Kernel) (p : Pid) (dev : Device) (func : Func) (b : Bool) (len : ℕ) (c : Cell) → IsOpening k p dev func b len → IsOpening (with_state k (with_cell k.state c false)) p dev func b len
flag_cleared k p dev func b len (Local q n) h =
    let c = Local q n in
    let s = k.state in
    let t = with_cell s c false in
    record {
      made = flagged_made s c false p h.made;
      spares = λ x m. let has = flagged_spares k (told (with_state k t) (effect.Flag c false ∷ [])) c false h.spares refl x (record { above = m.above; within = m.within }) in record { frame = has.frame; ast = has.ast };
      free = h.free;
      entry = h.entry;
      messages = h.messages;
      ids = h.ids;
      steady = steady_in t (length s.procs) s.next s.requests s.attention (length-set s.procs (q.0 - 1) _) refl refl refl h.steady;
      device = same_device s t dev refl refl h.device;
      within = ap (exceeds t p) (need_as s t dev func b len refl) ∙ (flagged_exceeds s c false p (request_need s dev func b len) ∙ h.within);
    }
flag_cleared k p dev func b len (Common group name n) h =
    let c = Common group name n in
    let s = k.state in
    let t = with_cell s c false in
    record {
      made = flagged_made s c false p h.made;
      spares = λ x m. let has = flagged_spares k (told (with_state k t) (effect.Flag c false ∷ [])) c false h.spares refl x (record { above = m.above; within = m.within }) in record { frame = has.frame; ast = has.ast };
      free = h.free;
      entry = h.entry;
      messages = h.messages;
      ids = h.ids;
      steady = h.steady;
      device = same_device s t dev refl refl h.device;
      within = ap (exceeds t p) (need_as s t dev func b len refl) ∙ (flagged_exceeds s c false p (request_need s dev func b len) ∙ h.within);
    }

-- a status block is cleared

status_at : (s : State) (q p : Pid) (i : ℕ) (st : Status) → IsQuiet (process_at s p) (process_at (change s q (with_stored_status i st)) p)
status_at s q p i st = at_set IsQuiet (λ x. record { decl = refl; asts = refl; frames = omega arith }) s.procs (q.0 - 1) (p.0 - 1) (with_stored_status i st (process_at s q)) nobody (record { decl = refl; asts = refl; frames = omega arith })

status_exceeds : (s : State) (q p : Pid) (i : ℕ) (st : Status) (need : Need) → exceeds (change s q (with_stored_status i st)) p need ≡ exceeds s p need
status_exceeds s q p i st need =
    let quiet = status_at s q p i st in
    let with_asts : List Queued → Need = λ xs. record (charge s p) { ast = tally (bears_ast p) s.requests + (tally (is_attention_of p) s.attention + (tally (charged_timer p) s.timers + tally is_charged xs)) } in
    let limits : ℕ → Need = λ n. (slice_index_or s.system.decls n no_decl).limits in
    ap (λ (xs : List Queued). not (is_within (together (with_asts xs) need) (limits_of (change s q (with_stored_status i st)) p))) quiet.asts
    ∙ ap (λ (n : ℕ). not (is_within (together (charge s p) need) (limits n))) quiet.decl

status_cleared : (k : Kernel) (p : Pid) (dev : Device) (func : Func) (b : Bool) (len i : ℕ) (es : List Effect) → IsOpening k p dev func b len → IsOpening (told (with_state k (change k.state p (with_stored_status i cleared))) es) p dev func b len
status_cleared k p dev func b len i es h =
    let s = k.state in
    let t = change s p (with_stored_status i cleared) in
    let many = length-set s.procs (p.0 - 1) (with_stored_status i cleared (process_at s p)) in
    record {
      made = record { above = h.made.above; within = omega (arith, h.made.within, many) };
      spares = λ x m.
          let has = h.spares x (record { above = m.above; within = omega (arith, m.within, many) }) in
          let quiet = status_at s p x i cleared in
          record { frame = omega (arith, has.frame, quiet.frames); ast = omega (arith, has.ast, ap (λ (qs : List Queued). length qs) quiet.asts) };
      free = h.free;
      entry = h.entry;
      messages = h.messages;
      ids = h.ids;
      steady = steady_in t (length s.procs) s.next s.requests s.attention many refl refl refl h.steady;
      device = same_device s t dev refl refl h.device;
      within = ap (exceeds t p) (need_as s t dev func b len refl) ∙ (status_exceeds s p p i cleared (request_need s dev func b len) ∙ h.within);
    }

block_cleared : (k : Kernel) (p : Pid) (dev : Device) (func : Func) (b : Bool) (len i : ℕ) (es : List Effect) (named : Bool) → IsOpening k p dev func b len → IsOpening (told (with_state k (part_if named (put_status k.state p i cleared) k.state).after) es) p dev func b len
block_cleared k p dev func b len i es true h = status_cleared k p dev func b len i es h
block_cleared k p dev func b len i es false h = record {
  made = h.made;
  spares = λ x m. let has = h.spares x m in record { frame = has.frame; ast = has.ast };
  free = h.free;
  entry = h.entry;
  messages = h.messages;
  ids = h.ids;
  steady = h.steady;
  device = h.device;
  within = h.within;
}

pub opening_cleared : (k l : Kernel) (p : Pid) (q : Asked) (c : Cell) (dev : Device) (func : Func) (b : Bool) (len : ℕ) → IsOpening k p dev func b len → Acts (cleared_part k.state p q c) k l → IsOpening l p dev func b len
opening_cleared k l p q c dev func b len h did =
    let part = cleared_part k.state p q c in
    subst (λ (x : Kernel). IsOpening x p dev func b len) (sym did)
    (block_cleared (with_state k (with_cell k.state c false)) p dev func b len q.iosb part.effects (not (q.iosb == 0)) (flag_cleared k p dev func b len c h))

-- No request has the id that is opened next, and what is opened with it is found by it.

pub low_high : {A : Type 0} (key : A → ℕ) (low high : ℕ) (xs : List A) → AreOrdered key low high xs → low ≤ high
low_high key low high [] h = h
low_high key low high (x ∷ xs) h = let rest = low_high key (key x + 1) high xs h.1 in omega (arith, h.0, rest)

pub none_next : (low high : ℕ) (rs : List Request) → AreOrdered request_id low high rs → list_any (this_request (record { 0 = high })) rs ≡ false
none_next low high [] h = refl
none_next low high (r ∷ rs) h =
    let below = low_high request_id (request_id r + 1) high rs h.1 in
    let other : (r.req.id.0 == high) ≡ false = ne_eqb r.req.id.0 high (λ same. omega (arith, below, same)) in
    rw other (none_next (request_id r + 1) high rs h.1)

pub last_found : {A : Type 0} (key : A → ℕ) (low high : ℕ) (xs : List A) (x : A) → key x ≡ high → AreOrdered key low high xs → find (λ y. key y == high) (xs ++ x ∷ []) ≡ Some x
last_found key low high [] x is h = ap (λ b. cond b (Some x) None) (eq-eqb (key x) high is)
last_found key low high (y ∷ ys) x is h =
    let below = low_high key (key y + 1) high ys h.1 in
    let other : (key y == high) ≡ false = ne_eqb (key y) high (λ same. omega (arith, below, same)) in
    ap (λ b. cond b (Some y) (find (λ z. key z == high) (ys ++ x ∷ []))) other ∙ last_found key (key y + 1) high ys x is h.1

-- A request was opened on a mailbox.

abbrev with_new : State → Pid → Asking → Option Entry → BoxNo → Mode → State
with_new s p q o b mode = with_request (past_id s) (new_request s p (asked q o) (to_device (device.Mailbox b) mode))

pub opened_serving : (k l : Kernel) (p : Pid) (q : Asking) (o : Option Entry) (b : BoxNo) (mode : Mode) (func : Func) (with_ast : Bool) (len : ℕ) → IsOpening k p (device.Mailbox b) func with_ast len → IsInRange q → Acts (opened_request k.state p (asked q o) (to_device (device.Mailbox b) mode)) k l → IsServing l.state b
opened_serving k l p q o b mode func with_ast len h range did =
    let s = k.state in
    let r = new_request s p (asked q o) (to_device (device.Mailbox b) mode) in
    let t = with_new s p q o b mode in
    let here : IsServing t b = record {
      stands = h.device;
      steady = record {
        fit = all_append (λ x. IsFit (length s.procs) x.req) s.requests (r ∷ []) h.steady.fit (record { made = record { above = h.made.above; within = h.made.within }; iosb = range.iosb; buf = range.buf; len = range.len }, tt);
        order = ordered_more request_id 0 s.next s.requests r refl h.steady.order;
        entries = ordered_below attention_id 0 s.next (s.next + 1) s.attention (omega arith) h.steady.entries;
      };
    } in
    subst (λ (y : Kernel). IsServing y.state b) (sym did) here

-- what it does there is what the machine says

moved_same : (s : State) (p : Pid) (q : Asking) (o : Option Entry) (b : BoxNo) (mode : Mode) → AreOrdered request_id 0 s.next s.requests → moved (with_new s p q o b mode) p (asked q None) b (next_id s) ≡ begun_on (with_new s p q o b mode) (new_request s p (asked q o) (to_device (device.Mailbox b) mode)) (device.Mailbox b)
moved_same s p q o b mode order =
    let r = new_request s p (asked q o) (to_device (device.Mailbox b) mode) in
    let t = with_new s p q o b mode in
    ap (λ (a : Part). if is_read q.func then a else write_box t b (message_of r.req)) (read_same t b r (mailbox_at t b).messages (last_found request_id 0 s.next s.requests r refl order))

at_mailbox : (k l : Kernel) (p : Pid) (q : Asking) (o : Option Entry) (b : BoxNo) (mode : Mode) (id : Id) → AreOrdered request_id 0 k.state.next k.state.requests → id ≡ next_id k.state → Acts (opened_request k.state p (asked q o) (to_device (device.Mailbox b) mode)) k l → moved l.state p (asked q None) b id ≡ begun_on l.state (new_request k.state p (asked q o) (to_device (device.Mailbox b) mode)) (device.Mailbox b)
at_mailbox k l p q o b mode id order is did =
    let r = new_request k.state p (asked q o) (to_device (device.Mailbox b) mode) in
    subst (λ (y : Kernel). moved y.state p (asked q None) b id ≡ begun_on y.state r (device.Mailbox b)) (sym did)
    (ap (moved (with_new k.state p q o b mode) p (asked q None) b) is ∙ moved_same k.state p q o b mode order)

pub moved_room : (k l : Kernel) (p : Pid) (q : Asking) (o : Option Entry) (b : BoxNo) (mode : Mode) (id : Id) → AreOrdered request_id 0 k.state.next k.state.requests → id ≡ next_id k.state → Acts (opened_request k.state p (asked q o) (to_device (device.Mailbox b) mode)) k l → Fits k (transfer k.state p (asked q o) (to_device (device.Mailbox b) mode)).effects → Fits l (moved l.state p (asked q None) b id).effects
moved_room k l p q o b mode id order is did room =
    let r = new_request k.state p (asked q o) (to_device (device.Mailbox b) mode) in
    subst (λ (a : Part). Fits l a.effects) (sym (at_mailbox k l p q o b mode id order is did))
    (room_second k l (opened_request k.state p (asked q o) (to_device (device.Mailbox b) mode)) (λ a. begun_on a r (device.Mailbox b)) did room)

pub moved_as : (k l n : Kernel) (p : Pid) (q : Asking) (o : Option Entry) (b : BoxNo) (mode : Mode) (id : Id) → AreOrdered request_id 0 k.state.next k.state.requests → id ≡ next_id k.state → Acts (opened_request k.state p (asked q o) (to_device (device.Mailbox b) mode)) k l → Acts (moved l.state p (asked q None) b id) l n → Acts (transfer k.state p (asked q o) (to_device (device.Mailbox b) mode)) k n
moved_as k l n p q o b mode id order is did rest =
    let r = new_request k.state p (asked q o) (to_device (device.Mailbox b) mode) in
    acts_both k l n (opened_request k.state p (asked q o) (to_device (device.Mailbox b) mode)) (λ a. begun_on a r (device.Mailbox b)) did (rest ∙ ap (acted l) (at_mailbox k l p q o b mode id order is did))

-- A request that passed its tests may be opened.
pub opening_of : (k : Kernel) (p : Pid) (q : Asking) (with_ast : Bool) (g : Granted) → IsReady k p → AreOpen k.state p → IsGranted k.state p q with_ast g → IsOpening k p g.device q.func with_ast q.len
opening_of k p q with_ast g ready stands passed = record {
  made = ready.made;
  spares = ready.spares;
  free = ready.request;
  entry = ready.entry;
  messages = ready.messages;
  ids = ready.ids;
  steady = steady_of k.state stands.requests stands.entries;
  device = passed.device;
  within = passed.within;
}

-- The same if the device is known to be a mailbox, or a unit.

pub record IsAtBox (k l : Kernel) (p : Pid) (q : Asking) (o : Option Entry) (dev : Device) (mode : Mode) (b : BoxNo) : Type 0 where
  pub is : dev ≡ device.Mailbox b
  pub did : Acts (opened_request k.state p (asked q o) (to_device dev mode)) k l

did_at : (k l : Kernel) (p : Pid) (q : Asking) (o : Option Entry) (dev : Device) (mode : Mode) (b : BoxNo) → IsAtBox k l p q o dev mode b → Acts (opened_request k.state p (asked q o) (to_device (device.Mailbox b) mode)) k l
did_at k l p q o dev mode b x = subst (λ (d : Device). Acts (opened_request k.state p (asked q o) (to_device d mode)) k l) x.is x.did

pub box_serving : (k l : Kernel) (p : Pid) (q : Asking) (o : Option Entry) (dev : Device) (mode : Mode) (b : BoxNo) (func : Func) (with_ast : Bool) (len : ℕ) → IsAtBox k l p q o dev mode b → IsOpening k p dev func with_ast len → IsInRange q → IsServing l.state b
box_serving k l p q o dev mode b func with_ast len x h range =
    opened_serving k l p q o b mode func with_ast len (subst (λ (d : Device). IsOpening k p d func with_ast len) x.is h) range (did_at k l p q o dev mode b x)

pub box_room : (k l : Kernel) (p : Pid) (q : Asking) (o : Option Entry) (dev : Device) (mode : Mode) (b : BoxNo) (id : Id) → IsAtBox k l p q o dev mode b → AreOrdered request_id 0 k.state.next k.state.requests → id ≡ next_id k.state → Fits k (transfer k.state p (asked q o) (to_device dev mode)).effects → Fits l (moved l.state p (asked q None) b id).effects
box_room k l p q o dev mode b id x order is room =
    moved_room k l p q o b mode id order is (did_at k l p q o dev mode b x) (subst (λ (d : Device). Fits k (transfer k.state p (asked q o) (to_device d mode)).effects) x.is room)

pub box_moved : (k l n : Kernel) (p : Pid) (q : Asking) (o : Option Entry) (dev : Device) (mode : Mode) (b : BoxNo) (id : Id) → IsAtBox k l p q o dev mode b → AreOrdered request_id 0 k.state.next k.state.requests → id ≡ next_id k.state → Acts (moved l.state p (asked q None) b id) l n → Acts (transfer k.state p (asked q o) (to_device dev mode)) k n
box_moved k l n p q o dev mode b id x order is rest =
    subst (λ (d : Device). Acts (transfer k.state p (asked q o) (to_device d mode)) k n) (sym x.is) (moved_as k l n p q o b mode id order is (did_at k l p q o dev mode b x) rest)
