-- What finishing and cancelling requests keeps.
use Rattle.std.proofs.Common.{◌≡◌, ℕ, zero, suc, ◌-◌, List, [], ◌∷◌, true, is_some, slice_index_or, slice_set, not, ◌&&◌, ◌==◌, nat_lt, length, length-set, Option, Some, None, refl, ◌∙◌, arith}
use Rattle.std.specs.List.{list_any}
use Rattle.vx_base.specs.Lists.{less}
use Rattle.vx_record.specs.Types.{BoxNo, Cell, Channel, Device, Mailbox, Pid, Promised, Req, Request}
use Rattle.vx_base.specs.declared.cond.Cond.TheVariants.{Cancel}
use Rattle.vx_base.specs.declared.effects.Cell.TheVariants.{Common, Local}
use Rattle.vx_base.specs.declared.request.Device.TheVariants as device
use Rattle.vx_record.specs.Asts.{charged_ast, with_queued}
use Rattle.vx_record.specs.Cancel.{cancel_request, cancelled_request, mark_part, withdraw}
use Rattle.vx_record.specs.Finish.{Ending, buf_part, done_ast_part, done_flag_part, ending, fin_part, finish, iosb_part, is_read, put_status, status_of, with_stored_bytes, with_stored_status}
use Rattle.vx_record.specs.Flags.{cell, flag_where_named, with_local_flag}
use Rattle.vx_record.specs.Mailboxes.{mailbox_at, mcut_part, this_message}
use Rattle.vx_record.specs.Parts.{Part, each, nothing}
use Rattle.vx_record.specs.Sound.{BoxStands, ChannelStands, DeviceStands, ground}
use Rattle.vx_record.specs.State.{Process, State, IsProcess, change, process_at, with_box}
use Rattle.vx_record.proofs.Fits.{field_same}
use Rattle.vx_record.proofs.Lists.{either}

-- the processes with their channels, the attention entries, the next id, the units, and that mailboxes are there
pub record IsKept (s t : State) : Type 0 where
  pub many : length t.procs ≡ length s.procs
  pub channels : (q : Pid) → (process_at t q).channels ≡ (process_at s q).channels
  pub attention : t.attention ≡ s.attention
  pub next : t.next ≡ s.next
  pub units : length t.units ≡ length s.units
  pub box : (b : BoxNo) → BoxStands (ground s) b → BoxStands (ground t) b

still : (s : State) → IsKept s s
still s = record { many = refl; channels = λ q. refl; attention = refl; next = refl; units = refl; box = λ b h. h }

pub kept_then : (s t u : State) → IsKept s t → IsKept t u → IsKept s u
kept_then s t u a b = record { many = b.many ∙ a.many; channels = λ q. b.channels q ∙ a.channels q; attention = b.attention ∙ a.attention; next = b.next ∙ a.next; units = b.units ∙ a.units; box = λ n h. b.box n (a.box n h) }

pub made_kept : (s t : State) (p : Pid) → IsKept s t → IsProcess s p → IsProcess t p
made_kept s t p h made = record { above = made.above; within = omega (arith, made.within, h.many) }

pub device_kept : (s t : State) (d : Device) → IsKept s t → DeviceStands (ground s) d → DeviceStands (ground t) d
device_kept s t (device.Unit u) h stands = omega (arith, h.units, stands)
device_kept s t (device.Mailbox b) h stands = h.box b stands

pub row_kept : (s t : State) (o : Option Channel) → IsKept s t → ChannelStands (ground s) o → ChannelStands (ground t) o
row_kept s t None h stands = tt
row_kept s t (Some ch) h stands = device_kept s t ch.device h stands

-- a process is changed
changed_kept : (s : State) (p : Pid) (f : Process → Process) → (f (process_at s p)).channels ≡ (process_at s p).channels → IsKept s (change s p f)
changed_kept s p f same = record {
  many = length-set s.procs (p.0 - 1) (f (process_at s p));
  channels = λ q. field_same (λ (pr : Process). pr.channels) f s p q same;
  attention = refl;
  next = refl;
  units = refl;
  box = λ b h. h;
}

-- a mailbox is put in the place of one
some_set : {A : Type 0} (xs : List (Option A)) (i j : ℕ) (x : A) → is_some (slice_index_or xs j None) ≡ true → is_some (slice_index_or (slice_set xs i (Some x)) j None) ≡ true
some_set [] i j x h = h
some_set (y ∷ ys) zero zero x h = refl
some_set (y ∷ ys) zero (suc j) x h = h
some_set (y ∷ ys) (suc i) zero x h = h
some_set (y ∷ ys) (suc i) (suc j) x h = some_set ys i j x h

pub box_kept : (s : State) (b : BoxNo) (box : Mailbox) → IsKept s (with_box s b (Some box))
box_kept s b box = record { many = refl; channels = λ q. refl; attention = refl; next = refl; units = refl; box = λ c h. some_set s.boxes b.0 c.0 box h }

-- The parts of a request's end.

buffer_kept : (s : State) (r : Req) (e : Ending) → IsKept s (buf_part s r e).after
buffer_kept s r e = either (λ (x : Part). IsKept s x.after) (is_read r.func && nat_lt 0 e.0.count) _ (nothing s) (changed_kept s r.p (with_stored_bytes r.buf e.0.bytes) refl) (still s)

status_kept : (s : State) (r : Req) (e : Ending) → IsKept s (iosb_part s r.p r.iosb (status_of e)).after
status_kept s r e = either (λ (x : Part). IsKept s x.after) (not (r.iosb == 0)) (put_status s r.p r.iosb (status_of e)) (nothing s) (changed_kept s r.p (with_stored_status r.iosb (status_of e)) refl) (still s)

pub flag_kept : (s : State) (o : Option Cell) → IsKept s (flag_where_named s o true).after
flag_kept s None = still s
flag_kept s (Some (Local q n)) = changed_kept s q (with_local_flag n true) (either (λ (x : Process). x.channels ≡ (process_at s q).channels) (nat_lt n 32) _ _ refl refl)
flag_kept s (Some (Common group name n)) = record { many = refl; channels = λ q. refl; attention = refl; next = refl; units = refl; box = λ b h. h }

ast_kept : (s : State) (r : Req) (o : Option Promised) → IsKept s (done_ast_part s r o).after
ast_kept s r None = still s
ast_kept s r (Some ast) = changed_kept s r.p (with_queued (charged_ast r.id ast.mode ast.tag)) refl

pub finish_kept : (s : State) (r : Request) (e : Ending) → IsKept s (finish s r e).after
finish_kept s r e =
    let a = (fin_part s r.req.id e.0.cond).after in
    let b = (buf_part a r.req e).after in
    let c = (iosb_part b r.req.p r.req.iosb (status_of e)).after in
    let d = (done_flag_part c r.req).after in
    let first : IsKept s a = record { many = refl; channels = λ q. refl; attention = refl; next = refl; units = refl; box = λ b h. h } in
    let two = kept_then s a b first (buffer_kept a r.req e) in
    let three = kept_then s b c two (status_kept b r.req e) in
    let four = kept_then s c d three (flag_kept c (cell c r.req.p r.req.efn)) in
    kept_then s d (finish s r e).after four (ast_kept d r.req r.ast)

pub withdrawn_kept : (s : State) (r : Request) (d : Device) → IsKept s (withdraw s r d).after
withdrawn_kept s r (device.Unit u) = still s
withdrawn_kept s r (device.Mailbox b) =
    either (λ (x : Part). IsKept s x.after) (list_any (this_message r.req.id) (mailbox_at s b).messages) (mcut_part s b r.req.id) (nothing s) (box_kept s b (record (mailbox_at s b) { messages = less (this_message r.req.id) (mailbox_at s b).messages })) (still s)

pub request_kept : (s : State) (r : Request) → IsKept s (cancel_request s r).after
request_kept s r =
    let P = λ (x : Part). IsKept s x.after in
    let w = (withdraw s r r.req.device).after in
    either P r.served _ (cancelled_request s r)
    (either P (not r.marked) (mark_part s r) (nothing s) (record { many = refl; channels = λ q. refl; attention = refl; next = refl; units = refl; box = λ b h. h }) (still s))
    (kept_then s w (finish w r (ending Cancel 0 0 [])).after (withdrawn_kept s r r.req.device) (finish_kept w r (ending Cancel 0 0 [])))

pub requests_kept : (s : State) (rs : List Request) → IsKept s (each cancel_request rs s).after
requests_kept s [] = still s
requests_kept s (r ∷ rs) = let t = (cancel_request s r).after in kept_then s t (each cancel_request rs t).after (request_kept s r) (requests_kept t rs)

-- The mailboxes are as they were.

flag_boxes : (s : State) (o : Option Cell) → (flag_where_named s o true).after.boxes ≡ s.boxes
flag_boxes s None = refl
flag_boxes s (Some (Local q n)) = refl
flag_boxes s (Some (Common group name n)) = refl

ast_boxes : (s : State) (r : Req) (o : Option Promised) → (done_ast_part s r o).after.boxes ≡ s.boxes
ast_boxes s r None = refl
ast_boxes s r (Some ast) = refl

pub finish_boxes : (s : State) (r : Request) (e : Ending) → (finish s r e).after.boxes ≡ s.boxes
finish_boxes s r e =
    let a = (fin_part s r.req.id e.0.cond).after in
    let b = (buf_part a r.req e).after in
    let c = (iosb_part b r.req.p r.req.iosb (status_of e)).after in
    let d = (done_flag_part c r.req).after in
    ast_boxes d r.req r.ast
    ∙ (flag_boxes c (cell c r.req.p r.req.efn)
    ∙ (either (λ (x : Part). x.after.boxes ≡ b.boxes) (not (r.req.iosb == 0)) _ (nothing b) refl refl
    ∙ either (λ (x : Part). x.after.boxes ≡ a.boxes) (is_read r.req.func && nat_lt 0 e.0.count) _ (nothing a) refl refl))
