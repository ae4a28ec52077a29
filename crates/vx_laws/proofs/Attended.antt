-- In every state each attention entry is on a channel that is assigned.
use Rattle.std.proofs.Common.{◌≡◌, ◌∙◌, ℕ, ◌+◌, ◌-◌, List, [], ◌∷◌, Bool, true, false, cond, not, ◌&&◌, Option, Some, None, Result, Ok, Err, refl, sym, ap, subst, position, is_none}
use Rattle.std.specs.List.{AllByRecursion}
use Rattle.std.proofs.lemmas.Bool.{and_parts, leb-true}
use Rattle.vx_base.proofs.Bools.{by_bool}
use Rattle.vx_base.specs.Channels.{channel_at}
use Rattle.vx_base.specs.Modes.{outer}
use Rattle.vx_record.specs.Types.{Args, Attention, Call, Cell, Channel, Cond, Device, Effect, Entry, Event, Frame, Mailbox, Mode, Pid, Queued, Request, Service, Stop, Wait}
use Rattle.vx_base.specs.Pieces.{cleared}
use Rattle.vx_base.specs.declared.frame.Wait.TheVariants as wait
use Rattle.vx_base.specs.declared.request.Device.TheVariants as device
use Rattle.vx_base.specs.declared.service.Service.TheVariants.{Assign, Dassgn, CreMbx, DelMbx, Qio, QioW, Cancel}
use Rattle.vx_record.specs.Cancel.{cancel_channel, dassgn_at}
use Rattle.vx_record.specs.Channels.{with_channel, channel_test, free_channel_of, assign_at, assign_to, assign, device_named, is_bad_box, new_box, box_named, box_made, box_number, make_box, make_box_in, find_or_create, crembx}
use Rattle.vx_record.specs.Charges.{is_attention}
use Rattle.vx_record.specs.Finish.{iosb_part}
use Rattle.vx_record.specs.Flags.{cell, flag_part, flag_where_named, awaited_at, wait_condition, with_wait}
use Rattle.vx_record.specs.Mailboxes.{this_attention, is_answered_now, fire_attention}
use Rattle.vx_record.specs.Parts.{Part, Outcome, nothing, at_tested, part_of}
use Rattle.vx_record.specs.Requests.{Asked, new_attention, attention_set, attention_opened, attention_on, transfer, accepted, done_at_once, request_test, qio_tested, qiow_tested, cleared_part, begun}
use Rattle.vx_record.specs.Services.{number, place, access_mode, text, asked, numbered_at, service_of, with_variable}
use Rattle.vx_record.specs.State.{Process, State, process_at, change, current, nobody, image_of}
use Rattle.vx_record.proofs.Apart.{Here, flag_attention, here_after, iosb_attention}
use Rattle.vx_record.proofs.Base.{Base}
use Rattle.vx_record.proofs.Cancelled.{cancel_channel_attention, cancel_channel_all}
use Rattle.vx_record.proofs.SoundRequests.{request_test_row, tested_channel}
use Rattle.vx_record.proofs.Ground.{at_set}
use Rattle.vx_record.proofs.Lists.{either, all_weaker, all_append, all_less}
use Rattle.vx_record.proofs.Moves.{Moves, PartMoves, moved}
use Rattle.vx_record.proofs.SoundChannels.{free_row}
use Rattle.vx_record.proofs.Told.{accepted_after, service_moves, started_moves, step_moves}
use Rattle.vx_laws.proofs.Allowed.{Test, transferred_allowed, Plain, unasked, service_plain, tick_allowed, don_allowed, returned_allowed, started_allowed}
use Rattle.vx_laws.proofs.Aside.{row, changed, service_aside, Aside, returned_aside, started_aside, tick_aside}
use Rattle.vx_laws.proofs.Emptied.{AllSeated, Seated, IsOfLists, moves_held, seated_on, kept_rows, seat_rows}
use Rattle.vx_laws.proofs.Leftover.{freed_seated, seated_change}
use Rattle.vx_laws.proofs.Phases.{service_seats}
use Rattle.vx_laws.proofs.Untouched.{service_plainly, cancel_channel_keeps}
use Rattle.vx_base.specs.Cond.{number_of}
use Rattle.vx_base.specs.Queues.{front, in_service}
use Rattle.vx_base.specs.declared.record.Event.TheVariants as event
use Rattle.vx_image.specs.Local.{advanced}
use Rattle.vx_image.specs.declared.stop.Stop.TheVariants as stop
use Rattle.vx_record.specs.Asts.{deliverable_ast}
use Rattle.vx_record.specs.Events.{moved_to, moved_behind, returned, served_call, run_on, reader, run_frame, run, resumed_with, with_r0, or_normal, started, delivered, beg, step}
use Rattle.vx_record.specs.Rundown.{without_ast}
use Rattle.vx_record.specs.declared.served.Served.{Served}
use Rattle.vx_record.specs.declared.served.Served.TheVariants.{Answered, Waits}
use Rattle.vx_record.proofs.Locals.{advanced_statuses}
use Rattle.vx_record.proofs.Steps.{IsThere, returned_moves}
use Rattle.vx_laws.proofs.Rests.{is_rundown}
use Rattle.vx_laws.proofs.Courses.{uses_channels, all_untimed, Untimed, don_rows}
use Rattle.vx_laws.specs.Agrees.{is_attending}

-- Rows that are assigned stay.

abbrev pub Grows : State → State → Type 0
Grows s t = (q : Pid) (k : ℕ) (c : Channel) → row s q k ≡ Some c → row t q k ≡ Some c

grows_same : (s t : State) → ((q : Pid) (k : ℕ) → row t q k ≡ row s q k) → Grows s t
grows_same s t e = λ q k c h. e q k ∙ h

grows_then : (s t u : State) → Grows s t → Grows t u → Grows s u
grows_then s t u h k = λ q n c e. k q n c (h q n c e)

pub seated_grows : (s t : State) (a : Attention) → Grows s t → Seated s a → Seated t a
seated_grows s t a g h = record { above = h.above; number = h.number; ch = h.ch; is = g a.p a.chan h.ch h.is }

set_grows : (s : State) (p : Pid) (n : ℕ) (ch : Option Channel) → row s p n ≡ None → Grows s (change s p (with_channel n ch))
set_grows s p n ch none = λ q k c. at_set (λ (x y : Process). channel_at x.channels k ≡ Some c → channel_at y.channels k ≡ Some c) (λ x e. e) s.procs (p.0 - 1) (q.0 - 1) (with_channel n ch (process_at s p)) nobody
    (at_set (λ (a b : Option Channel). a ≡ Some c → b ≡ Some c) (λ a e. e) (process_at s p).channels (n - 1) (k - 1) ch None (λ e. absurd (let never : None ≡ Some c = sym none ∙ e in cc)))

var_grows : (s : State) (p : Pid) (f : Process → Process) → (f (process_at s p)).channels ≡ (process_at s p).channels → Grows s (change s p f)
var_grows s p f e = grows_same s (change s p f) (changed s p f [] e tt).rows

assign_at_grows : (s : State) (p : Pid) (d : Device) (mode : Mode) (o : Option ℕ) → free_channel_of s p ≡ o → Grows s (assign_at s p d mode o).after
assign_at_grows s p d mode None is = λ q k c e. e
assign_at_grows s p d mode (Some n) is = set_grows s p n (Some (record { device = d; mode = mode })) (free_row 1 n (process_at s p).channels is).1

assign_to_grows : (s : State) (p : Pid) (mode : Mode) (o : Option Device) → Grows s (assign_to s p mode o).after
assign_to_grows s p mode None = λ q k c e. e
assign_to_grows s p mode (Some d) = assign_at_grows s p d mode (free_channel_of s p) refl

make_box_grows : (s : State) (p : Pid) (mode : Mode) (box : Mailbox) (b : ℕ) (o : Option ℕ) → free_channel_of s p ≡ o → Grows s (make_box s p mode box b o).after
make_box_grows s p mode box b None is = λ q k c e. e
make_box_grows s p mode box b (Some n) is = set_grows (box_made s b box).after p n (Some (record { device = device.Mailbox (box_number b); mode = mode })) (free_row 1 n (process_at s p).channels is).1

make_in_grows : (s : State) (p : Pid) (mode : Mode) (box : Mailbox) (o : Option ℕ) → Grows s (make_box_in s p mode box o).after
make_in_grows s p mode box None = λ q k c e. e
make_in_grows s p mode box (Some b) = make_box_grows s p mode box b (free_channel_of s p) refl

or_grows : {A : Type 0} (s : State) (b : Bool) (x y : Outcome A) → Grows s x.after → Grows s y.after → Grows s (cond b x y).after
or_grows s true x y h k = h
or_grows s false x y h k = k

create_grows : (s : State) (p : Pid) (mode : Mode) (box : Mailbox) (o : Option ℕ) → Grows s (find_or_create s p mode box o).after
create_grows s p mode box None = or_grows s (box.permanent && not (process_at s p).privs.prmmbx) _ _ (λ q k c e. e) (make_in_grows s p mode box (position is_none s.boxes))
create_grows s p mode box (Some b) = assign_at_grows s p _ mode (free_channel_of s p) refl

numbered_grows : (s : State) (p : Pid) (t : Rattle.vx_base.specs.declared.call.Target.Target) (part : Part) (r : Result ℕ Cond) → Grows s part.after → Grows s (numbered_at p t part r).after
numbered_grows s p t part (Ok n) k = grows_then s part.after (change part.after p (with_variable t n)) k (var_grows part.after p (with_variable t n) refl)
numbered_grows s p t part (Err c) k = k

-- all services but $DASSGN
abbrev pub is_dassgn : Service → Bool
is_dassgn Dassgn = true
is_dassgn v = false

pub service_grows : (s : State) (p : Pid) (a : Args) (v : Service) → is_dassgn v ≡ false → Grows s (service_of s p a v).after
service_grows s p a Assign e = numbered_grows s p (place a.a0) (part_of (assign s p (text a.a1) (access_mode a.a2))) (assign s p (text a.a1) (access_mode a.a2)).answer (assign_to_grows s p (outer (access_mode a.a2) (current s p)) (device_named s (text a.a1)))
service_grows s p a CreMbx e =
    let o = crembx s p (text a.a1) (number a.a2) (number a.a3) (number a.a4) (access_mode a.a5) in
    numbered_grows s p (place a.a0) (part_of o) o.answer (or_grows s (is_bad_box s (text a.a1) (number a.a3) (number a.a4)) _ _ (λ q k c e. e) (create_grows s p (outer (access_mode a.a5) (current s p)) (new_box (text a.a1) (number a.a2) (number a.a3) (number a.a4)) (box_named s (text a.a1))))
service_grows s p a DelMbx e = grows_same s (service_of s p a DelMbx).after (kept_rows s (service_of s p a DelMbx).after (service_plainly s p a DelMbx refl).keeps)
service_grows s p a Qio e = grows_same s (service_of s p a Qio).after (kept_rows s (service_of s p a Qio).after (service_plainly s p a Qio refl).keeps)
service_grows s p a QioW e = grows_same s (service_of s p a QioW).after (λ q n. seat_rows s (service_of s p a QioW).after q n ((service_seats s p a QioW refl).seats (q.0 - 1)))
service_grows s p a Cancel e = grows_same s (service_of s p a Cancel).after (kept_rows s (service_of s p a Cancel).after (service_plainly s p a Cancel refl).keeps)
service_grows s p a Dassgn e = absurd (let never : true ≡ false = e in cc)
service_grows s p a v e = grows_same s (service_of s p a v).after (service_aside s p a v refl).rows

-- Attention entries.

abbrev no_attention : Test
no_attention = record { opens = λ k p. not (is_attending k); gone = true }

unasked_lists : (Q : Attention → Type 0) → IsOfLists Untimed Q unasked
unasked_lists Q = record { due = λ n t k. tt; timer = λ t is e. tt; wake = λ t e. tt; attention = λ a e. absurd (let never : false ≡ true = e in cc) }

-- what opens no attention entry keeps what is said of all
plain_held : (Q : Attention → Type 0) (s : State) (es : List Effect) (t : State) → Moves s None es t None → Plain es → AllByRecursion Q s.attention → AllByRecursion Q t.attention
plain_held Q s es t j h k = (moves_held Untimed Q unasked (unasked_lists Q) s None es t None j h.all (all_untimed s.timers, k)).1

set_held : (Q : Attention → Type 0) (s : State) (p : Pid) (q : Asked) (a : Attention) → AllByRecursion Q s.attention → Q a → AllByRecursion Q (attention_set s p q a).after.attention
set_held Q s p q a h k =
    let b = (attention_opened s p q a).after in
    let c = (iosb_part b p q.iosb done_at_once).after in
    let d = (flag_where_named c (cell c p q.efn) true).after in
    let all : AllByRecursion Q d.attention = subst (AllByRecursion Q) (sym (flag_attention c (cell c p q.efn) true ∙ iosb_attention b p q.iosb done_at_once)) (all_append Q s.attention (a ∷ []) h (k, tt)) in
    either (λ (x : Part). AllByRecursion Q x.after.attention) (is_answered_now d a) (fire_attention d a) (nothing d) (all_less Q (this_attention a.id) d.attention all) all

on_held : (Q : Attention → Type 0) (s : State) (p : Pid) (q : Asked) (d : Device) (o : Option Entry) → ((a : Attention) → a.p ≡ p → a.chan ≡ q.chan → Q a) → AllByRecursion Q s.attention → AllByRecursion Q (attention_on s p q d o).after.attention
on_held Q s p q (device.Unit u) o k h = h
on_held Q s p q (device.Mailbox b) None k h = h
on_held Q s p q (device.Mailbox b) (Some tag) k h = set_held Q s p q (new_attention s p q b tag) h (k (new_attention s p q b tag) refl refl)

accepted_held : (Q : Attention → Type 0) (s : State) (p : Pid) (q : Asked) (to : Cell × Channel) → request_test s p q ≡ Ok to → Here s p → ((a : Attention) → a.p ≡ p → a.chan ≡ q.chan → Q a) → AllByRecursion Q s.attention → AllByRecursion Q (accepted s p q to.0 to.1).after.attention
accepted_held Q s p q to is here k h =
    let one = (flag_part s to.0 false).after in
    let t = (cleared_part s p q to.0).after in
    let same : t.attention ≡ s.attention = iosb_attention one p q.iosb cleared ∙ flag_attention s (Some to.0) false in
    by_bool (λ _. AllByRecursion Q (accepted s p q to.0 to.1).after.attention) (is_attention q.func)
    (λ y. subst (λ (x : Part). AllByRecursion Q x.after.attention) (sym (ap (λ (b : Bool). cond b (attention_on t p q to.1.device q.ast) (transfer t p q to.1)) y)) (on_held Q t p q to.1.device q.ast k (subst (AllByRecursion Q) (sym same) h)))
    (λ n.
    let ok = no_attention in
    let j : PartMoves s (accepted s p q to.0 to.1) = accepted_after s p q to is here in
    let f = transferred_allowed {ok = ok} s p q to.0 to.1 n refl refl in
    (moves_held Untimed Q ok (record { due = λ n t k. tt; timer = λ t is e. tt; wake = λ t e. tt; attention = λ a e. absurd (let never : false ≡ true = e in cc) }) s None (accepted s p q to.0 to.1).effects (accepted s p q to.0 to.1).after None j
    f.all (all_untimed s.timers, h)).1)

-- Services.

grown : (s t : State) → Grows s t → AllByRecursion (Seated s) t.attention → AllSeated t
grown s t g h = all_weaker (Seated s) (Seated t) (λ a k. seated_grows s t a g k) t.attention h

asked_seated : (s : State) (p : Pid) (q : Asked) (to : Cell × Channel) → request_test s p q ≡ Ok to → Here s p → (a : Attention) → a.p ≡ p → a.chan ≡ q.chan → Seated s a
asked_seated s p q to is here a e f =
    let tested = tested_channel s p q.chan to.1 (request_test_row s p q to is).1 in
    record {
      above = rw e here.made.above;
      number = rw f (leb-true 1 q.chan (and_parts _ _ tested.0).0);
      ch = to.1;
      is = rw (e, f) tested.1;
    }

qio_seated : (s : State) (p : Pid) (a : Args) (r : Result (Cell × Channel) Cond) → request_test s p (asked s p a) ≡ r → Here s p → AllSeated s → AllByRecursion (Seated s) (qio_tested s p (asked s p a) r).after.attention
qio_seated s p a (Err c) is here h = h
qio_seated s p a (Ok to) is here h = accepted_held (Seated s) s p (asked s p a) to is here (asked_seated s p (asked s p a) to is here) h

awaited_attention : (s : State) (p : Pid) (w : Wait) (o : Option Cond) → (awaited_at s p w o).after.attention ≡ s.attention
awaited_attention s p w None = refl
awaited_attention s p w (Some c) = refl

qiow_seated : (s : State) (p : Pid) (a : Args) (r : Result (Cell × Channel) Cond) → request_test s p (asked s p a) ≡ r → Here s p → AllSeated s → AllByRecursion (Seated s) (qiow_tested s p (asked s p a) r).after.attention
qiow_seated s p a (Err c) is here h = h
qiow_seated s p a (Ok to) is here h =
    let q = asked s p a in
    let u = (accepted s p q to.0 to.1).after in
    let w = wait.Synch q.efn q.iosb in
    subst (AllByRecursion (Seated s)) (sym (awaited_attention u p w (wait_condition u p w))) (accepted_held (Seated s) s p q to is here (asked_seated s p q to is here) h)

dassgn_seated : (s : State) (p : Pid) (n : ℕ) (r : Result Channel Cond) → channel_test s p n ≡ r → Here s p → AllSeated s → AllSeated (at_tested s (dassgn_at s p n) r).after
dassgn_seated s p n (Err c) is here h = h
dassgn_seated s p n (Ok ch) is here h =
    let a = (cancel_channel s p n).after in
    let rows = kept_rows s a (cancel_channel_keeps s p n) in
    let one = leb-true 1 n (and_parts _ _ (tested_channel s p n ch is).0).0 in
    freed_seated a p n here.made.above one (cancel_channel_attention s p n here.base) (all_weaker (Seated s) (Seated a) (λ x k. seated_on s a x (rows x.p x.chan) k) a.attention (cancel_channel_all (Seated s) s p n h))

pub service_seated : (s : State) (p : Pid) (a : Args) (v : Service) → Here s p → AllSeated s → AllSeated (service_of s p a v).after
service_seated s p a Qio here h = grown s (service_of s p a Qio).after (service_grows s p a Qio refl) (qio_seated s p a (request_test s p (asked s p a)) refl here h)
service_seated s p a QioW here h = grown s (service_of s p a QioW).after (service_grows s p a QioW refl) (qiow_seated s p a (request_test s p (asked s p a)) refl here h)
service_seated s p a Dassgn here h = dassgn_seated s p (number a.a0) (channel_test s p (number a.a0)) refl here h
service_seated s p a v here h =
    let o = service_of s p a v in
    let c : Call = record { service = v; args = a } in
    grown s o.after (service_grows s p a v refl) (plain_held (Seated s) s o.effects o.after (service_moves s p c here) (service_plain s p a v refl) h)

-- Events.

same_seated : (s t : State) → t.attention ≡ s.attention → ((q : Pid) (k : ℕ) → row t q k ≡ row s q k) → AllSeated s → AllSeated t
same_seated s t e r h = subst (AllByRecursion (Seated t)) (sym e) (all_weaker (Seated s) (Seated t) (λ a k. seated_on s t a (r a.p a.chan) k) s.attention h)

served_seated : (s : State) (p : Pid) (c : Call) (o : Outcome Served) (x : Served) → AllSeated o.after → AllSeated (served_call p c o x).after
served_seated s p c o (Answered y) h = seated_change o.after p (with_r0 (number_of y)) refl h
served_seated s p c o Waits h = h

aside_seated : (s t : State) (es : List Effect) → Moves s None es t None → Plain es → Aside s es t → AllSeated s → AllSeated t
aside_seated s t es j f a h = grown s t (grows_same s t a.rows) (plain_held (Seated s) s es t j f h)

on_seated : (s : State) (p : Pid) (n : ℕ) (x : Stop) → Here s p → AllSeated s → AllSeated (run_on s p n x).after
on_seated s p n (stop.Call c) here h =
    let t = change s p (moved_behind n) in
    let o = service_of t p c.args c.service in
    let first : Moves s None [] t None = moved s None p (process_at s p).store (n + 1) refl in
    served_seated t p c o o.answer (service_seated t p c.args c.service (here_after s p None [] t None first here) (seated_change s p (moved_behind n) refl h))
on_seated s p n stop.Return here h = let o = returned s p (process_at s p).frames in aside_seated s o.after o.effects (returned_moves s p (process_at s p).frames) (returned_allowed s p (process_at s p).frames) (returned_aside s p (process_at s p).frames) h
on_seated s p n stop.End here h = let o = returned s p (process_at s p).frames in aside_seated s o.after o.effects (returned_moves s p (process_at s p).frames) (returned_allowed s p (process_at s p).frames) (returned_aside s p (process_at s p).frames) h
on_seated s p n stop.Local here h = h

frame_seated : (s : State) (p : Pid) (f : Frame) (o : Option Wait) → Here s p → AllSeated s → AllSeated (run_frame s p f o).after
frame_seated s p f None here h =
    let a = advanced (image_of s p) (reader p f) (process_at s p).store f.pc in
    let t = change s p (moved_to a.store a.place) in
    let first : Moves s None [] t None = moved s None p a.store a.place (advanced_statuses (image_of s p) (reader p f) (process_at s p).store f.pc) in
    on_seated t p a.place a.stop (here_after s p None [] t None first here) (seated_change s p (moved_to a.store a.place) refl h)
frame_seated s p f (Some w) here h = seated_change s p (resumed_with w (or_normal (wait_condition s p w))) (uses_channels w (with_wait None (process_at s p))) h

run_seated : (s : State) (p : Pid) (frames : List Frame) → Here s p → AllSeated s → AllSeated (run s p frames).after
run_seated s p [] here h = h
run_seated s p (f ∷ fs) here h = frame_seated s p f f.wait here h

delivered_seated : (s : State) (p : Pid) (o : Option Queued) → AllSeated s → AllSeated (delivered s p o).after
delivered_seated s p None h = h
delivered_seated s p (Some q) h =
    let t = change s p (without_ast q.id) in
    let b = started t p q q.tag in
    aside_seated t b.after b.effects (started_moves t p q q.tag) (started_allowed t p q q.tag) (started_aside t p q q.tag) (seated_change s p (without_ast q.id) refl h)

beg_seated : (s : State) (o : Option Request) → AllSeated s → AllSeated (beg s o).after
beg_seated s None h = h
beg_seated s (Some r) h = same_seated s (begun s r) refl (λ q k. refl) h

-- of all events but rundown
pub step_seated : (s : State) (e : Event) → is_rundown e ≡ false → IsThere s e → Base s → AllSeated s → AllSeated (step s e).after
step_seated s (event.Run p) other made b h = run_seated s p (process_at s p).frames (record { base = b; made = made }) h
step_seated s (event.Ast p) other made b h = delivered_seated s p (deliverable_ast s p) h
step_seated s (event.Rdn p) other made b h = absurd (let never : true ≡ false = other in cc)
step_seated s (event.Beg u) other made b h = beg_seated s (front u s.requests) h
step_seated s (event.Don u) other made b h = don_seated (in_service u s.requests)
  where
    don_seated : (o : Option Request) → AllSeated (step s (event.Don u)).after
    don_seated o = let x = step s (event.Don u) in grown s x.after (grows_same s x.after (λ q k. don_rows q s u (in_service u s.requests) k)) (plain_held (Seated s) s x.effects x.after (step_moves s (event.Don u) refl made b) (don_allowed s u (in_service u s.requests)) h)
step_seated s event.Tick other made b h = let o = step s event.Tick in aside_seated s o.after o.effects (step_moves s event.Tick refl made b) (tick_allowed s) (tick_aside s) h
