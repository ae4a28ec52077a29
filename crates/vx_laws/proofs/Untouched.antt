-- What most parts of the machine leave alone of each process: its phase, its channels, and what its frames wait for.
use Rattle.std.proofs.Common.{◌∙◌, ◌≡◌, ℕ, List, [], ◌∷◌, Bool, true, false, cond, not, ◌==◌, ◌&&◌, nat_lt, nat_le, length, Option, Some, None, Result, Ok, Err, is_some, position, is_none, refl, ◌-◌, ◌++◌, ap, zero, suc, get_or, get_or-set_other, set, map, ◌||◌, sym, replicate}
use Rattle.std.specs.List.{filter, find, list_any}
use Rattle.vx_base.specs.Modes.{outer, is_kernel}
use Rattle.vx_record.specs.Types.{Alarm, Args, Attention, BoxNo, Cell, Channel, Cond, Device, Entry, Frame, Func, Handler, Mailbox, Mode, Msg, Phase, Pid, Promised, Queued, Req, Request, Service, Status, Target, Timer, Wait}
use Rattle.vx_base.specs.Pieces.{OfTimer, OfWake, cleared}
use Rattle.vx_base.specs.declared.cond.Cond.TheVariants.{Cancel as Cancelled, EndOfFile, Normal}
use Rattle.vx_base.specs.declared.effects.Cell.TheVariants.{Local, Common}
use Rattle.vx_base.specs.declared.frame.FrameKind.TheVariants as kind
use Rattle.vx_base.specs.declared.frame.Phase.TheVariants as phase
use Rattle.vx_base.specs.declared.request.Device.TheVariants as device
use Rattle.vx_base.specs.declared.request.Func.TheVariants.{ReadAttn, WrtAttn}
use Rattle.vx_base.specs.declared.service.Service.TheVariants.{SetEf, ClrEf, ReadEf, WaitFr, WflOr, WflAnd, AscEfc, DacEfc, DlcEfc, DclAst, SetAst, CmExec, CmKrnl, SetImr, CanTim, SchdWk, CanWak, Hiber, Wake, Suspnd, Resume, ForceX, CrePrc, DelPrc, Exit, DclExh, CanExh, Assign, Dassgn, CreMbx, DelMbx, Qio, QioW, Synch, Cancel, GetTim}
use Rattle.vx_record.specs.State.{State, process_at, change, current, nobody, Process, next_id, past_id, with_top}
use Rattle.vx_record.specs.Parts.{Part, Outcome, nothing, each, part_if, refused, refused_value, at_tested, part_of}
use Rattle.vx_record.specs.Charges.{exceeds, ast_need, timer_need, is_direct, is_attention}
use Rattle.vx_record.specs.Flags.{cell, flag_part, flag_where_named, at_named, at_flag, put_flag_at, readef_at, readef, is_common, wants_prmceb, with_local_flag}
use Rattle.vx_record.specs.Finish.{Ending, ending, is_read, fin_part, buf_part, status_of, iosb_part, done_flag_part, done_ast_part, finish, finish_found, this_request, with_stored_bytes, with_stored_status}
use Rattle.vx_record.specs.Mailboxes.{mailbox_at, is_waiting_func, waits_at, this_message, mput_part, mget_part, mcut_part, message_of, read_ending, write_ending, received, write_done, is_attention_at, fire_attention, call_attention, store_message, hand_over, write_box, take_message, read_box, is_answered_now, attend, this_attention}
use Rattle.vx_record.specs.Channels.{channel_test, box_named, device_named, with_channel, free_channel_of, assign_at, assign_to, assign, is_bad_box, new_box, make_box, make_box_in, find_or_create, crembx, marked_box, delmbx_on, delmbx_at, is_assigned, goes_unused, box_gone, swept_device, swept_box, free_channel, box_number, box_made}
use Rattle.vx_record.specs.Cancel.{mark_part, withdraw, cancelled_request, cancel_request, is_request_on, is_attention_on, drop_attention, cancel_channel, cancel_at, dassgn_at}
use Rattle.vx_record.specs.Requests.{attention_set, Asked, request_test, new_request, opened_request, begun_on, transfer, new_attention, attention_opened, done_at_once, attention_on, accepted, qio_tested, with_request}
use Rattle.vx_record.specs.Control.{process_test, changed_process, with_wake, with_suspension, forced, creprc, exit_ast, created, new_part}
use Rattle.vx_record.specs.Timers.{drop_timer, drop_timers, setimr_at, setimr, is_cancelled_timer, scheduled, is_wake_for, unscheduled, que_timer, fire_timer, fired, fire, is_due, at_time, next_time, tick, this_timer, due_again, after_wake, new_timer, new_wake, gettim, with_timer}
use Rattle.vx_record.specs.Rundown.{is_handler_of, drop_handlers, cancel_found, cancel_handlers, cancel_one, free_one, is_timer_in, is_wake_by, cancel_modes, release, drop_asts, part_with, drop_handler, drop_ast, is_ast_reached, without_ast, without_handler, with_handler, new_handler}
use Rattle.vx_record.specs.Services.{number, place, access_mode, text, routine_or_none, decl_place, asked, valued_at, numbered_at, service_of, var_part, routine, with_variable, at_once}
use Rattle.vx_record.specs.Events.{moved_to}
use Rattle.vx_record.specs.declared.served.Served.{Served}
use Rattle.vx_record.specs.declared.served.Served.TheVariants.{Answered}
use Rattle.vx_base.specs.Channels.{channel_at, channels_of}
use Rattle.vx_record.proofs.Lists.{either}
use Rattle.vx_base.specs.Lists.{less, amend}
use Rattle.vx_record.specs.Asts.{declared_ast, charged_ast, que_part, with_queued, with_delivery}
use Rattle.vx_base.specs.declared.mode.Mode.TheVariants.{User}
use Rattle.vx_image.specs.Storage.{Storage}
use Rattle.vx_base.specs.Handlers.{is_handler_with}

-- what frames wait for, the top one first
abbrev pub waits_of : List Frame → List (Option Wait)
waits_of fs = map (λ f. f.wait) fs

-- a process that is not made yet: alive, with no channel, and in its main frame, which waits for nothing
abbrev pub newcomer : Process
newcomer = record nobody { phase = phase.Alive; channels = replicate 64 None; frames = record { kind = kind.Main; mode = User; pc = 0; prm = 0; saved_r0 = 0; wait = None } ∷ [] }

-- what of a process most parts leave alone: its phase, its channels, and what its frames wait for
abbrev pub View : Type 0
View = Phase × List (Option Channel) × List (Option Wait)

abbrev pub view_of : Process → View
view_of pr = (pr.phase, pr.channels, waits_of pr.frames)

abbrev pub view_in : List Process → ℕ → View
view_in prs i = view_of (get_or prs i newcomer)

-- a part of that: the phase and the channels
abbrev pub seat_of : Process → Phase × List (Option Channel)
seat_of pr = (pr.phase, pr.channels)

abbrev pub seat_in : List Process → ℕ → Phase × List (Option Channel)
seat_in prs i = seat_of (get_or prs i newcomer)

abbrev pub phase_in : List Process → ℕ → Phase
phase_in prs i = (get_or prs i newcomer).phase

abbrev pub waits_in : List Process → ℕ → List (Option Wait)
waits_in prs i = waits_of (get_or prs i newcomer).frames

-- all processes are in the phases that they were in, with the channels that they had, and wait for what they did
pub record Keeps (s t : State) : Type 0 where
  pub views : (i : ℕ) → view_in t.procs i ≡ view_in s.procs i

pub keep_seats : {s t : State} → Keeps s t → (i : ℕ) → seat_in t.procs i ≡ seat_in s.procs i
keep_seats k i = ap (λ (x : View). (x.0, x.1)) (k.views i)

pub keep_phases : {s t : State} → Keeps s t → (i : ℕ) → phase_in t.procs i ≡ phase_in s.procs i
keep_phases k i = ap (λ (x : View). x.0) (k.views i)

pub keep_waits : {s t : State} → Keeps s t → (i : ℕ) → waits_in t.procs i ≡ waits_in s.procs i
keep_waits k i = ap (λ (x : View). x.2) (k.views i)

pub keep_none : (s : State) → Keeps s s
keep_none s = record { views = λ i. refl }

pub keep_then : {s t u : State} → Keeps s t → Keeps t u → Keeps s u
keep_then h k = record { views = λ i. k.views i ∙ h.views i }

-- the processes are the same
pub keep_procs : (s t : State) → t.procs ≡ s.procs → Keeps s t
keep_procs s t e = record { views = λ i. ap (λ (prs : List Process). view_in prs i) e }

-- process p may have other channels, and all else of that is kept
pub record Shifts (p : Pid) (s t : State) : Type 0 where
  pub seats : (i : ℕ) → (p.0 - 1 ≡ i → ⊥) → seat_in t.procs i ≡ seat_in s.procs i
  pub phases : (i : ℕ) → phase_in t.procs i ≡ phase_in s.procs i
  pub waits : (i : ℕ) → waits_in t.procs i ≡ waits_in s.procs i

shift_of : {p : Pid} {s t : State} → Keeps s t → Shifts p s t
shift_of k = record { seats = λ i n. keep_seats k i; phases = keep_phases k; waits = keep_waits k }

shift_then : {p : Pid} {s t u : State} → Shifts p s t → Shifts p t u → Shifts p s u
shift_then h k = record { seats = λ i n. k.seats i n ∙ h.seats i n; phases = λ i. k.phases i ∙ h.phases i; waits = λ i. k.waits i ∙ h.waits i }

shift_or : {A : Type 0} {p : Pid} (s : State) (b : Bool) (x y : Outcome A) → Shifts p s x.after → Shifts p s y.after → Shifts p s (cond b x y).after
shift_or s true x y h k = h
shift_or s false x y h k = k

shift_each : {A : Type 0} {p : Pid} (f : State → A → Part) → ((t : State) (x : A) → Shifts p t (f t x).after) → (xs : List A) (s : State) → Shifts p s (each f xs s).after
shift_each f k [] s = shift_of (keep_none s)
shift_each f k (x ∷ xs) s = shift_then (k s x) (shift_each f k xs (f s x).after)

abbrev PartKeeps : State → Part → Type 0
PartKeeps s a = Keeps s a.after

abbrev OutcomeKeeps : {A : Type 0} → State → Outcome A → Type 0
OutcomeKeeps s o = Keeps s o.after

keep_either : (s : State) (b : Bool) (x y : Part) → PartKeeps s x → PartKeeps s y → PartKeeps s (cond b x y)
keep_either s true x y h k = h
keep_either s false x y h k = k

keep_or : {A : Type 0} (s : State) (b : Bool) (x y : Outcome A) → OutcomeKeeps s x → OutcomeKeeps s y → OutcomeKeeps s (cond b x y)
keep_or s true x y h k = h
keep_or s false x y h k = k

keep_if : (s : State) (b : Bool) (x : Part) → PartKeeps s x → PartKeeps s (part_if b x s)
keep_if s b x h = keep_either s b x (nothing s) h (keep_none s)

keep_each : {A : Type 0} (f : State → A → Part) → ((t : State) (x : A) → PartKeeps t (f t x)) → (xs : List A) (s : State) → PartKeeps s (each f xs s)
keep_each f k [] s = keep_none s
keep_each f k (x ∷ xs) s = keep_then (k s x) (keep_each f k xs (f s x).after)

-- one process is changed, and R holds of it before and after: then of each
pub one_changed : (R : Process → Process → Type 0) → ((x : Process) → R x x) → (l : List Process) (i j : ℕ) (a : Process) → R (get_or l i nobody) a → R (get_or l j newcomer) (get_or (set l i a) j newcomer)
one_changed R k [] i j a h = k newcomer
one_changed R k (x ∷ xs) zero zero a h = h
one_changed R k (x ∷ xs) zero (suc j) a h = k (get_or xs j newcomer)
one_changed R k (x ∷ xs) (suc i) zero a h = k x
one_changed R k (x ∷ xs) (suc i) (suc j) a h = one_changed R k xs i j a h

pub set_views : {T : Type 0} (g : Process → T) (l : List Process) (i j : ℕ) (a : Process) → g a ≡ g (get_or l i nobody) → g (get_or (set l i a) j newcomer) ≡ g (get_or l j newcomer)
set_views g l i j a h = one_changed (λ x y. g y ≡ g x) (λ x. refl) l i j a h

-- a process is changed, but nothing of that
pub keep_same : (s : State) (p : Pid) (f : Process → Process) → view_of (f (process_at s p)) ≡ view_of (process_at s p) → Keeps s (change s p f)
keep_same s p f e = record { views = λ i. set_views view_of s.procs (p.0 - 1) i (f (process_at s p)) e }

place_waits : (place : ℕ) (fs : List Frame) → waits_of (with_top (λ f. record f { pc = place }) fs) ≡ waits_of fs
place_waits place [] = refl
place_waits place (f ∷ fs) = refl

pub keep_moved : (s : State) (p : Pid) (store : Storage) (place : ℕ) → Keeps s (change s p (moved_to store place))
keep_moved s p store place = let pr = process_at s p in keep_same s p (moved_to store place) (ap (λ (ws : List (Option Wait)). (pr.phase, pr.channels, ws)) (place_waits place pr.frames))

-- Flags.

flag_keeps : (s : State) (c : Cell) (on : Bool) → PartKeeps s (flag_part s c on)
flag_keeps s (Local p n) on = keep_same s p (with_local_flag n on) (either (λ (x : Process). view_of x ≡ view_of (process_at s p)) (nat_lt n 32) _ _ refl refl)
flag_keeps s (Common g a n) on = keep_procs s _ refl

named_keeps : (s : State) (o : Option Cell) (on : Bool) → PartKeeps s (flag_where_named s o on)
named_keeps s None on = keep_none s
named_keeps s (Some c) on = flag_keeps s c on

at_named_by : {A : Type 0} (P : Outcome A → Type 0) (refuse : Cond → Outcome A) (go : Cell → Outcome A) (o : Option Cell) → ((c : Cond) → P (refuse c)) → ((c : Cell) → P (go c)) → P (at_named refuse go o)
at_named_by P refuse go None f g = f _
at_named_by P refuse go (Some c) f g = g c

pub at_flag_by : {A : Type 0} (P : Outcome A → Type 0) (s : State) (p : Pid) (efn : ℕ) (refuse : Cond → Outcome A) (go : Cell → Outcome A) → ((c : Cond) → P (refuse c)) → ((c : Cell) → P (go c)) → P (at_flag s p efn refuse go)
at_flag_by P s p efn refuse go f g = either P (nat_lt 127 efn) _ _ (f _) (at_named_by P refuse go (cell s p efn) f g)

-- Finish.

que_keeps : (s : State) (p : Pid) (q : Queued) → PartKeeps s (que_part s p q)
que_keeps s p q = keep_same s p (with_queued q) refl

done_ast_keeps : (s : State) (r : Req) (o : Option Promised) → PartKeeps s (done_ast_part s r o)
done_ast_keeps s r None = keep_none s
done_ast_keeps s r (Some a) = que_keeps s r.p (charged_ast r.id a.mode a.tag)

iosb_keeps : (s : State) (p : Pid) (i : ℕ) (st : Status) → PartKeeps s (iosb_part s p i st)
iosb_keeps s p i st = keep_if s (not (i == 0)) _ (keep_same s p (with_stored_status i st) refl)

buf_keeps : (s : State) (r : Req) (e : Ending) → PartKeeps s (buf_part s r e)
buf_keeps s r e = keep_if s (is_read r.func && nat_lt 0 e.0.count) _ (keep_same s r.p (with_stored_bytes r.buf e.0.bytes) refl)

pub finish_keeps : (s : State) (r : Request) (e : Ending) → PartKeeps s (finish s r e)
finish_keeps s r e =
    let a = (fin_part s r.req.id e.0.cond).after in
    let b = (buf_part a r.req e).after in
    let c = (iosb_part b r.req.p r.req.iosb (status_of e)).after in
    let d = (done_flag_part c r.req).after in
    keep_then (keep_procs s a refl) (keep_then (buf_keeps a r.req e) (keep_then (iosb_keeps b r.req.p r.req.iosb (status_of e)) (keep_then (named_keeps c (cell c r.req.p r.req.efn) true) (done_ast_keeps d r.req r.ast))))

found_keeps : (s : State) (o : Option Request) (e : Ending) → PartKeeps s (finish_found s o e)
found_keeps s None e = keep_none s
found_keeps s (Some r) e = finish_keeps s r e

write_done_keeps : (s : State) (m : Msg) → PartKeeps s (write_done s m)
write_done_keeps s m = found_keeps s (find (this_request m.id) s.requests) (write_ending m)

-- Mailboxes.

received_keeps : (s : State) (b : BoxNo) (m : Msg) (r : Request) → PartKeeps s (received s b m r)
received_keeps s b m r = keep_then (keep_procs s (mget_part s b m r.req.id).after refl) (finish_keeps (mget_part s b m r.req.id).after r (read_ending r.req m m.body))

fire_attention_keeps : (s : State) (a : Attention) → PartKeeps s (fire_attention s a)
fire_attention_keeps s a =
    let t = record s { attention = less (this_attention a.id) s.attention } in
    keep_then (keep_procs s t refl) (que_keeps t a.p (charged_ast a.id a.mode a.tag))

call_attention_keeps : (s : State) (n : BoxNo) (func : Func) → PartKeeps s (call_attention s n func)
call_attention_keeps s n func = keep_each fire_attention fire_attention_keeps (filter (is_attention_at n func) s.attention) s

store_keeps : (s : State) (b : BoxNo) (m : Msg) → PartKeeps s (store_message s b m)
store_keeps s b m = keep_then (keep_if s (not m.held) (write_done s m) (write_done_keeps s m)) (call_attention_keeps (part_if (not m.held) (write_done s m) s).after b WrtAttn)

hand_keeps : (s : State) (b : BoxNo) (m : Msg) (o : Option Request) → PartKeeps s (hand_over s b m o)
hand_keeps s b m None = store_keeps s b m
hand_keeps s b m (Some r) = keep_then (received_keeps s b m r) (write_done_keeps (received s b m r).after m)

write_keeps : (s : State) (b : BoxNo) (m : Msg) → PartKeeps s (write_box s b m)
write_keeps s b m = let a = (mput_part s b m).after in keep_then (keep_procs s a refl) (hand_keeps a b m (find (waits_at b) a.requests))

take_keeps : (s : State) (b : BoxNo) (r : Request) (ms : List Msg) → PartKeeps s (take_message s b r ms)
take_keeps s b r [] =
    let part = part_if (not (is_waiting_func r.req.func)) (finish s r (ending EndOfFile 0 0 [])) s in
    keep_then (keep_if s (not (is_waiting_func r.req.func)) (finish s r (ending EndOfFile 0 0 [])) (finish_keeps s r (ending EndOfFile 0 0 []))) (call_attention_keeps part.after b ReadAttn)
take_keeps s b r (m ∷ ms) = let a = (received s b m r).after in keep_then (received_keeps s b m r) (keep_if a m.held (write_done a m) (write_done_keeps a m))

attend_keeps : (s : State) (a : Attention) → PartKeeps s (attend s a)
attend_keeps s a = keep_if s (is_answered_now s a) (fire_attention s a) (fire_attention_keeps s a)

-- Requests.

begun_keeps : (s : State) (r : Request) (d : Device) → PartKeeps s (begun_on s r d)
begun_keeps s r (device.Unit u) = keep_none s
begun_keeps s r (device.Mailbox b) = keep_either s (is_read r.req.func) (read_box s b r) (write_box s b (message_of r.req)) (take_keeps s b r (mailbox_at s b).messages) (write_keeps s b (message_of r.req))

transfer_keeps : (s : State) (p : Pid) (q : Asked) (ch : Channel) → PartKeeps s (transfer s p q ch)
transfer_keeps s p q ch =
    let r = new_request s p q ch in
    keep_then (keep_either s (is_direct s ch.device) _ _ (keep_procs s (with_request (past_id s) r) refl) (keep_procs s (with_request (past_id s) r) refl)) (begun_keeps (opened_request s p q ch).after r ch.device)

attention_set_keeps : (s : State) (p : Pid) (q : Asked) (a : Attention) → PartKeeps s (attention_set s p q a)
attention_set_keeps s p q a =
    let b = (attention_opened s p q a).after in
    let c = (iosb_part b p q.iosb done_at_once).after in
    let d = (flag_where_named c (cell c p q.efn) true).after in
    keep_then (keep_procs s b refl) (keep_then (iosb_keeps b p q.iosb done_at_once) (keep_then (named_keeps c (cell c p q.efn) true) (attend_keeps d a)))

attention_on_keeps : (s : State) (p : Pid) (q : Asked) (d : Device) (o : Option Entry) → PartKeeps s (attention_on s p q d o)
attention_on_keeps s p q (device.Unit u) o = keep_none s
attention_on_keeps s p q (device.Mailbox b) None = keep_none s
attention_on_keeps s p q (device.Mailbox b) (Some tag) = attention_set_keeps s p q (new_attention s p q b tag)

pub accepted_keeps : (s : State) (p : Pid) (q : Asked) (c : Cell) (ch : Channel) → PartKeeps s (accepted s p q c ch)
accepted_keeps s p q c ch =
    let one = (flag_part s c false).after in
    let two = (iosb_part one p q.iosb cleared).after in
    keep_then (flag_keeps s c false) (keep_then (iosb_keeps one p q.iosb cleared) (keep_either two (is_attention q.func) (attention_on two p q ch.device q.ast) (transfer two p q ch) (attention_on_keeps two p q ch.device q.ast) (transfer_keeps two p q ch)))

qio_keeps : (s : State) (p : Pid) (q : Asked) (r : Result (Cell × Channel) Cond) → OutcomeKeeps s (qio_tested s p q r)
qio_keeps s p q (Err c) = keep_none s
qio_keeps s p q (Ok to) = accepted_keeps s p q to.0 to.1

-- Channels.

tested_keeps : {A : Type 0} (s : State) (go : A → Outcome Cond) (r : Result A Cond) → ((x : A) → OutcomeKeeps s (go x)) → OutcomeKeeps s (at_tested s go r)
tested_keeps s go (Err c) f = keep_none s
tested_keeps s go (Ok x) f = f x

channel_shifts : (s : State) (p : Pid) (n : ℕ) (ch : Option Channel) → Shifts p s (change s p (with_channel n ch))
channel_shifts s p n ch = let pr = with_channel n ch (process_at s p) in record {
  seats = λ i off. ap seat_of (get_or-set_other s.procs (p.0 - 1) i pr newcomer (λ same. off (sym same)));
  phases = λ i. set_views (λ x. x.phase) s.procs (p.0 - 1) i pr refl;
  waits = λ i. set_views (λ x. waits_of x.frames) s.procs (p.0 - 1) i pr refl;
}

assign_at_shifts : (s : State) (p : Pid) (d : Device) (mode : Mode) (o : Option ℕ) → Shifts p s (assign_at s p d mode o).after
assign_at_shifts s p d mode None = shift_of (keep_none s)
assign_at_shifts s p d mode (Some n) = channel_shifts s p n (Some (record { device = d; mode = mode }))

assign_to_shifts : (s : State) (p : Pid) (mode : Mode) (o : Option Device) → Shifts p s (assign_to s p mode o).after
assign_to_shifts s p mode None = shift_of (keep_none s)
assign_to_shifts s p mode (Some d) = assign_at_shifts s p d mode (free_channel_of s p)

make_box_shifts : (s : State) (p : Pid) (mode : Mode) (box : Mailbox) (n : ℕ) (o : Option ℕ) → Shifts p s (make_box s p mode box n o).after
make_box_shifts s p mode box n None = shift_of (keep_none s)
make_box_shifts s p mode box n (Some c) =
    let a = (box_made s n box).after in
    shift_then (shift_of (keep_procs s a refl)) (channel_shifts a p c (Some (record { device = device.Mailbox (box_number n); mode = mode })))

make_box_in_shifts : (s : State) (p : Pid) (mode : Mode) (box : Mailbox) (o : Option ℕ) → Shifts p s (make_box_in s p mode box o).after
make_box_in_shifts s p mode box None = shift_of (keep_none s)
make_box_in_shifts s p mode box (Some n) = make_box_shifts s p mode box n (free_channel_of s p)

find_or_create_shifts : (s : State) (p : Pid) (mode : Mode) (box : Mailbox) (o : Option ℕ) → Shifts p s (find_or_create s p mode box o).after
find_or_create_shifts s p mode box None = shift_or s (box.permanent && not (process_at s p).privs.prmmbx) _ _ (shift_of (keep_none s)) (make_box_in_shifts s p mode box (position is_none s.boxes))
find_or_create_shifts s p mode box (Some n) = assign_at_shifts s p _ mode (free_channel_of s p)

crembx_shifts : (s : State) (p : Pid) (name : List ℕ) (perm maxmsg bufquo : ℕ) (mode : Mode) → Shifts p s (crembx s p name perm maxmsg bufquo mode).after
crembx_shifts s p name perm maxmsg bufquo mode = shift_or s (is_bad_box s name maxmsg bufquo) _ _ (shift_of (keep_none s)) (find_or_create_shifts s p (outer mode (current s p)) (new_box name perm maxmsg bufquo) (box_named s name))

delmbx_keeps : (s : State) (p : Pid) (d : Device) → OutcomeKeeps s (delmbx_on s p d)
delmbx_keeps s p (device.Unit u) = keep_none s
delmbx_keeps s p (device.Mailbox n) =
    let box = mailbox_at s n in
    keep_or s (box.permanent && not (process_at s p).privs.prmmbx) _ _ (keep_none s) (keep_if s box.permanent (marked_box s n) (keep_procs s (marked_box s n).after refl))

swept_device_keeps : (s : State) (d : Device) → PartKeeps s (swept_device s d)
swept_device_keeps s (device.Unit u) = keep_none s
swept_device_keeps s (device.Mailbox n) = keep_if s (not (is_assigned s n) && goes_unused (mailbox_at s n)) (box_gone s n) (keep_procs s (box_gone s n).after refl)

pub swept_keeps : (s : State) (o : Option Channel) → PartKeeps s (swept_box s o)
swept_keeps s None = keep_none s
swept_keeps s (Some ch) = swept_device_keeps s ch.device

pub free_shifts : (s : State) (p : Pid) (n : ℕ) → Shifts p s (free_channel s p n).after
free_shifts s p n = shift_then (channel_shifts s p n None) (shift_of (swept_keeps (change s p (with_channel n None)) (channel_at (process_at s p).channels n)))

-- Cancelling.

withdraw_keeps : (s : State) (r : Request) (d : Device) → PartKeeps s (withdraw s r d)
withdraw_keeps s r (device.Unit u) = keep_none s
withdraw_keeps s r (device.Mailbox n) = keep_if s (list_any (this_message r.req.id) (mailbox_at s n).messages) (mcut_part s n r.req.id) (keep_procs s (mcut_part s n r.req.id).after refl)

cancel_request_keeps : (s : State) (r : Request) → PartKeeps s (cancel_request s r)
cancel_request_keeps s r =
    let w = withdraw s r r.req.device in
    keep_either s r.served _ (cancelled_request s r) (keep_if s (not r.marked) (mark_part s r) (keep_procs s (mark_part s r).after refl))
    (keep_then (withdraw_keeps s r r.req.device) (finish_keeps w.after r (ending Cancelled 0 0 [])))

pub cancel_channel_keeps : (s : State) (p : Pid) (n : ℕ) → PartKeeps s (cancel_channel s p n)
cancel_channel_keeps s p n =
    let one = each cancel_request (filter (is_request_on p n) s.requests) s in
    keep_then (keep_each cancel_request cancel_request_keeps (filter (is_request_on p n) s.requests) s)
    (keep_each drop_attention (λ t a. keep_procs t (drop_attention t a).after refl) (filter (is_attention_on p n) one.after.attention) one.after)

-- Timers.

pub drop_timers_keeps : (s : State) (passes : Timer → Bool) → PartKeeps s (drop_timers passes s)
drop_timers_keeps s passes = keep_each drop_timer (λ t x. keep_procs t (drop_timer t x).after refl) (filter passes s.timers) s

setimr_keeps : (s : State) (p : Pid) (efn delta : ℕ) (tag : Option Entry) (reqid : ℕ) → OutcomeKeeps s (setimr s p efn delta tag reqid)
setimr_keeps s p efn delta tag reqid =
    at_flag_by (OutcomeKeeps s) s p efn (refused s) (setimr_at s p efn delta tag reqid) (λ c. keep_none s)
    (λ c. let a = (flag_part s c false).after in
    keep_or s (exceeds s p (timer_need (is_some tag))) _ _ (keep_none s) (keep_then (flag_keeps s c false) (keep_procs a (with_timer (past_id a) (new_timer a p efn delta tag reqid)) refl)))

scheduled_keeps : (s : State) (p : Pid) (delta repeat : ℕ) (q : Pid) → OutcomeKeeps s (scheduled s p delta repeat q)
scheduled_keeps s p delta repeat q = keep_or s (exceeds s p (ast_need true)) _ _ (keep_none s) (keep_procs s (with_timer (past_id s) (new_wake s p q delta repeat)) refl)

que_timer_keeps : (s : State) (t : Timer) (mode : Mode) (o : Option Entry) → PartKeeps s (que_timer s t mode o)
que_timer_keeps s t mode None = keep_none s
que_timer_keeps s t mode (Some tag) = que_keeps s t.p (charged_ast t.id mode tag)

fired_keeps : (s : State) (t : Timer) (a : Alarm) → PartKeeps s (fired s t a)
fired_keeps s t (OfTimer efn reqid mode tag) =
    let one = (fire_timer s t).after in
    let two = (flag_where_named one (cell one t.p efn) true).after in
    keep_then (keep_procs s one refl) (keep_then (named_keeps one (cell one t.p efn) true) (que_timer_keeps two t mode tag))
fired_keeps s t (OfWake target repeat) =
    let a = after_wake s t repeat in
    keep_then (either (λ (x : State). Keeps s x) (repeat == 0) _ _ (keep_procs s (record s { timers = less (this_timer t.id) s.timers }) refl) (keep_procs s (record s { timers = amend (this_timer t.id) (due_again repeat) s.timers }) refl)) (keep_same a target (with_wake true) refl)

pub tick_keeps : (s : State) → PartKeeps s (tick s)
tick_keeps s =
    let a = at_time s (next_time s) in
    keep_then (keep_procs s a refl) (keep_each fire (λ t x. fired_keeps t x x.what) (filter (is_due (next_time s)) s.timers) a)

-- Handlers and rundown.

pub drop_handlers_keeps : (s : State) (p : Pid) (test : Handler → Bool) → PartKeeps s (drop_handlers s p test)
drop_handlers_keeps s p test = keep_each (drop_handler p) (λ t d. keep_same t p (without_handler d.id) refl) (filter test (process_at s p).handlers) s

cancel_found_keeps : (s : State) (p : Pid) (o : Option Handler) → OutcomeKeeps s (cancel_found s p o)
cancel_found_keeps s p None = keep_none s
cancel_found_keeps s p (Some d) = keep_same s p (without_handler d.id) refl

cancel_handlers_keeps : (s : State) (p : Pid) (o : Option Entry) → OutcomeKeeps s (cancel_handlers s p o)
cancel_handlers_keeps s p None = drop_handlers_keeps s p (is_handler_of (current s p))
cancel_handlers_keeps s p (Some tag) = cancel_found_keeps s p (find (is_handler_with (current s p) tag) (process_at s p).handlers)

pub release_shifts : (s : State) (p : Pid) (m : Mode) → Shifts p s (release s p m).after
release_shifts s p m =
    let ns = channels_of m (process_at s p).channels in
    let one = (each (free_one p) ns s).after in
    let two = (drop_asts p m one).after in
    let three = (part_with p 2 two).after in
    shift_then (shift_each (free_one p) (λ t n. free_shifts t p n) ns s)
    (shift_of (keep_then (keep_each (drop_ast p) (λ t q. keep_same t p (without_ast q.id) refl) (filter (is_ast_reached m) (process_at one p).asts) one)
    (keep_then (keep_procs two three refl) (keep_procs three (part_with p 3 three).after refl))))

pub cancel_modes_keeps : (s : State) (p : Pid) (m : Mode) → PartKeeps s (cancel_modes s p m)
cancel_modes_keeps s p m =
    let ns = channels_of m (process_at s p).channels in
    let one = (each (cancel_one p) ns s).after in
    let two = (drop_timers (is_timer_in p m) one).after in
    keep_then (keep_each (cancel_one p) (λ t n. cancel_channel_keeps t p n) ns s) (keep_then (drop_timers_keeps one (is_timer_in p m)) (drop_timers_keeps two (is_wake_by p)))

-- Services that neither turn frames nor wait, and those that change channels.

var_keeps : (s : State) (p : Pid) (t : Target) (n : ℕ) → PartKeeps s (var_part s p t n)
var_keeps s p t n = keep_same s p (with_variable t n) refl

-- it answers, and K holds of what was before it and what is after it
pub record Plainly (K : State → State → Type 0) (s : State) (o : Outcome Served) : Type 0 where
  pub cond : Cond
  pub is : o.answer ≡ Answered cond
  pub keeps : K s o.after

pub once_plainly : {K : State → State → Type 0} (s : State) (o : Outcome Cond) → K s o.after → Plainly K s (at_once o)
once_plainly s o k = record { cond = o.answer; is = refl; keeps = k }

valued_plainly : (s : State) (p : Pid) (t : Target) (part : Part) (r : Result (Cond × ℕ) Cond) → PartKeeps s part → Plainly Keeps s (valued_at p t part r)
valued_plainly s p t part (Ok read) k = record { cond = read.0; is = refl; keeps = keep_then k (var_keeps part.after p t read.1) }
valued_plainly s p t part (Err c) k = record { cond = c; is = refl; keeps = k }

pub numbered_plainly : {K : State → State → Type 0} (s : State) (p : Pid) (t : Target) (part : Part) (r : Result ℕ Cond) → K s (numbered_at p t part r).after → Plainly K s (numbered_at p t part r)
numbered_plainly s p t part (Ok n) k = record { cond = Normal; is = refl; keeps = k }
numbered_plainly s p t part (Err c) k = record { cond = c; is = refl; keeps = k }

numbered_keeps : (s : State) (p : Pid) (t : Target) (part : Part) (r : Result ℕ Cond) → PartKeeps s part → OutcomeKeeps s (numbered_at p t part r)
numbered_keeps s p t part (Ok n) k = keep_then k (var_keeps part.after p t n)
numbered_keeps s p t part (Err c) k = k

numbered_shifts : (s : State) (p : Pid) (t : Target) (part : Part) (r : Result ℕ Cond) → Shifts p s part.after → Shifts p s (numbered_at p t part r).after
numbered_shifts s p t part (Ok n) k = shift_then k (shift_of (var_keeps part.after p t n))
numbered_shifts s p t part (Err c) k = k

new_views : (prs : List Process) (pr : Process) (i : ℕ) → view_of pr ≡ view_of newcomer → view_in (prs ++ pr ∷ []) i ≡ view_in prs i
new_views [] pr zero e = e
new_views [] pr (suc i) e = refl
new_views (x ∷ xs) pr zero e = refl
new_views (x ∷ xs) pr (suc i) e = new_views xs pr i e

newly_keeps : (s : State) (p : Pid) (place : ℕ) → PartKeeps s (new_part s p place)
newly_keeps s p place = record { views = λ i. new_views s.procs (created s p place) i refl }

declared_keeps : (s : State) (p : Pid) (mode : Mode) (tag : Entry) → PartKeeps s (declared_ast s p mode tag)
declared_keeps s p mode tag = keep_then (keep_procs s (past_id s) refl) (que_keeps (past_id s) p (charged_ast (next_id s) mode tag))

forced_keeps : (s : State) (code : ℕ) (p : Pid) → OutcomeKeeps s (forced s code p)
forced_keeps s code p = keep_then (keep_procs s (past_id s) refl) (que_keeps (past_id s) p (exit_ast (next_id s) code))

changed_keeps : (s : State) (q : Pid) (f : Process → Process) → view_of (f (process_at s q)) ≡ view_of (process_at s q) → OutcomeKeeps s (changed_process s f q)
changed_keeps s q f e = keep_same s q f e

pub assign_shifts : (s : State) (p : Pid) (a : Args) → Shifts p s (service_of s p a Assign).after
assign_shifts s p a = numbered_shifts s p (place a.a0) (part_of (assign s p (text a.a1) (access_mode a.a2))) (assign s p (text a.a1) (access_mode a.a2)).answer (assign_to_shifts s p (outer (access_mode a.a2) (current s p)) (device_named s (text a.a1)))

pub crembx_service_shifts : (s : State) (p : Pid) (a : Args) → Shifts p s (service_of s p a CreMbx).after
crembx_service_shifts s p a =
    let o = crembx s p (text a.a1) (number a.a2) (number a.a3) (number a.a4) (access_mode a.a5) in
    numbered_shifts s p (place a.a0) (part_of o) o.answer (crembx_shifts s p (text a.a1) (number a.a2) (number a.a3) (number a.a4) (access_mode a.a5))

pub dassgn_shifts : (s : State) (p : Pid) (n : ℕ) (r : Result Channel Cond) → Shifts p s (at_tested s (dassgn_at s p n) r).after
dassgn_shifts s p n (Err c) = shift_of (keep_none s)
dassgn_shifts s p n (Ok ch) = shift_then (shift_of (cancel_channel_keeps s p n)) (free_shifts (cancel_channel s p n).after p n)

-- services that turn frames, or may wait
abbrev pub holds_up : Service → Bool
holds_up CmExec = true
holds_up CmKrnl = true
holds_up Exit = true
holds_up DelPrc = true
holds_up WaitFr = true
holds_up WflOr = true
holds_up WflAnd = true
holds_up Synch = true
holds_up QioW = true
holds_up Hiber = true
holds_up v = false

-- services by which a process leaves its phase, or its channels change
abbrev pub is_leaving : Service → Bool
is_leaving Exit = true
is_leaving DelPrc = true
is_leaving Assign = true
is_leaving Dassgn = true
is_leaving CreMbx = true
is_leaving v = false

-- the others leave it all alone
abbrev touches : Service → Bool
touches v = holds_up v || is_leaving v

pub service_plainly : (s : State) (p : Pid) (a : Args) (v : Service) → touches v ≡ false → Plainly Keeps s (service_of s p a v)
service_plainly s p a SetEf n = once_plainly s _ (at_flag_by (OutcomeKeeps s) s p (number a.a0) (refused s) (put_flag_at s true) (λ c. keep_none s) (λ c. flag_keeps s c true))
service_plainly s p a ClrEf n = once_plainly s _ (at_flag_by (OutcomeKeeps s) s p (number a.a0) (refused s) (put_flag_at s false) (λ c. keep_none s) (λ c. flag_keeps s c false))
service_plainly s p a ReadEf n = let o = readef s p (number a.a0) in valued_plainly s p (place a.a1) (part_of o) o.answer (at_flag_by (OutcomeKeeps s) s p (number a.a0) (refused_value s) (readef_at s) (λ c. keep_none s) (λ c. keep_none s))
service_plainly s p a AscEfc n = once_plainly s _ (keep_or s (not (is_common (number a.a0))) _ _ (keep_none s) (keep_or s (wants_prmceb s (process_at s p) (text a.a1) (number a.a2)) _ _ (keep_none s) (keep_procs s _ refl)))
service_plainly s p a DacEfc n = once_plainly s _ (keep_or s (not (is_common (number a.a0))) _ _ (keep_none s) (keep_procs s _ refl))
service_plainly s p a DlcEfc n = once_plainly s _ (keep_or s (not (process_at s p).privs.prmceb) _ _ (keep_none s) (keep_procs s _ refl))
service_plainly s p a DclAst n = once_plainly s _ (keep_or s (exceeds s p (ast_need true)) _ _ (keep_none s) (declared_keeps s p (outer (access_mode a.a2) (current s p)) (routine s p a.a0 (number a.a1))))
service_plainly s p a SetAst n = once_plainly s _ (keep_same s p (with_delivery (current s p) (not (number a.a0 == 0))) refl)
service_plainly s p a SetImr n = once_plainly s _ (setimr_keeps s p (number a.a0) (number a.a1) (routine_or_none s p a.a2 (number a.a3)) (number a.a3))
service_plainly s p a CanTim n = once_plainly s _ (drop_timers_keeps s (is_cancelled_timer p (number a.a0) (outer (access_mode a.a1) (current s p))))
service_plainly s p a SchdWk n = once_plainly s _ (tested_keeps s (scheduled s p (number a.a1) (number a.a2)) (process_test s p (number a.a0)) (λ q. scheduled_keeps s p (number a.a1) (number a.a2) q))
service_plainly s p a CanWak n = once_plainly s _ (tested_keeps s (unscheduled s) (process_test s p (number a.a0)) (λ q. drop_timers_keeps s (is_wake_for q)))
service_plainly s p a Wake n = once_plainly s _ (tested_keeps s (changed_process s (with_wake true)) (process_test s p (number a.a0)) (λ q. changed_keeps s q (with_wake true) refl))
service_plainly s p a Suspnd n = once_plainly s _ (tested_keeps s (changed_process s (with_suspension true)) (process_test s p (number a.a0)) (λ q. changed_keeps s q (with_suspension true) refl))
service_plainly s p a Resume n = once_plainly s _ (tested_keeps s (changed_process s (with_suspension false)) (process_test s p (number a.a0)) (λ q. changed_keeps s q (with_suspension false) refl))
service_plainly s p a ForceX n = once_plainly s _ (tested_keeps s (forced s (number a.a1)) (process_test s p (number a.a0)) (λ q. forced_keeps s (number a.a1) q))
service_plainly s p a CrePrc n =
    let o = creprc s p (decl_place s (text a.a1)) in
    numbered_plainly s p (place a.a0) (part_of o) o.answer (numbered_keeps s p (place a.a0) (part_of o) o.answer (keep_or s (nat_le 1000 (length s.procs)) _ _ (keep_none s) (newly_keeps s p (decl_place s (text a.a1)))))
service_plainly s p a DclExh n = once_plainly s _ (keep_or s (is_kernel (current s p)) _ _ (keep_none s) (keep_then (keep_procs s (past_id s) refl) (keep_same (past_id s) p (with_handler (new_handler s p (routine s p a.a0 0))) refl)))
service_plainly s p a CanExh n = once_plainly s _ (keep_or s (is_kernel (current s p)) _ _ (keep_none s) (cancel_handlers_keeps s p (routine_or_none s p a.a0 0)))
service_plainly s p a DelMbx n = once_plainly s _ (tested_keeps s (delmbx_at s p) (channel_test s p (number a.a0)) (λ ch. delmbx_keeps s p ch.device))
service_plainly s p a Qio n = once_plainly s _ (qio_keeps s p (asked s p a) (request_test s p (asked s p a)))
service_plainly s p a Cancel n = once_plainly s _ (tested_keeps s (cancel_at s p (number a.a0)) (channel_test s p (number a.a0)) (λ ch. cancel_channel_keeps s p (number a.a0)))
service_plainly s p a GetTim n = record { cond = Normal; is = refl; keeps = var_keeps s p (place a.a0) (gettim s) }
service_plainly s p a v n = absurd (let yes : true ≡ false = n in cc)
