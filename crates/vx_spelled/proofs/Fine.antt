-- What the machine tells has a spelling, as far as that is no matter of types: a flag of a common cluster is one of 32, an
-- associated cluster is 2 or 3, and a variable is a letter or R0.
use Rattle.std.proofs.Common.{◌≡◌, ℕ, ◌%◌, ◌≤◌, ◌==◌, ◌&&◌, ◌||◌, not, nat_lt, nat_le, Bool, true, false, cond, List, [], ◌∷◌, Option, Some, None, Result, Ok, Err, IfSome, is_none, is_some, length, position, refl, arith}
use Rattle.std.specs.Prelude.{⊤}
use Rattle.std.specs.List.{AllByRecursion, find, filter, list_any}
use Rattle.std.proofs.lemmas.Bool.{and_parts, leb-true}
use Rattle.vx_base.specs.Clusters.{Common as Clusters, Change, associated, cluster_number, dissociated, dissociated_at, followed, is_association, joined, made_where_new, marked_at, parted, swept, swept_at, has_already, is_cluster, is_used, stands}
use Rattle.vx_base.specs.Channels.{channel_at, channels_of}
use Rattle.vx_base.specs.Modes.{inner, is_kernel, outer}
use Rattle.vx_record.specs.Types.{Alarm, Answer, Association, Attention, BoxNo, Cell, Channel, Cluster, Cond, Device, Effect, Entry, Frame, FrameKind, Func, Handler, Mailbox, Mode, Msg, Phase, Pid, Promised, Req, Request, Status, Timer, UnitNo, Wait}
use Rattle.vx_base.specs.Pieces.{cleared, OfTimer, OfWake}
use Rattle.vx_base.specs.Services.{is_target}
use Rattle.vx_base.specs.Serving.{serve, settled}
use Rattle.vx_base.specs.declared.cond.Cond.TheVariants.{BadParam, Cancel, EndOfFile, ExQuota, IllEfc, IllIoFunc, IvSsRq, MbFull, MbTooSml, NoPriv, NoSlot, Normal, UnasEfc}
use Rattle.vx_base.specs.declared.effects.Cell.TheVariants.{Local, Common}
use Rattle.vx_base.specs.declared.effects.Effect.TheVariants as effect
use Rattle.vx_base.specs.declared.frame.FrameKind.TheVariants as kind
use Rattle.vx_base.specs.declared.frame.Phase.TheVariants as phase
use Rattle.vx_base.specs.declared.effects.Opened.TheVariants as opened
use Rattle.vx_base.specs.declared.frame.Wait.TheVariants as wait
use Rattle.vx_base.specs.declared.mode.Mode.TheVariants.{Exec, Kernel}
use Rattle.vx_base.specs.declared.record.Answer.TheVariants as answer
use Rattle.vx_base.specs.declared.request.Device.TheVariants as device
use Rattle.vx_base.specs.declared.request.Func.TheVariants.{ReadAttn, WrtAttn}
use Rattle.vx_record.proofs.Lists.{all_append, either}
use Rattle.vx_record.specs.Asts.{changed_mode, cmexec, cmkrnl, dclast, declared_ast, is_inside, open_part}
use Rattle.vx_record.specs.Cancel.{drop_attentions, is_attention_on, is_request_on, mark_part, cancel_channel, cancel_request, cancelled_request, drop_attention, withdraw, cancel, cancel_at, dassgn, dassgn_at}
use Rattle.vx_record.specs.Charges.{ast_need, exceeds, is_attention, is_direct, moved_bytes, request_need, timer_need}
use Rattle.vx_record.specs.Channels.{box_gone, box_named, device_named, free_channel_of, goes_unused, is_assigned, is_bad_box, marked_box, with_channel, assign, assign_at, assign_to, create_box, crembx, delete_box, delmbx, delmbx_at, delmbx_on, find_or_create, free_channel, make_box, make_box_in, swept_box, swept_device, new_box, box_number, channel_test}
use Rattle.vx_record.specs.Control.{new_part, next_pid, at_process, changed_process, creprc, forced, forcex, hiber, process_test, resume, suspnd, wake, with_suspension, with_wake}
use Rattle.vx_record.specs.Finish.{ending, is_read, put_status, this_request, with_stored_bytes, Ending, buf_part, done_ast_part, done_flag_part, fin_part, finish, finish_found, iosb_part, status_of}
use Rattle.vx_record.specs.Flags.{ascefc, at_flag, at_named, awaited, awaited_at, cell, common_cell, dacefc, dlcefc, flag_part, flag_where_named, is_common, put_flag_at, readef, readef_at, refused_wait, waits_on, wait_condition, wants_prmceb}
use Rattle.vx_record.specs.Mailboxes.{is_answered_now, is_waiting_func, mcut_part, mget_part, mput_part, read_ending, this_message, write_ending, attend, call_attention, fire_attention, hand_over, mailbox_at, read_box, received, store_message, take_message, wait_for_message, waits_at, write_box, write_done, is_attention_at, message_of}
use Rattle.vx_record.specs.Parts.{Outcome, Part, and_then, answered, at_tested, each, followed_by, nothing, part_if, refused, refused_value, tells}
use Rattle.vx_record.specs.Requests.{attention_opened, done_at_once, has_function, is_full, is_too_long, new_attention, new_request, unit_ending, with_request, with_unit, Asked, accepted, asked_of, attention_on, attention_set, begun_on, cleared_part, done, opened_request, qio, qio_tested, qiow, qiow_tested, request_test, synch, transfer, device_test, on_cell, on_channel, is_bad}
use Rattle.vx_record.specs.Rundown.{draining, gone_part, handler_declared, is_ast_reached, is_busy, is_timer_in, is_wake_by, named_for_deletion, without_frames, any_handler, cancel_found, cancel_handlers, cancel_modes, cancel_one, cancelled_in, canexh, dclexh, deleted_by, delprc, drain, drop_all_handlers, drop_ast, drop_asts, drop_handler, drop_handlers, exited, free_one, gone, handling, leave_all, leave_frame, leave_kind, part_with, release, run_down, run_handlers, rundown, rundown_from, inner_modes, is_handler_of}
use Rattle.vx_record.specs.State.{Process, State, change, current, past_id, process_at, unit_at}
use Rattle.vx_record.specs.Timers.{at_time, fire_timer, is_cancelled_timer, is_due, is_wake_for, mode_of_ast, new_wake, next_time, open_timer, with_timer, cantim, canwak, drop_timer, drop_timers, fire, fired, que_timer, scheduled, schdwk, setimr, setimr_at, tick, timer_set, unscheduled}
use Rattle.vx_base.specs.Handlers.{is_handler_with}

abbrev pub IsFineCell : Cell → Type 0
IsFineCell (Local p n) = ⊤
IsFineCell (Common group name n) = n ≤ 31

abbrev pub IsFine : Effect → Type 0
IsFine (effect.Flag c on) = IsFineCell c
IsFine (effect.Var p v n) = is_target v ≡ true
IsFine (effect.Clu p k cluster) = (2 ≤ k) × (k ≤ 3)
IsFine _ = ⊤

abbrev pub AreFine : List Effect → Type 0
AreFine es = AllByRecursion IsFine es

abbrev pub PartFine : Part → Type 0
PartFine a = AreFine a.effects

abbrev pub OutFine : {A : Type 0} → Outcome A → Type 0
OutFine o = AreFine o.effects

-- Parts one after another.

pub then_fine : (a : Part) (f : State → Part) → PartFine a → ((s : State) → PartFine (f s)) → PartFine (and_then a f)
then_fine a f h k = all_append IsFine a.effects (f a.after).effects h (k a.after)

pub followed_fine : {A : Type 0} (a : Part) (f : State → Outcome A) → PartFine a → ((s : State) → OutFine (f s)) → OutFine (followed_by a f)
followed_fine a f h k = all_append IsFine a.effects (f a.after).effects h (k a.after)

each_fine : {A : Type 0} (f : State → A → Part) → ((s : State) (x : A) → PartFine (f s x)) → (xs : List A) (s : State) → PartFine (each f xs s)
each_fine f k [] s = tt
each_fine f k (x ∷ xs) s = then_fine (f s x) (each f xs) (k s x) (each_fine f k xs)

part_either : (b : Bool) (x y : Part) → PartFine x → PartFine y → PartFine (cond b x y)
part_either b x y h k = either PartFine b x y h k

out_either : {A : Type 0} (b : Bool) (x y : Outcome A) → OutFine x → OutFine y → OutFine (cond b x y)
out_either true x y h k = h
out_either false x y h k = k

tested_fine : {A : Type 0} (s : State) (go : A → Outcome Cond) (r : Result A Cond) → ((x : A) → OutFine (go x)) → OutFine (at_tested s go r)
tested_fine s go (Err c) k = tt
tested_fine s go (Ok x) k = k x

-- Flags.

common_fine : (n : ℕ) (o : Option Association) → n ≤ 31 → IfSome (common_cell n o) IsFineCell
common_fine n None h = tt
common_fine n (Some a) h = h

cell_fine : (s : State) (p : Pid) (efn : ℕ) → IfSome (cell s p efn) IsFineCell
cell_fine s p efn = either (λ (o : Option Cell). IfSome o IsFineCell) (nat_lt efn 64) _ _ tt (common_fine (efn % 32) (find (is_association p (cluster_number efn)) s.common.associations) (omega arith))

named_fine : (s : State) (o : Option Cell) (on : Bool) → IfSome o IsFineCell → PartFine (flag_where_named s o on)
named_fine s None on h = tt
named_fine s (Some c) on h = (h, tt)

at_named_fine : {A : Type 0} (refuse : Cond → Outcome A) (go : Cell → Outcome A) (o : Option Cell) → IfSome o IsFineCell → ((c : Cond) → OutFine (refuse c)) → ((c : Cell) → IsFineCell c → OutFine (go c)) → OutFine (at_named refuse go o)
at_named_fine refuse go None h k l = k UnasEfc
at_named_fine refuse go (Some c) h k l = l c h

at_flag_fine : {A : Type 0} (s : State) (p : Pid) (efn : ℕ) (refuse : Cond → Outcome A) (go : Cell → Outcome A) → ((c : Cond) → OutFine (refuse c)) → ((c : Cell) → IsFineCell c → OutFine (go c)) → OutFine (at_flag s p efn refuse go)
at_flag_fine s p efn refuse go k l = out_either (nat_lt 127 efn) (refuse IllEfc) (at_named refuse go (cell s p efn)) (k IllEfc) (at_named_fine refuse go (cell s p efn) (cell_fine s p efn) k l)

pub put_flag_fine : (s : State) (p : Pid) (efn : ℕ) (on : Bool) → OutFine (at_flag s p efn (refused s) (put_flag_at s on))
put_flag_fine s p efn on = at_flag_fine s p efn (refused s) (put_flag_at s on) (λ c. tt) (λ c h. (h, tt))

pub readef_fine : (s : State) (p : Pid) (efn : ℕ) → OutFine (readef s p efn)
readef_fine s p efn = at_flag_fine s p efn (refused_value s) (readef_at s) (λ c. tt) (λ c h. tt)

awaited_at_fine : (s : State) (p : Pid) (w : Wait) (o : Option Cond) → OutFine (awaited_at s p w o)
awaited_at_fine s p w None = tt
awaited_at_fine s p w (Some c) = tt

pub awaited_fine : (s : State) (p : Pid) (w : Wait) → OutFine (awaited s p w)
awaited_fine s p w = awaited_at_fine s p w (wait_condition s p w)

pub waits_fine : (s : State) (p : Pid) (efn : ℕ) (w : Wait) → OutFine (at_flag s p efn (refused_wait s) (waits_on s p w))
waits_fine s p efn w = at_flag_fine s p efn (refused_wait s) (waits_on s p w) (λ c. tt) (λ c h. awaited_fine s p w)

-- Clusters.

abbrev ChangeFine : Change → Type 0
ChangeFine c = AreFine c.effects

abbrev IsTwo : ℕ → Type 0
IsTwo k = (2 ≤ k) × (k ≤ 3)

change_then : (a : Change) (f : Clusters → Change) → ChangeFine a → ((c : Clusters) → ChangeFine (f c)) → ChangeFine (followed a f)
change_then a f h k = all_append IsFine a.effects (f a.after).effects h (k a.after)

change_either : (b : Bool) (x y : Change) → ChangeFine x → ChangeFine y → ChangeFine (cond b x y)
change_either b x y h k = either ChangeFine b x y h k

swept_at_fine : (c : Clusters) (o : Option Cluster) → ChangeFine (swept_at c o)
swept_at_fine c None = tt
swept_at_fine c (Some cl) = change_either (cl.permanent && not cl.marked) _ _ tt (tt, tt)

swept_fine : (c : Clusters) (group : ℕ) (name : List ℕ) → ChangeFine (swept c group name)
swept_fine c group name = change_either (is_used c group name) _ _ tt (swept_at_fine c (find (is_cluster group name) c.clusters))

dissociated_at_fine : (c : Clusters) (p : Pid) (k : ℕ) (o : Option Association) → IsTwo k → ChangeFine (dissociated_at c p k o)
dissociated_at_fine c p k None h = tt
dissociated_at_fine c p k (Some a) h = change_then (parted c p k) (λ d. swept d a.group a.name) (h, tt) (λ d. swept_fine d a.group a.name)

dissociated_fine : (c : Clusters) (p : Pid) (k : ℕ) → IsTwo k → ChangeFine (dissociated c p k)
dissociated_fine c p k h = dissociated_at_fine c p k (find (is_association p k) c.associations) h

made_fine : (c : Clusters) (group : ℕ) (name : List ℕ) (permanent : Bool) → ChangeFine (made_where_new c group name permanent)
made_fine c group name permanent = change_either (stands c group name) _ _ tt (tt, tt)

associated_fine : (c : Clusters) (p : Pid) (k group : ℕ) (name : List ℕ) (permanent : Bool) → IsTwo k → ChangeFine (associated c p k group name permanent)
associated_fine c p k group name permanent h =
    change_either (has_already group name (find (is_association p k) c.associations)) _ _ tt
    (change_then (followed (dissociated c p k) (λ d. made_where_new d group name permanent)) (λ e. joined e p k group name)
    (change_then (dissociated c p k) (λ d. made_where_new d group name permanent) (dissociated_fine c p k h) (λ d. made_fine d group name permanent))
    (λ e. (h, tt)))

marked_at_fine : (c : Clusters) (o : Option Cluster) → ChangeFine (marked_at c o)
marked_at_fine c None = tt
marked_at_fine c (Some cl) = change_either (not cl.permanent) _ _ tt (change_either (is_used c cl.group cl.name) _ _ tt (tt, tt))

common_number : (efn : ℕ) → is_common efn ≡ true → IsTwo (cluster_number efn)
common_number efn h =
    let parts = and_parts (nat_le 64 efn) (nat_le efn 127) h in
    let low = leb-true 64 efn parts.0 in
    let high = leb-true efn 127 parts.1 in
    (omega (arith, low, high), omega (arith, low, high))

-- if a number is one of a common cluster
refused_unless : (b : Bool) (x y : Outcome Cond) → OutFine x → (b ≡ true → OutFine y) → OutFine (cond (not b) x y)
refused_unless true x y h k = k refl
refused_unless false x y h k = h

pub ascefc_fine : (s : State) (p : Pid) (efn : ℕ) (name : List ℕ) (perm : ℕ) → OutFine (ascefc s p efn name perm)
ascefc_fine s p efn name perm =
    refused_unless (is_common efn) _ _ tt (λ e. out_either (wants_prmceb s (process_at s p) name perm) _ _ tt (associated_fine s.common p (cluster_number efn) (process_at s p).group name (not (perm == 0)) (common_number efn e)))

pub dacefc_fine : (s : State) (p : Pid) (efn : ℕ) → OutFine (dacefc s p efn)
dacefc_fine s p efn = refused_unless (is_common efn) _ _ tt (λ e. dissociated_fine s.common p (cluster_number efn) (common_number efn e))

pub dlcefc_fine : (s : State) (p : Pid) (name : List ℕ) → OutFine (dlcefc s p name)
dlcefc_fine s p name = out_either (not (process_at s p).privs.prmceb) _ _ tt (marked_at_fine s.common (find (is_cluster (process_at s p).group name) s.common.clusters))

-- How requests finish.

if_fine : (t : Bool) (a : Part) (s : State) → PartFine a → PartFine (part_if t a s)
if_fine t a s h = part_either t a (nothing s) h tt

buf_fine : (s : State) (r : Req) (e : Ending) → PartFine (buf_part s r e)
buf_fine s r e = if_fine (is_read r.func && nat_lt 0 e.0.count) (tells (effect.Buf r.p r.buf e.0.bytes) (change s r.p (with_stored_bytes r.buf e.0.bytes))) s (tt, tt)

iosb_fine : (s : State) (p : Pid) (i : ℕ) (st : Status) → PartFine (iosb_part s p i st)
iosb_fine s p i st = if_fine (not (i == 0)) (put_status s p i st) s (tt, tt)

done_ast_fine : (s : State) (r : Req) (o : Option Promised) → PartFine (done_ast_part s r o)
done_ast_fine s r None = tt
done_ast_fine s r (Some ast) = (tt, tt)

pub finish_fine : (s : State) (r : Request) (e : Ending) → PartFine (finish s r e)
finish_fine s r e =
    then_fine (and_then (and_then (and_then (fin_part s r.req.id e.0.cond) (λ a. buf_part a r.req e)) (λ b. iosb_part b r.req.p r.req.iosb (status_of e))) (λ c. done_flag_part c r.req)) (λ d. done_ast_part d r.req r.ast)
    (then_fine (and_then (and_then (fin_part s r.req.id e.0.cond) (λ a. buf_part a r.req e)) (λ b. iosb_part b r.req.p r.req.iosb (status_of e))) (λ c. done_flag_part c r.req)
    (then_fine (and_then (fin_part s r.req.id e.0.cond) (λ a. buf_part a r.req e)) (λ b. iosb_part b r.req.p r.req.iosb (status_of e))
    (then_fine (fin_part s r.req.id e.0.cond) (λ a. buf_part a r.req e) (tt, tt) (λ a. buf_fine a r.req e))
    (λ b. iosb_fine b r.req.p r.req.iosb (status_of e)))
    (λ c. named_fine c (cell c r.req.p r.req.efn) true (cell_fine c r.req.p r.req.efn)))
    (λ d. done_ast_fine d r.req r.ast)

finish_found_fine : (s : State) (o : Option Request) (e : Ending) → PartFine (finish_found s o e)
finish_found_fine s None e = tt
finish_found_fine s (Some r) e = finish_fine s r e

-- Mailboxes.

write_done_fine : (s : State) (m : Msg) → PartFine (write_done s m)
write_done_fine s m = finish_found_fine s (find (this_request m.id) s.requests) (write_ending m)

fire_attention_fine : (s : State) (a : Attention) → PartFine (fire_attention s a)
fire_attention_fine s a = (tt, (tt, tt))

call_fine : (s : State) (b : BoxNo) (func : Func) → PartFine (call_attention s b func)
call_fine s b func = each_fine fire_attention fire_attention_fine (filter (is_attention_at b func) s.attention) s

received_fine : (s : State) (b : BoxNo) (m : Msg) (r : Request) → PartFine (received s b m r)
received_fine s b m r = then_fine (mget_part s b m r.req.id) (λ a. finish a r (read_ending r.req m m.body)) (tt, tt) (λ a. finish_fine a r (read_ending r.req m m.body))

store_fine : (s : State) (b : BoxNo) (m : Msg) → PartFine (store_message s b m)
store_fine s b m = then_fine (part_if (not m.held) (write_done s m) s) (λ a. call_attention a b WrtAttn) (if_fine (not m.held) (write_done s m) s (write_done_fine s m)) (λ a. call_fine a b WrtAttn)

hand_over_fine : (s : State) (b : BoxNo) (m : Msg) (o : Option Request) → PartFine (hand_over s b m o)
hand_over_fine s b m None = store_fine s b m
hand_over_fine s b m (Some r) = then_fine (received s b m r) (λ a. write_done a m) (received_fine s b m r) (λ a. write_done_fine a m)

write_fine : (s : State) (b : BoxNo) (m : Msg) → PartFine (write_box s b m)
write_fine s b m = then_fine (mput_part s b m) (λ a. hand_over a b m (find (waits_at b) a.requests)) (tt, tt) (λ a. hand_over_fine a b m (find (waits_at b) a.requests))

wait_fine : (s : State) (b : BoxNo) (r : Request) → PartFine (wait_for_message s b r)
wait_fine s b r =
    let now : Part = finish s r (ending EndOfFile 0 0 []) in
    then_fine (part_if (not (is_waiting_func r.req.func)) now s) (λ a. call_attention a b ReadAttn) (if_fine (not (is_waiting_func r.req.func)) now s (finish_fine s r (ending EndOfFile 0 0 []))) (λ a. call_fine a b ReadAttn)

take_fine : (s : State) (b : BoxNo) (r : Request) (ms : List Msg) → PartFine (take_message s b r ms)
take_fine s b r [] = wait_fine s b r
take_fine s b r (m ∷ ms) = then_fine (received s b m r) (λ a. part_if m.held (write_done a m) a) (received_fine s b m r) (λ a. if_fine m.held (write_done a m) a (write_done_fine a m))

attend_fine : (s : State) (a : Attention) → PartFine (attend s a)
attend_fine s a = if_fine (is_answered_now s a) (fire_attention s a) s (fire_attention_fine s a)

-- Requests.

cleared_fine : (s : State) (p : Pid) (q : Asked) (c : Cell) → IsFineCell c → PartFine (cleared_part s p q c)
cleared_fine s p q c h = then_fine (flag_part s c false) (λ a. iosb_part a p q.iosb cleared) (h, tt) (λ a. iosb_fine a p q.iosb cleared)

opened_fine : (s : State) (p : Pid) (q : Asked) (ch : Channel) → PartFine (opened_request s p q ch)
opened_fine s p q ch =
    let mode : Option Mode = mode_of_ast (current s p) q.ast in
    let after : State = with_request (past_id s) (new_request s p q ch) in
    part_either (is_direct s ch.device) (open_part s opened.Dio p mode 0 after) (open_part s opened.Bio p mode (moved_bytes q.func q.len) after) (tt, tt) (tt, tt)

begun_on_fine : (s : State) (r : Request) (d : Device) → PartFine (begun_on s r d)
begun_on_fine s r (device.Unit u) = tt
begun_on_fine s r (device.Mailbox b) = part_either (is_read r.req.func) (read_box s b r) (write_box s b (message_of r.req)) (take_fine s b r (mailbox_at s b).messages) (write_fine s b (message_of r.req))

transfer_fine : (s : State) (p : Pid) (q : Asked) (ch : Channel) → PartFine (transfer s p q ch)
transfer_fine s p q ch = then_fine (opened_request s p q ch) (λ a. begun_on a (new_request s p q ch) ch.device) (opened_fine s p q ch) (λ a. begun_on_fine a (new_request s p q ch) ch.device)

attention_set_fine : (s : State) (p : Pid) (q : Asked) (a : Attention) → PartFine (attention_set s p q a)
attention_set_fine s p q a =
    then_fine (and_then (attention_opened s p q a) (λ b. iosb_part b p q.iosb done_at_once)) (λ c. and_then (flag_where_named c (cell c p q.efn) true) (λ d. attend d a))
    (then_fine (attention_opened s p q a) (λ b. iosb_part b p q.iosb done_at_once) (tt, tt) (λ b. iosb_fine b p q.iosb done_at_once))
    (λ c. then_fine (flag_where_named c (cell c p q.efn) true) (λ d. attend d a) (named_fine c (cell c p q.efn) true (cell_fine c p q.efn)) (λ d. attend_fine d a))

attention_on_fine : (s : State) (p : Pid) (q : Asked) (d : Device) (o : Option Entry) → PartFine (attention_on s p q d o)
attention_on_fine s p q (device.Mailbox b) (Some tag) = attention_set_fine s p q (new_attention s p q b tag)
attention_on_fine s p q (device.Mailbox b) None = tt
attention_on_fine s p q (device.Unit u) (Some tag) = tt
attention_on_fine s p q (device.Unit u) None = tt

asked_fine : (s : State) (p : Pid) (q : Asked) (ch : Channel) → PartFine (asked_of s p q ch)
asked_fine s p q ch = part_either (is_attention q.func) (attention_on s p q ch.device q.ast) (transfer s p q ch) (attention_on_fine s p q ch.device q.ast) (transfer_fine s p q ch)

accepted_fine : (s : State) (p : Pid) (q : Asked) (c : Cell) (ch : Channel) → IsFineCell c → PartFine (accepted s p q c ch)
accepted_fine s p q c ch h = then_fine (cleared_part s p q c) (λ a. asked_of a p q ch) (cleared_fine s p q c h) (λ a. asked_fine a p q ch)

-- the cell of a request that passes its tests

abbrev IfCell : Result (Cell × Channel) Cond → Type 0
IfCell (Ok to) = IsFineCell to.0
IfCell (Err c) = ⊤

if_cell : (t : Bool) (e : Cond) (r : Result (Cell × Channel) Cond) → IfCell r → IfCell (cond t (Err e) r)
if_cell true e r h = tt
if_cell false e r h = h

device_cell : (s : State) (p : Pid) (q : Asked) (c : Cell) (ch : Channel) → IsFineCell c → IfCell (device_test s p q c ch)
device_cell s p q c ch h =
    let full : Result (Cell × Channel) Cond = cond (exceeds s p (request_need s ch.device q.func (is_some q.ast) q.len)) (Err ExQuota) (Ok (c, ch)) in
    let long : Result (Cell × Channel) Cond = cond (is_full s ch.device q) (Err MbFull) full in
    let short : Result (Cell × Channel) Cond = cond (is_too_long s ch.device q) (Err MbTooSml) long in
    if_cell (not (has_function ch.device q.func)) IllIoFunc short (if_cell (is_too_long s ch.device q) MbTooSml long (if_cell (is_full s ch.device q) MbFull full (if_cell (exceeds s p (request_need s ch.device q.func (is_some q.ast) q.len)) ExQuota (Ok (c, ch)) h)))

channel_cell : (s : State) (p : Pid) (q : Asked) (c : Cell) (r : Result Channel Cond) → IsFineCell c → IfCell (on_channel (device_test s p q c) r)
channel_cell s p q c (Err e) h = tt
channel_cell s p q c (Ok ch) h = device_cell s p q c ch h

on_cell_fine : (s : State) (p : Pid) (q : Asked) (o : Option Cell) → IfSome o IsFineCell → IfCell (on_cell s p q o)
on_cell_fine s p q None h = tt
on_cell_fine s p q (Some c) h = channel_cell s p q c (channel_test s p q.chan) h

test_fine : (s : State) (p : Pid) (q : Asked) → IfCell (request_test s p q)
test_fine s p q = if_cell (is_bad q) BadParam (cond (nat_lt 127 q.efn) (Err IllEfc) (on_cell s p q (cell s p q.efn))) (if_cell (nat_lt 127 q.efn) IllEfc (on_cell s p q (cell s p q.efn)) (on_cell_fine s p q (cell s p q.efn) (cell_fine s p q.efn)))

qio_by : (s : State) (p : Pid) (q : Asked) (r : Result (Cell × Channel) Cond) → IfCell r → OutFine (qio_tested s p q r)
qio_by s p q (Err c) h = tt
qio_by s p q (Ok to) h = accepted_fine s p q to.0 to.1 h

pub qio_fine : (s : State) (p : Pid) (q : Asked) → OutFine (qio s p q)
qio_fine s p q = qio_by s p q (request_test s p q) (test_fine s p q)

qiow_by : (s : State) (p : Pid) (q : Asked) (r : Result (Cell × Channel) Cond) → IfCell r → OutFine (qiow_tested s p q r)
qiow_by s p q (Err c) h = tt
qiow_by s p q (Ok to) h = followed_fine (accepted s p q to.0 to.1) (λ a. awaited a p (wait.Synch q.efn q.iosb)) (accepted_fine s p q to.0 to.1 h) (λ a. awaited_fine a p (wait.Synch q.efn q.iosb))

pub qiow_fine : (s : State) (p : Pid) (q : Asked) → OutFine (qiow s p q)
qiow_fine s p q = qiow_by s p q (request_test s p q) (test_fine s p q)

pub synch_fine : (s : State) (p : Pid) (efn iosb : ℕ) → OutFine (synch s p efn iosb)
synch_fine s p efn iosb = out_either (nat_lt 32 iosb) (refused_wait s BadParam) (at_flag s p efn (refused_wait s) (waits_on s p (wait.Synch efn iosb))) tt (waits_fine s p efn (wait.Synch efn iosb))

pub done_fine : (s : State) (u : UnitNo) (r : Request) → PartFine (done s u r)
done_fine s u r = finish_fine (with_unit s u (settled (unit_at s u) r.req)) r (unit_ending r (serve (unit_at s u) r.req).reply)

-- Channels and mailboxes.

assign_at_fine : (s : State) (p : Pid) (dev : Device) (mode : Mode) (o : Option ℕ) → OutFine (assign_at s p dev mode o)
assign_at_fine s p dev mode None = tt
assign_at_fine s p dev mode (Some n) = tt

assign_to_fine : (s : State) (p : Pid) (mode : Mode) (o : Option Device) → OutFine (assign_to s p mode o)
assign_to_fine s p mode None = tt
assign_to_fine s p mode (Some dev) = assign_at_fine s p dev mode (free_channel_of s p)

pub assign_fine : (s : State) (p : Pid) (name : List ℕ) (mode : Mode) → OutFine (assign s p name mode)
assign_fine s p name mode = assign_to_fine s p (outer mode (current s p)) (device_named s name)

make_fine : (s : State) (p : Pid) (mode : Mode) (box : Mailbox) (b : ℕ) (o : Option ℕ) → OutFine (make_box s p mode box b o)
make_fine s p mode box b None = tt
make_fine s p mode box b (Some n) = (tt, tt)

make_in_fine : (s : State) (p : Pid) (mode : Mode) (box : Mailbox) (o : Option ℕ) → OutFine (make_box_in s p mode box o)
make_in_fine s p mode box None = tt
make_in_fine s p mode box (Some b) = make_fine s p mode box b (free_channel_of s p)

create_fine : (s : State) (p : Pid) (mode : Mode) (box : Mailbox) → OutFine (create_box s p mode box)
create_fine s p mode box = out_either (box.permanent && not (process_at s p).privs.prmmbx) (answered (Err NoPriv) (nothing s)) (make_box_in s p mode box (position is_none s.boxes)) tt (make_in_fine s p mode box (position is_none s.boxes))

find_or_create_fine : (s : State) (p : Pid) (mode : Mode) (box : Mailbox) (o : Option ℕ) → OutFine (find_or_create s p mode box o)
find_or_create_fine s p mode box None = create_fine s p mode box
find_or_create_fine s p mode box (Some b) = assign_at_fine s p (device.Mailbox (box_number b)) mode (free_channel_of s p)

pub crembx_fine : (s : State) (p : Pid) (name : List ℕ) (perm maxmsg bufquo : ℕ) (mode : Mode) → OutFine (crembx s p name perm maxmsg bufquo mode)
crembx_fine s p name perm maxmsg bufquo mode =
    let box : Mailbox = new_box name perm maxmsg bufquo in
    out_either (is_bad_box s name maxmsg bufquo) (answered (Err BadParam) (nothing s)) (find_or_create s p (outer mode (current s p)) box (box_named s name)) tt (find_or_create_fine s p (outer mode (current s p)) box (box_named s name))

delete_fine : (s : State) (p : Pid) (b : BoxNo) → OutFine (delete_box s p b)
delete_fine s p b = out_either ((mailbox_at s b).permanent && not (process_at s p).privs.prmmbx) (refused s NoPriv) (answered Normal (part_if (mailbox_at s b).permanent (marked_box s b) s)) tt (if_fine (mailbox_at s b).permanent (marked_box s b) s tt)

delmbx_on_fine : (s : State) (p : Pid) (d : Device) → OutFine (delmbx_on s p d)
delmbx_on_fine s p (device.Unit u) = tt
delmbx_on_fine s p (device.Mailbox b) = delete_fine s p b

pub delmbx_fine : (s : State) (p : Pid) (n : ℕ) → OutFine (delmbx s p n)
delmbx_fine s p n = tested_fine s (delmbx_at s p) (channel_test s p n) (λ ch. delmbx_on_fine s p ch.device)

swept_device_fine : (s : State) (d : Device) → PartFine (swept_device s d)
swept_device_fine s (device.Unit u) = tt
swept_device_fine s (device.Mailbox b) = if_fine (not (is_assigned s b) && goes_unused (mailbox_at s b)) (box_gone s b) s (tt, tt)

swept_box_fine : (s : State) (o : Option Channel) → PartFine (swept_box s o)
swept_box_fine s None = tt
swept_box_fine s (Some ch) = swept_device_fine s ch.device

free_fine : (s : State) (p : Pid) (n : ℕ) → PartFine (free_channel s p n)
free_fine s p n = swept_box_fine (change s p (with_channel n None)) (channel_at (process_at s p).channels n)

-- Cancelling.

withdraw_fine : (s : State) (r : Request) (d : Device) → PartFine (withdraw s r d)
withdraw_fine s r (device.Unit u) = tt
withdraw_fine s r (device.Mailbox b) = if_fine (list_any (this_message r.req.id) (mailbox_at s b).messages) (mcut_part s b r.req.id) s (tt, tt)

cancel_request_fine : (s : State) (r : Request) → PartFine (cancel_request s r)
cancel_request_fine s r =
    part_either r.served (part_if (not r.marked) (mark_part s r) s) (cancelled_request s r) (if_fine (not r.marked) (mark_part s r) s (tt, tt))
    (then_fine (withdraw s r r.req.device) (λ a. finish a r (ending Cancel 0 0 [])) (withdraw_fine s r r.req.device) (λ a. finish_fine a r (ending Cancel 0 0 [])))

cancel_channel_fine : (s : State) (p : Pid) (chan : ℕ) → PartFine (cancel_channel s p chan)
cancel_channel_fine s p chan =
    then_fine (each cancel_request (filter (is_request_on p chan) s.requests) s) (λ a. drop_attentions a p chan)
    (each_fine cancel_request cancel_request_fine (filter (is_request_on p chan) s.requests) s)
    (λ a. each_fine drop_attention (λ b x. (tt, tt)) (filter (is_attention_on p chan) a.attention) a)

pub cancel_fine : (s : State) (p : Pid) (chan : ℕ) → OutFine (cancel s p chan)
cancel_fine s p chan = tested_fine s (cancel_at s p chan) (channel_test s p chan) (λ ch. cancel_channel_fine s p chan)

pub dassgn_fine : (s : State) (p : Pid) (chan : ℕ) → OutFine (dassgn s p chan)
dassgn_fine s p chan = tested_fine s (dassgn_at s p chan) (channel_test s p chan) (λ ch. then_fine (cancel_channel s p chan) (λ a. free_channel a p chan) (cancel_channel_fine s p chan) (λ a. free_fine a p chan))

-- Timers.

drop_timers_fine : (passes : Timer → Bool) (s : State) → PartFine (drop_timers passes s)
drop_timers_fine passes s = each_fine drop_timer (λ t x. (tt, tt)) (filter passes s.timers) s

pub setimr_fine : (s : State) (p : Pid) (efn delta : ℕ) (tag : Option Entry) (reqid : ℕ) → OutFine (setimr s p efn delta tag reqid)
setimr_fine s p efn delta tag reqid =
    at_flag_fine s p efn (refused s) (setimr_at s p efn delta tag reqid) (λ c. tt)
    (λ c h. out_either (exceeds s p (timer_need (is_some tag))) (refused s ExQuota) (answered Normal (timer_set s p efn delta tag reqid c)) tt (then_fine (flag_part s c false) (λ a. open_timer a p efn delta tag reqid) (h, tt) (λ a. (tt, tt))))

pub cantim_fine : (s : State) (p : Pid) (reqid : ℕ) (mode : Mode) → OutFine (cantim s p reqid mode)
cantim_fine s p reqid mode = drop_timers_fine (is_cancelled_timer p reqid (outer mode (current s p))) s

pub schdwk_fine : (s : State) (p : Pid) (n delta repeat : ℕ) → OutFine (schdwk s p n delta repeat)
schdwk_fine s p n delta repeat =
    tested_fine s (scheduled s p delta repeat) (process_test s p n)
    (λ q. out_either (exceeds s p (ast_need true)) (refused s ExQuota) (answered Normal (open_part s opened.Wake p None repeat (with_timer (past_id s) (new_wake s p q delta repeat)))) tt (tt, tt))

pub canwak_fine : (s : State) (p : Pid) (n : ℕ) → OutFine (canwak s p n)
canwak_fine s p n = tested_fine s (unscheduled s) (process_test s p n) (λ q. drop_timers_fine (is_wake_for q) s)

que_timer_fine : (s : State) (t : Timer) (mode : Mode) (o : Option Entry) → PartFine (que_timer s t mode o)
que_timer_fine s t mode None = tt
que_timer_fine s t mode (Some tag) = (tt, tt)

fired_fine : (s : State) (t : Timer) (a : Alarm) → PartFine (fired s t a)
fired_fine s t (OfTimer efn reqid mode tag) =
    then_fine (and_then (fire_timer s t) (λ a. flag_where_named a (cell a t.p efn) true)) (λ b. que_timer b t mode tag)
    (then_fine (fire_timer s t) (λ a. flag_where_named a (cell a t.p efn) true) (tt, tt) (λ a. named_fine a (cell a t.p efn) true (cell_fine a t.p efn)))
    (λ b. que_timer_fine b t mode tag)
fired_fine s t (OfWake target repeat) = (tt, tt)

pub tick_fine : (s : State) → PartFine (tick s)
tick_fine s = each_fine fire (λ a t. fired_fine a t t.what) (filter (is_due (next_time s)) s.timers) (at_time s (next_time s))

-- Control.

changed_fine : (s : State) (p : Pid) (n : ℕ) (f : Process → Process) → OutFine (at_process s p n (changed_process s f))
changed_fine s p n f = tested_fine s (changed_process s f) (process_test s p n) (λ q. tt)

pub wake_fine : (s : State) (p : Pid) (n : ℕ) → OutFine (wake s p n)
wake_fine s p n = changed_fine s p n (with_wake true)

pub suspnd_fine : (s : State) (p : Pid) (n : ℕ) → OutFine (suspnd s p n)
suspnd_fine s p n = changed_fine s p n (with_suspension true)

pub resume_fine : (s : State) (p : Pid) (n : ℕ) → OutFine (resume s p n)
resume_fine s p n = changed_fine s p n (with_suspension false)

pub hiber_fine : (s : State) (p : Pid) → OutFine (hiber s p)
hiber_fine s p = out_either (process_at s p).wake_pending _ _ tt tt

pub forcex_fine : (s : State) (p : Pid) (n code : ℕ) → OutFine (forcex s p n code)
forcex_fine s p n code = tested_fine s (forced s code) (process_test s p n) (λ q. (tt, (tt, tt)))

pub creprc_fine : (s : State) (p : Pid) (place : ℕ) → OutFine (creprc s p place)
creprc_fine s p place = out_either (nat_le 1000 (length s.procs)) (answered (Err NoSlot) (nothing s)) (answered (Ok (next_pid s).0) (new_part s p place)) tt (tt, tt)

-- ASTs and modes.

pub dclast_fine : (s : State) (p : Pid) (tag : Entry) (mode : Mode) → OutFine (dclast s p tag mode)
dclast_fine s p tag mode = out_either (exceeds s p (ast_need true)) (refused s ExQuota) (answered Normal (declared_ast s p (outer mode (current s p)) tag)) tt (tt, (tt, tt))

pub cmexec_fine : (s : State) (p : Pid) (tag : Entry) → OutFine (cmexec s p tag)
cmexec_fine s p tag = out_either (is_inside (current s p) || ((process_at s p).privs.cmexec || (process_at s p).privs.cmkrnl)) (answered Normal (nothing (changed_mode s p (inner (current s p) Exec) tag))) (refused s NoPriv) tt tt

pub cmkrnl_fine : (s : State) (p : Pid) (tag : Entry) → OutFine (cmkrnl s p tag)
cmkrnl_fine s p tag = out_either (is_inside (current s p) || (process_at s p).privs.cmkrnl) (answered Normal (nothing (changed_mode s p Kernel tag))) (refused s NoPriv) tt tt

-- Exit and rundown.

leave_kind_fine : (s : State) (k : FrameKind) → PartFine (leave_kind s k)
leave_kind_fine s (kind.Ast id) = (tt, tt)
leave_kind_fine s kind.Main = tt
leave_kind_fine s kind.Change = tt
leave_kind_fine s kind.Handler = tt

leave_all_fine : (frames : List Frame) (s : State) → PartFine (leave_all frames s)
leave_all_fine frames s = each_fine leave_frame (λ t f. leave_kind_fine t f.kind) frames s

pub exited_fine : (s : State) (p : Pid) (code : ℕ) → PartFine (exited s p code)
exited_fine s p code = leave_all_fine (process_at s p).frames (change s p (without_frames code))

pub dclexh_fine : (s : State) (p : Pid) (tag : Entry) → OutFine (dclexh s p tag)
dclexh_fine s p tag = out_either (is_kernel (current s p)) (refused s IvSsRq) (answered Normal (handler_declared s p tag)) tt (tt, tt)

drop_handlers_fine : (s : State) (p : Pid) (passes : Handler → Bool) → PartFine (drop_handlers s p passes)
drop_handlers_fine s p passes = each_fine (drop_handler p) (λ t h. (tt, tt)) (filter passes (process_at s p).handlers) s

cancel_found_fine : (s : State) (p : Pid) (o : Option Handler) → OutFine (cancel_found s p o)
cancel_found_fine s p None = tt
cancel_found_fine s p (Some h) = (tt, tt)

cancel_handlers_fine : (s : State) (p : Pid) (o : Option Entry) → OutFine (cancel_handlers s p o)
cancel_handlers_fine s p None = drop_handlers_fine s p (is_handler_of (current s p))
cancel_handlers_fine s p (Some tag) = cancel_found_fine s p (find (is_handler_with (current s p) tag) (process_at s p).handlers)

pub canexh_fine : (s : State) (p : Pid) (o : Option Entry) → OutFine (canexh s p o)
canexh_fine s p o = out_either (is_kernel (current s p)) (refused s IvSsRq) (cancel_handlers s p o) tt (cancel_handlers_fine s p o)

pub delprc_fine : (s : State) (p : Pid) (n : ℕ) → OutFine (delprc s p n)
delprc_fine s p n =
    tested_fine s (deleted_by s) (process_test s p n)
    (λ q. then_fine (leave_all (process_at s q).frames (change s q named_for_deletion)) (λ a. drop_handlers a q any_handler) (leave_all_fine (process_at s q).frames (change s q named_for_deletion)) (λ a. drop_handlers_fine a q any_handler))

cancel_modes_fine : (s : State) (p : Pid) (m : Mode) → PartFine (cancel_modes s p m)
cancel_modes_fine s p m =
    let channels : Part = each (cancel_one p) (channels_of m (process_at s p).channels) s in
    then_fine (and_then channels (drop_timers (is_timer_in p m))) (drop_timers (is_wake_by p))
    (then_fine channels (drop_timers (is_timer_in p m)) (each_fine (cancel_one p) (λ t n. cancel_channel_fine t p n) (channels_of m (process_at s p).channels) s) (drop_timers_fine (is_timer_in p m)))
    (drop_timers_fine (is_wake_by p))

cancelled_in_fine : (s : State) (p : Pid) (m : Mode) → PartFine (cancelled_in s p m)
cancelled_in_fine s p m = then_fine (cancel_modes s p m) (λ a. nothing (draining p m a)) (cancel_modes_fine s p m) (λ a. tt)

drop_asts_fine : (p : Pid) (m : Mode) (s : State) → PartFine (drop_asts p m s)
drop_asts_fine p m s = each_fine (drop_ast p) (λ t q. (tt, tt)) (filter (is_ast_reached m) (process_at s p).asts) s

two_is : IsTwo 2
two_is = (omega arith, omega arith)

three_is : IsTwo 3
three_is = (omega arith, omega arith)

release_fine : (s : State) (p : Pid) (m : Mode) → PartFine (release s p m)
release_fine s p m =
    let channels : Part = each (free_one p) (channels_of m (process_at s p).channels) s in
    then_fine (and_then (and_then channels (drop_asts p m)) (part_with p 2)) (part_with p 3)
    (then_fine (and_then channels (drop_asts p m)) (part_with p 2) (then_fine channels (drop_asts p m) (each_fine (free_one p) (λ t n. free_fine t p n) (channels_of m (process_at s p).channels) s) (drop_asts_fine p m)) (λ a. dissociated_fine a.common p 2 two_is))
    (λ a. dissociated_fine a.common p 3 three_is)

gone_fine : (s : State) (p : Pid) → OutFine (gone s p)
gone_fine s p =
    then_fine (and_then (drop_all_handlers p s) (drop_timers (is_wake_for p))) (gone_part p)
    (then_fine (drop_all_handlers p s) (drop_timers (is_wake_for p)) (drop_handlers_fine s p any_handler) (drop_timers_fine (is_wake_for p)))
    (λ a. (tt, tt))

drain_fine : (p : Pid) (m : Mode) (next : State → Outcome Answer) → ((s : State) → OutFine (next s)) → (s : State) → OutFine (drain p m next s)
drain_fine p m next k s = out_either (is_busy s p m) (answered answer.Busy (nothing s)) (followed_by (release s p m) next) tt (followed_fine (release s p m) next (release_fine s p m) k)

run_handlers_fine : (s : State) (p : Pid) (m : Mode) (next : State → Outcome Answer) (o : Option Handler) → ((s : State) → OutFine (next s)) → OutFine (run_handlers s p m next o)
run_handlers_fine s p m next None k = followed_fine (cancelled_in s p m) (drain p m next) (cancelled_in_fine s p m) (drain_fine p m next k)
run_handlers_fine s p m next (Some h) k = (tt, tt)

run_down_fine : (p : Pid) (ms : List Mode) (s : State) → OutFine (run_down p ms s)
run_down_fine p [] s = gone_fine s p
run_down_fine p (m ∷ ms) s = run_handlers_fine (handling p m s) p m (run_down p ms) (find (is_handler_of m) (process_at s p).handlers) (run_down_fine p ms)

rundown_from_fine : (p : Pid) (ph : Phase) (s : State) → OutFine (rundown_from p ph s)
rundown_from_fine p (phase.Handlers m) s = run_down_fine p (m ∷ inner_modes m) s
rundown_from_fine p (phase.Draining m) s = drain_fine p m (run_down p (inner_modes m)) (run_down_fine p (inner_modes m)) s
rundown_from_fine p phase.Alive s = tt
rundown_from_fine p phase.Deleted s = tt

pub rundown_fine : (s : State) (p : Pid) → OutFine (rundown s p)
rundown_fine s p = rundown_from_fine p (process_at s p).phase s
