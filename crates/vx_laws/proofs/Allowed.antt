-- What each service opens, and for whom; what else happens opens nothing, and only rundown lets a process go.
use Rattle.std.proofs.Common.{◌≡◌, ℕ, ◌%◌, ◌^◌, List, [], ◌∷◌, ◌++◌, Bool, true, false, cond, not, ◌&&◌, ◌||◌, ◌==◌, nat_lt, nat_le, length, Option, Some, None, Result, Ok, Err, position, is_none, refl, sym, ◌∙◌}
use Rattle.std.specs.List.{AllByRecursion, filter, find, list_any}
use Rattle.vx_base.specs.Channels.{channel_at, channels_of}
use Rattle.vx_base.specs.Clusters.{Change, cluster_number, associated, dissociated, marked, is_cluster}
use Rattle.vx_base.specs.Modes.{outer, is_kernel}
use Rattle.vx_record.specs.Types.{Alarm, Answer, Args, Attention, BoxNo, Cell, Channel, Cond, Device, Effect, Entry, Frame, FrameKind, Func, Handler, Mailbox, Mode, Msg, Opened, Phase, Pid, Promised, Queued, Request, Service, Target, Timer, UnitNo, Wait}
use Rattle.vx_base.specs.Pieces.{OfTimer, OfWake, cleared}
use Rattle.vx_base.specs.declared.cond.Cond.TheVariants.{BadParam, Cancel as Cancelled, EndOfFile}
use Rattle.vx_base.specs.declared.effects.Effect.TheVariants as effect
use Rattle.vx_base.specs.declared.frame.FrameKind.TheVariants as kind
use Rattle.vx_base.specs.declared.frame.Wait.TheVariants as wait
use Rattle.vx_base.specs.declared.request.Device.TheVariants as device
use Rattle.vx_base.specs.declared.request.Func.TheVariants.{ReadAttn, WrtAttn}
use Rattle.vx_base.specs.declared.service.Service.TheVariants.{SetEf, ClrEf, ReadEf, WaitFr, WflOr, WflAnd, AscEfc, DacEfc, DlcEfc, DclAst, SetAst, CmExec, CmKrnl, SetImr, CanTim, SchdWk, CanWak, Hiber, Wake, Suspnd, Resume, ForceX, CrePrc, DelPrc, Exit, DclExh, CanExh, Assign, Dassgn, CreMbx, DelMbx, Qio, QioW, Synch, Cancel, GetTim}
use Rattle.vx_record.specs.State.{State, process_at, change, current, unit_at}
use Rattle.vx_record.specs.Parts.{Part, Outcome, nothing, each, refused, refused_value, at_tested, part_of, and_then}
use Rattle.vx_record.specs.Flags.{cell, flag_where_named, at_named, at_flag, put_flag_at, readef_at, readef, refused_wait, wait_condition, awaited_at, waits_on, is_common, wants_prmceb, flag_part}
use Rattle.vx_record.specs.Asts.{is_inside}
use Rattle.vx_record.specs.Charges.{exceeds, ast_need, timer_need, is_direct, is_attention}
use Rattle.vx_record.specs.Finish.{Ending, ending, is_read, fin_part, buf_part, status_of, iosb_part, done_flag_part, done_ast_part, finish, finish_found, this_request}
use Rattle.vx_record.specs.Mailboxes.{mailbox_at, is_waiting_func, waits_at, this_message, mput_part, mget_part, mcut_part, read_ending, write_ending, received, write_done, is_attention_at, fire_attention, call_attention, store_message, hand_over, write_box, take_message, read_box, is_answered_now, attend, message_of}
use Rattle.vx_record.specs.Channels.{channel_test, device_named, with_channel, free_channel_of, assign_at, assign_to, assign, is_bad_box, new_box, box_named, make_box, make_box_in, find_or_create, crembx, marked_box, delmbx_on, delmbx_at, is_assigned, goes_unused, box_gone, swept_device, swept_box, free_channel}
use Rattle.vx_record.specs.Cancel.{mark_part, withdraw, cancelled_request, cancel_request, is_request_on, is_attention_on, drop_attention, cancel_channel, cancel_at, dassgn_at}
use Rattle.vx_record.specs.Requests.{begun_on, Asked, new_request, cleared_part, transfer, new_attention, attention_opened, attention_set, attention_on, accepted, done_at_once, request_test, qio_tested, qiow_tested, unit_ending, with_unit}
use Rattle.vx_record.specs.Control.{process_test, changed_process, with_wake, with_suspension, forced, creprc}
use Rattle.vx_record.specs.Timers.{drop_timer, drop_timers, setimr_at, scheduled, is_wake_for, unscheduled, que_timer, fired, fire, is_due, at_time, next_time, tick}
use Rattle.vx_record.specs.Rundown.{leave_kind, leave_frame, leave_all, exited, is_handler_of, drop_handler, drop_handlers, any_handler, cancel_found, cancel_handlers, named_for_deletion, deleted_by, cancel_one, free_one, is_timer_in, is_wake_by, cancel_modes, drop_ast, drop_asts, is_ast_reached, part_with, release, is_busy, drain, cancelled_in, run_handlers, handling, run_down, inner_modes, rundown_from, without_ast}
use Rattle.vx_record.specs.Services.{number, place, access_mode, text, routine_or_none, decl_place, valued_at, numbered_at, service_of, asked}
use Rattle.vx_record.proofs.Lists.{all_append, all_weaker, either, either_by}
use Rattle.vx_record.proofs.Moves.{is_clusters}
use Rattle.vx_record.proofs.Apart.{associated_only, dissociated_only, marked_at_only}
use Rattle.vx_base.specs.declared.effects.Opened.TheVariants as opened
use Rattle.vx_laws.specs.Lives.{is_wake}
use Rattle.vx_base.specs.declared.frame.Phase.TheVariants as phase
use Rattle.vx_laws.specs.StatusLaw.{is_asked}
use Rattle.vx_base.specs.Serving.{serve, settled}
use Rattle.vx_base.specs.declared.routine.Entry.TheVariants as entry
use Rattle.vx_record.specs.Events.{returned, returned_from, r0_of, started, delivered, beg, don}
use Rattle.vx_base.specs.Handlers.{is_handler_with}

-- which openings are allowed, by kind and process, and whether a process may be gone
pub record Test : Type 0 where
  pub opens : Opened → Pid → Bool
  pub gone : Bool

abbrev pub is_allowed : Test → Effect → Bool
is_allowed ok (effect.Open id k p mode n) = ok.opens k p
is_allowed ok (effect.Gone p) = ok.gone
is_allowed ok x = true

-- nothing else happens
pub record Allowed (ok : Test) (es : List Effect) : Type 0 where
  pub all : AllByRecursion (λ x. is_allowed ok x ≡ true) es

pub nil : {ok : Test} → Allowed ok []
nil = record { all = tt }

pub one : {ok : Test} (x : Effect) → is_allowed ok x ≡ true → Allowed ok (x ∷ [])
one x e = record { all = (e, tt) }

pub join : {ok : Test} {es fs : List Effect} → Allowed ok es → Allowed ok fs → Allowed ok (es ++ fs)
join {ok} {es} {fs} h k = record { all = all_append (λ x. is_allowed ok x ≡ true) es fs h.all k.all }

pub part_of_two : {ok : Test} (b : Bool) (x y : Part) → Allowed ok x.effects → Allowed ok y.effects → Allowed ok (cond b x y).effects
part_of_two true x y h k = h
part_of_two false x y h k = k

of_two : {ok : Test} {A : Type 0} (b : Bool) (x y : Outcome A) → Allowed ok x.effects → Allowed ok y.effects → Allowed ok (cond b x y).effects
of_two true x y h k = h
of_two false x y h k = k

each_allowed : {ok : Test} {A : Type 0} (f : State → A → Part) → ((t : State) (x : A) → Allowed ok (f t x).effects) → (xs : List A) (s : State) → Allowed ok (each f xs s).effects
each_allowed f k [] s = nil
each_allowed f k (x ∷ xs) s = join (k s x) (each_allowed f k xs (f s x).after)

-- Flags and clusters.

pub flag_allowed : {ok : Test} (s : State) (o : Option Cell) (on : Bool) → Allowed ok (flag_where_named s o on).effects
flag_allowed s None on = nil
flag_allowed s (Some c) on = one (effect.Flag c on) refl

named_allowed : {ok : Test} {A : Type 0} (refuse : Cond → Outcome A) (go : Cell → Outcome A) (o : Option Cell) → ((c : Cond) → Allowed ok (refuse c).effects) → ((c : Cell) → Allowed ok (go c).effects) → Allowed ok (at_named refuse go o).effects
named_allowed refuse go None f g = f _
named_allowed refuse go (Some c) f g = g c

at_flag_allowed : {ok : Test} {A : Type 0} (s : State) (p : Pid) (efn : ℕ) (refuse : Cond → Outcome A) (go : Cell → Outcome A) → ((c : Cond) → Allowed ok (refuse c).effects) → ((c : Cell) → Allowed ok (go c).effects) → Allowed ok (at_flag s p efn refuse go).effects
at_flag_allowed s p efn refuse go f g = of_two (nat_lt 127 efn) _ _ (f _) (named_allowed refuse go (cell s p efn) f g)

pub awaited_allowed : {ok : Test} (s : State) (p : Pid) (w : Wait) (o : Option Cond) → Allowed ok (awaited_at s p w o).effects
awaited_allowed s p w None = nil
awaited_allowed s p w (Some c) = nil

waits_allowed : {ok : Test} (s : State) (p : Pid) (efn : ℕ) (w : Wait) → Allowed ok (at_flag s p efn (refused_wait s) (waits_on s p w)).effects
waits_allowed s p efn w = at_flag_allowed s p efn (refused_wait s) (waits_on s p w) (λ c. nil) (λ c. awaited_allowed s p w (wait_condition s p w))

cluster_allowed : (ok : Test) (x : Effect) → is_clusters x ≡ true → is_allowed ok x ≡ true
cluster_allowed ok (effect.Cef g a on) e = refl
cluster_allowed ok (effect.Clu q k c) e = refl
cluster_allowed ok x e = absurd (let never : false ≡ true = e in cc)

only_allowed : {ok : Test} (c : Change) → AllByRecursion (λ x. is_clusters x ≡ true) c.effects → Allowed ok c.effects
only_allowed {ok} c k = record { all = all_weaker (λ (x : Effect). is_clusters x ≡ true) (λ (x : Effect). is_allowed ok x ≡ true) (cluster_allowed ok) c.effects k }

-- Finish and mailboxes.

ast_allowed : {ok : Test} (s : State) (r : Request) (o : Option Promised) → Allowed ok (done_ast_part s r.req o).effects
ast_allowed s r None = nil
ast_allowed s r (Some ast) = one (effect.Que r.req.id) refl

pub finish_allowed : {ok : Test} (s : State) (r : Request) (e : Ending) → Allowed ok (finish s r e).effects
finish_allowed {ok} s r e =
    let a = (fin_part s r.req.id e.0.cond).after in
    let b = (buf_part a r.req e).after in
    let c = (iosb_part b r.req.p r.req.iosb (status_of e)).after in
    let d = (done_flag_part c r.req).after in
    let buf : Allowed ok (buf_part a r.req e).effects = part_of_two (is_read r.req.func && nat_lt 0 e.0.count) _ _ (one (effect.Buf r.req.p r.req.buf e.0.bytes) refl) nil in
    let iosb : Allowed ok (iosb_part b r.req.p r.req.iosb (status_of e)).effects = part_of_two (not (r.req.iosb == 0)) _ _ (one (effect.Iosb r.req.p r.req.iosb (Some e.0.cond) e.0.count e.1) refl) nil in
    join (join (join (join (one (effect.Fin r.req.id e.0.cond) refl) buf) iosb) (flag_allowed c (cell c r.req.p r.req.efn) true)) (ast_allowed d r r.ast)

found_allowed : {ok : Test} (s : State) (o : Option Request) (e : Ending) → Allowed ok (finish_found s o e).effects
found_allowed s None e = nil
found_allowed s (Some r) e = finish_allowed s r e

write_done_allowed : {ok : Test} (s : State) (m : Msg) → Allowed ok (write_done s m).effects
write_done_allowed s m = found_allowed s (find (this_request m.id) s.requests) (write_ending m)

received_allowed : {ok : Test} (s : State) (b : BoxNo) (m : Msg) (r : Request) → Allowed ok (received s b m r).effects
received_allowed s b m r = join (one (effect.MGet (mailbox_at s b).name m.id r.req.id) refl) (finish_allowed (mget_part s b m r.req.id).after r (read_ending r.req m m.body))

fire_allowed : {ok : Test} (s : State) (a : Attention) → Allowed ok (fire_attention s a).effects
fire_allowed s a = join (one (effect.Fire a.id) refl) (one (effect.Que a.id) refl)

call_allowed : {ok : Test} (s : State) (b : BoxNo) (func : Func) → Allowed ok (call_attention s b func).effects
call_allowed s b func = each_allowed fire_attention fire_allowed (filter (is_attention_at b func) s.attention) s

store_allowed : {ok : Test} (s : State) (b : BoxNo) (m : Msg) → Allowed ok (store_message s b m).effects
store_allowed s b m =
    let part : Part = cond (not m.held) (write_done s m) (nothing s) in
    join (part_of_two (not m.held) (write_done s m) (nothing s) (write_done_allowed s m) nil) (call_allowed part.after b WrtAttn)

hand_allowed : {ok : Test} (s : State) (b : BoxNo) (m : Msg) (o : Option Request) → Allowed ok (hand_over s b m o).effects
hand_allowed s b m None = store_allowed s b m
hand_allowed s b m (Some r) = join (received_allowed s b m r) (write_done_allowed (received s b m r).after m)

write_allowed : {ok : Test} (s : State) (b : BoxNo) (m : Msg) → Allowed ok (write_box s b m).effects
write_allowed s b m = let a = (mput_part s b m).after in join (one (effect.MPut (mailbox_at s b).name m.id m.body) refl) (hand_allowed a b m (find (waits_at b) a.requests))

take_allowed : {ok : Test} (s : State) (b : BoxNo) (r : Request) (ms : List Msg) → Allowed ok (take_message s b r ms).effects
take_allowed s b r [] =
    let e = ending EndOfFile 0 0 [] in
    let part : Part = cond (not (is_waiting_func r.req.func)) (finish s r e) (nothing s) in
    join (part_of_two (not (is_waiting_func r.req.func)) (finish s r e) (nothing s) (finish_allowed s r e) nil) (call_allowed part.after b ReadAttn)
take_allowed s b r (m ∷ ms) =
    let a = (received s b m r).after in
    join (received_allowed s b m r) (part_of_two m.held (write_done a m) (nothing a) (write_done_allowed a m) nil)

pub attend_allowed : {ok : Test} (s : State) (a : Attention) → Allowed ok (attend s a).effects
attend_allowed s a = part_of_two (is_answered_now s a) (fire_attention s a) (nothing s) (fire_allowed s a) nil

pub begun_allowed : {ok : Test} (s : State) (r : Request) (d : Device) → Allowed ok (begun_on s r d).effects
begun_allowed s r (device.Unit u) = nil
begun_allowed s r (device.Mailbox b) = part_of_two (is_read r.req.func) (read_box s b r) (write_box s b (message_of r.req)) (take_allowed s b r (mailbox_at s b).messages) (write_allowed s b (message_of r.req))

-- Channels and cancelling.

tested_allowed : {ok : Test} {A : Type 0} (s : State) (go : A → Outcome Cond) (r : Result A Cond) → ((x : A) → Allowed ok (go x).effects) → Allowed ok (at_tested s go r).effects
tested_allowed s go (Err c) f = nil
tested_allowed s go (Ok x) f = f x

assign_allowed : {ok : Test} (s : State) (p : Pid) (d : Device) (mode : Mode) (o : Option ℕ) → Allowed ok (assign_at s p d mode o).effects
assign_allowed s p d mode None = nil
assign_allowed s p d mode (Some n) = nil

assign_to_allowed : {ok : Test} (s : State) (p : Pid) (mode : Mode) (o : Option Device) → Allowed ok (assign_to s p mode o).effects
assign_to_allowed s p mode None = nil
assign_to_allowed s p mode (Some d) = assign_allowed s p d mode (free_channel_of s p)

make_allowed : {ok : Test} (s : State) (p : Pid) (mode : Mode) (box : Mailbox) (b : ℕ) (o : Option ℕ) → Allowed ok (make_box s p mode box b o).effects
make_allowed s p mode box b None = nil
make_allowed s p mode box b (Some n) = one (effect.Mbx box.name true) refl

make_in_allowed : {ok : Test} (s : State) (p : Pid) (mode : Mode) (box : Mailbox) (o : Option ℕ) → Allowed ok (make_box_in s p mode box o).effects
make_in_allowed s p mode box None = nil
make_in_allowed s p mode box (Some b) = make_allowed s p mode box b (free_channel_of s p)

create_allowed : {ok : Test} (s : State) (p : Pid) (mode : Mode) (box : Mailbox) (o : Option ℕ) → Allowed ok (find_or_create s p mode box o).effects
create_allowed s p mode box None = of_two (box.permanent && not (process_at s p).privs.prmmbx) _ _ nil (make_in_allowed s p mode box (position is_none s.boxes))
create_allowed s p mode box (Some b) = assign_allowed s p _ mode (free_channel_of s p)

delmbx_allowed : {ok : Test} (s : State) (p : Pid) (d : Device) → Allowed ok (delmbx_on s p d).effects
delmbx_allowed s p (device.Unit u) = nil
delmbx_allowed s p (device.Mailbox b) = of_two ((mailbox_at s b).permanent && not (process_at s p).privs.prmmbx) _ _ nil (part_of_two (mailbox_at s b).permanent (marked_box s b) (nothing s) nil nil)

swept_device_allowed : {ok : Test} (s : State) (d : Device) → Allowed ok (swept_device s d).effects
swept_device_allowed s (device.Unit u) = nil
swept_device_allowed s (device.Mailbox b) = part_of_two (not (is_assigned s b) && goes_unused (mailbox_at s b)) (box_gone s b) (nothing s) (one (effect.Mbx (mailbox_at s b).name false) refl) nil

swept_allowed : {ok : Test} (s : State) (o : Option Channel) → Allowed ok (swept_box s o).effects
swept_allowed s None = nil
swept_allowed s (Some ch) = swept_device_allowed s ch.device

free_allowed : {ok : Test} (s : State) (p : Pid) (n : ℕ) → Allowed ok (free_channel s p n).effects
free_allowed s p n = swept_allowed (change s p (with_channel n None)) (channel_at (process_at s p).channels n)

withdraw_allowed : {ok : Test} (s : State) (r : Request) (d : Device) → Allowed ok (withdraw s r d).effects
withdraw_allowed s r (device.Unit u) = nil
withdraw_allowed s r (device.Mailbox b) = part_of_two (list_any (this_message r.req.id) (mailbox_at s b).messages) (mcut_part s b r.req.id) (nothing s) (one (effect.MCut (mailbox_at s b).name r.req.id) refl) nil

cancel_request_allowed : {ok : Test} (s : State) (r : Request) → Allowed ok (cancel_request s r).effects
cancel_request_allowed s r =
    part_of_two r.served _ (cancelled_request s r) (part_of_two (not r.marked) (mark_part s r) (nothing s) (one (effect.Mark r.req.id) refl) nil)
    (join (withdraw_allowed s r r.req.device) (finish_allowed (withdraw s r r.req.device).after r (ending Cancelled 0 0 [])))

cancel_allowed : {ok : Test} (s : State) (p : Pid) (n : ℕ) → Allowed ok (cancel_channel s p n).effects
cancel_allowed s p n =
    let a = (each cancel_request (filter (is_request_on p n) s.requests) s).after in
    join (each_allowed cancel_request cancel_request_allowed (filter (is_request_on p n) s.requests) s) (each_allowed drop_attention (λ t x. one (effect.Drop x.id) refl) (filter (is_attention_on p n) a.attention) a)

-- Timers.

pub timers_allowed : {ok : Test} (s : State) (passes : Timer → Bool) → Allowed ok (drop_timers passes s).effects
timers_allowed s passes = each_allowed drop_timer (λ t x. one (effect.Drop x.id) refl) (filter passes s.timers) s

que_allowed : {ok : Test} (s : State) (t : Timer) (mode : Mode) (o : Option Entry) → Allowed ok (que_timer s t mode o).effects
que_allowed s t mode None = nil
que_allowed s t mode (Some tag) = one (effect.Que t.id) refl

fired_allowed : {ok : Test} (s : State) (t : Timer) (a : Alarm) → Allowed ok (fired s t a).effects
fired_allowed s t (OfTimer efn reqid mode tag) =
    let a = (Rattle.vx_record.specs.Timers.fire_timer s t).after in
    let b = (flag_where_named a (cell a t.p efn) true).after in
    join (join (one (effect.Fire t.id) refl) (flag_allowed a (cell a t.p efn) true)) (que_allowed b t mode tag)
fired_allowed s t (OfWake target repeat) = one (effect.Fire t.id) refl

pub tick_allowed : {ok : Test} (s : State) → Allowed ok (tick s).effects
tick_allowed s = each_allowed fire (λ t x. fired_allowed t x x.what) (filter (is_due (next_time s)) s.timers) (at_time s (next_time s))

-- Leaving, and rundown.

leave_allowed : {ok : Test} (s : State) (k : FrameKind) → Allowed ok (leave_kind s k).effects
leave_allowed s (kind.Ast id) = one (effect.Leave id) refl
leave_allowed s kind.Main = nil
leave_allowed s kind.Change = nil
leave_allowed s kind.Handler = nil

leave_all_allowed : {ok : Test} (frames : List Frame) (s : State) → Allowed ok (leave_all frames s).effects
leave_all_allowed frames s = each_allowed leave_frame (λ t f. leave_allowed t f.kind) frames s

pub handlers_allowed : {ok : Test} (s : State) (p : Pid) (test : Handler → Bool) → Allowed ok (drop_handlers s p test).effects
handlers_allowed s p test = each_allowed (drop_handler p) (λ t x. one (effect.Drop x.id) refl) (filter test (process_at s p).handlers) s

pub exited_allowed : {ok : Test} (s : State) (p : Pid) (code : ℕ) → Allowed ok (exited s p code).effects
exited_allowed s p code = leave_all_allowed (process_at s p).frames _

found_handler_allowed : {ok : Test} (s : State) (p : Pid) (o : Option Handler) → Allowed ok (cancel_found s p o).effects
found_handler_allowed s p None = nil
found_handler_allowed s p (Some x) = one (effect.Drop x.id) refl

cancel_handlers_allowed : {ok : Test} (s : State) (p : Pid) (o : Option Entry) → Allowed ok (cancel_handlers s p o).effects
cancel_handlers_allowed s p None = handlers_allowed s p (is_handler_of (current s p))
cancel_handlers_allowed s p (Some tag) = found_handler_allowed s p (find (is_handler_with (current s p) tag) (process_at s p).handlers)

deleted_allowed : {ok : Test} (s : State) (q : Pid) → Allowed ok (deleted_by s q).effects
deleted_allowed s q = let b = leave_all (process_at s q).frames (change s q named_for_deletion) in join (leave_all_allowed (process_at s q).frames (change s q named_for_deletion)) (handlers_allowed b.after q any_handler)

part_with_allowed : {ok : Test} (p : Pid) (k : ℕ) (s : State) → Allowed ok (part_with p k s).effects
part_with_allowed p k s = only_allowed (dissociated s.common p k) (dissociated_only s.common p k)

pub release_allowed : {ok : Test} (s : State) (p : Pid) (m : Mode) → Allowed ok (release s p m).effects
release_allowed s p m =
    let ns = channels_of m (process_at s p).channels in
    let a = (each (free_one p) ns s).after in
    let b = (drop_asts p m a).after in
    let c = (part_with p 2 b).after in
    join (join (join (each_allowed (free_one p) (λ t n. free_allowed t p n) ns s) (each_allowed (drop_ast p) (λ t q. one (effect.Drop q.id) refl) (filter (is_ast_reached m) (process_at a p).asts) a)) (part_with_allowed p 2 b)) (part_with_allowed p 3 c)

pub cancel_modes_allowed : {ok : Test} (s : State) (p : Pid) (m : Mode) → Allowed ok (cancel_modes s p m).effects
cancel_modes_allowed s p m =
    let ns = channels_of m (process_at s p).channels in
    let a = (each (cancel_one p) ns s).after in
    let b = (drop_timers (is_timer_in p m) a).after in
    join (join (each_allowed (cancel_one p) (λ t n. cancel_allowed t p n) ns s) (timers_allowed a (is_timer_in p m))) (timers_allowed b (is_wake_by p))

drain_allowed : {ok : Test} (s : State) (p : Pid) (m : Mode) (next : State → Outcome Answer) → ((t : State) → Allowed ok (next t).effects) → Allowed ok (drain p m next s).effects
drain_allowed s p m next k = of_two (is_busy s p m) _ _ nil (join (release_allowed s p m) (k (release s p m).after))

run_handlers_allowed : {ok : Test} (s : State) (p : Pid) (m : Mode) (next : State → Outcome Answer) (o : Option Handler) → ((t : State) → Allowed ok (next t).effects) → Allowed ok (run_handlers s p m next o).effects
run_handlers_allowed s p m next None k = join (join (cancel_modes_allowed s p m) nil) (drain_allowed (cancelled_in s p m).after p m next k)
run_handlers_allowed s p m next (Some d) k = one (effect.Enter d.id) refl

run_down_allowed : {ok : Test} → ok.gone ≡ true → (ms : List Mode) (p : Pid) (s : State) → Allowed ok (run_down p ms s).effects
run_down_allowed g [] p s =
    let a = (drop_handlers s p any_handler).after in
    join (join (handlers_allowed s p any_handler) (timers_allowed a (is_wake_for p))) (one (effect.Gone p) g)
run_down_allowed g (m ∷ ms) p s = run_handlers_allowed (handling p m s) p m (run_down p ms) (find (is_handler_of m) (process_at s p).handlers) (λ t. run_down_allowed g ms p t)

pub rundown_allowed : {ok : Test} → ok.gone ≡ true → (s : State) (p : Pid) (ph : Phase) → Allowed ok (rundown_from p ph s).effects
rundown_allowed g s p (phase.Handlers m) = run_down_allowed g (m ∷ inner_modes m) p s
rundown_allowed g s p (phase.Draining m) = drain_allowed s p m (run_down p (inner_modes m)) (λ t. run_down_allowed g (inner_modes m) p t)
rundown_allowed g s p phase.Alive = nil
rundown_allowed g s p phase.Deleted = nil

-- Leaving and starting; units.

pub returned_allowed : {ok : Test} (s : State) (p : Pid) (frames : List Frame) → Allowed ok (returned s p frames).effects
returned_allowed s p [] = nil
returned_allowed {ok} s p (f ∷ fs) = by_kind f.kind
  where
    by_kind : (x : FrameKind) → Allowed ok (returned_from s p f x).effects
    by_kind kind.Main = exited_allowed s p (r0_of s p)
    by_kind (kind.Ast id) = one (effect.Leave id) refl
    by_kind kind.Change = nil
    by_kind kind.Handler = nil

pub started_allowed : {ok : Test} (s : State) (p : Pid) (q : Queued) (tag : Entry) → Allowed ok (started s p q tag).effects
started_allowed s p q (entry.Exit code) = join (one (effect.Leave q.id) refl) (exited_allowed s p code)
started_allowed s p q (entry.Label k prm) = nil
started_allowed s p q (entry.Host prm) = nil

pub delivered_allowed : {ok : Test} (s : State) (p : Pid) (o : Option Queued) → Allowed ok (delivered s p o).effects
delivered_allowed s p None = nil
delivered_allowed s p (Some q) = started_allowed (change s p (without_ast q.id)) p q q.tag

pub beg_allowed : {ok : Test} (s : State) (o : Option Request) → Allowed ok (beg s o).effects
beg_allowed s None = nil
beg_allowed s (Some r) = nil

pub don_allowed : {ok : Test} (s : State) (u : UnitNo) (o : Option Request) → Allowed ok (don s u o).effects
don_allowed s u None = nil
don_allowed s u (Some r) = finish_allowed (with_unit s u (settled (unit_at s u) r.req)) r (unit_ending r (serve (unit_at s u) r.req).reply)

-- Services.

valued_allowed : {ok : Test} (s : State) (p : Pid) (t : Target) (part : Part) (r : Result (Cond × ℕ) Cond) → Allowed ok part.effects → Allowed ok (valued_at p t part r).effects
valued_allowed s p t part (Ok read) k = join k (one (effect.Var p t read.1) refl)
valued_allowed s p t part (Err c) k = k

numbered_allowed : {ok : Test} (s : State) (p : Pid) (t : Target) (part : Part) (r : Result ℕ Cond) → Allowed ok part.effects → Allowed ok (numbered_at p t part r).effects
numbered_allowed s p t part (Ok n) k = join k (one (effect.Var p t n) refl)
numbered_allowed s p t part (Err c) k = k

-- Requests.

attention_set_allowed : {ok : Test} (s : State) (p : Pid) (q : Asked) (a : Attention) → ok.opens opened.Attn p ≡ true → Allowed ok (attention_set s p q a).effects
attention_set_allowed {ok} s p q a own =
    let b = (attention_opened s p q a).after in
    let c = (iosb_part b p q.iosb done_at_once).after in
    let d = (flag_where_named c (cell c p q.efn) true).after in
    let iosb : Allowed ok (iosb_part b p q.iosb done_at_once).effects = part_of_two (not (q.iosb == 0)) _ (nothing b) (one (effect.Iosb p q.iosb done_at_once.cond 0 0) refl) nil in
    join (join (one _ own) iosb) (join (flag_allowed c (cell c p q.efn) true) (attend_allowed d a))

attention_on_allowed : {ok : Test} (s : State) (p : Pid) (q : Asked) (d : Device) (o : Option Entry) → ok.opens opened.Attn p ≡ true → Allowed ok (attention_on s p q d o).effects
attention_on_allowed s p q (device.Unit u) o own = nil
attention_on_allowed s p q (device.Mailbox b) None own = nil
attention_on_allowed s p q (device.Mailbox b) (Some tag) own = attention_set_allowed s p q (new_attention s p q b tag) own

transfer_allowed : {ok : Test} (s : State) (p : Pid) (q : Asked) (ch : Channel) → ok.opens opened.Dio p ≡ true → ok.opens opened.Bio p ≡ true → Allowed ok (transfer s p q ch).effects
transfer_allowed {ok} s p q ch dio bio =
    let r = new_request s p q ch in
    either (λ (x : Part). Allowed ok (and_then x (λ a. begun_on a r ch.device)).effects) (is_direct s ch.device) _ _ (join (one _ dio) (begun_allowed _ r ch.device)) (join (one _ bio) (begun_allowed _ r ch.device))

accepted_allowed : {ok : Test} (s : State) (p : Pid) (q : Asked) (cl : Cell) (ch : Channel) → ((k : Opened) → is_wake k ≡ false → ok.opens k p ≡ true) → Allowed ok (accepted s p q cl ch).effects
accepted_allowed {ok} s p q cl ch own =
    let b = (flag_part s cl false).after in
    let t = (cleared_part s p q cl).after in
    let iosb : Allowed ok (iosb_part b p q.iosb cleared).effects = part_of_two (not (q.iosb == 0)) _ (nothing b) (one (effect.Iosb p q.iosb None 0 0) refl) nil in
    join (join (one (effect.Flag cl false) refl) iosb)
    (part_of_two (is_attention q.func) (attention_on t p q ch.device q.ast) (transfer t p q ch) (attention_on_allowed t p q ch.device q.ast (own opened.Attn refl)) (transfer_allowed t p q ch (own opened.Dio refl) (own opened.Bio refl)))

-- of a request that is none for attention
pub transferred_allowed : {ok : Test} (s : State) (p : Pid) (q : Asked) (cl : Cell) (ch : Channel) → is_attention q.func ≡ false → ok.opens opened.Dio p ≡ true → ok.opens opened.Bio p ≡ true → Allowed ok (accepted s p q cl ch).effects
transferred_allowed {ok} s p q cl ch plain dio bio =
    let b = (flag_part s cl false).after in
    let t = (cleared_part s p q cl).after in
    let iosb : Allowed ok (iosb_part b p q.iosb cleared).effects = part_of_two (not (q.iosb == 0)) _ (nothing b) (one (effect.Iosb p q.iosb None 0 0) refl) nil in
    join (join (one (effect.Flag cl false) refl) iosb)
    (either_by (λ (x : Part). Allowed ok x.effects) (is_attention q.func) (attention_on t p q ch.device q.ast) (transfer t p q ch) (λ e. absurd (let never : true ≡ false = sym e ∙ plain in cc)) (λ n. transfer_allowed t p q ch dio bio))

qio_allowed : {ok : Test} (s : State) (p : Pid) (q : Asked) (r : Result (Cell × Channel) Cond) → ((k : Opened) → is_wake k ≡ false → ok.opens k p ≡ true) → Allowed ok (qio_tested s p q r).effects
qio_allowed s p q (Err c) own = nil
qio_allowed s p q (Ok to) own = accepted_allowed s p q to.0 to.1 own

qiow_allowed : {ok : Test} (s : State) (p : Pid) (q : Asked) (r : Result (Cell × Channel) Cond) → ((k : Opened) → is_wake k ≡ false → ok.opens k p ≡ true) → Allowed ok (qiow_tested s p q r).effects
qiow_allowed s p q (Err c) own = nil
qiow_allowed s p q (Ok to) own =
    let u = (accepted s p q to.0 to.1).after in
    let w = wait.Synch q.efn q.iosb in
    join (accepted_allowed s p q to.0 to.1 own) (awaited_allowed u p w (wait_condition u p w))

abbrev pub is_qio : Service → Bool
is_qio Qio = true
is_qio QioW = true
is_qio v = false

-- what a service may open: for its caller anything but a wake, and what is asked of a device only if it is $QIO or $QIOW; a forced exit and a wake if its test finds
-- the process
pub record MayOpen (ok : Test) (s : State) (p : Pid) (a : Args) (v : Service) : Type 0 where
  pub own : (k : Opened) → is_wake k ≡ false → (is_asked k ≡ true → is_qio v ≡ true) → ok.opens k p ≡ true
  pub force : v ≡ ForceX → (q : Pid) → process_test s p (number a.a0) ≡ Ok q → ok.opens opened.Force q ≡ true
  pub wake : v ≡ SchdWk → (q : Pid) → process_test s p (number a.a0) ≡ Ok q → ok.opens opened.Wake p ≡ true

forced_allowed : {ok : Test} (s : State) (p : Pid) (a : Args) (r : Result Pid Cond) → process_test s p (number a.a0) ≡ r → ((q : Pid) → process_test s p (number a.a0) ≡ Ok q → ok.opens opened.Force q ≡ true) → Allowed ok (at_tested s (forced s (number a.a1)) r).effects
forced_allowed s p a (Err c) is may = nil
forced_allowed s p a (Ok q) is may = join (one _ (may q is)) (one _ refl)

scheduled_allowed : {ok : Test} (s : State) (p : Pid) (a : Args) (r : Result Pid Cond) → process_test s p (number a.a0) ≡ r → ((q : Pid) → process_test s p (number a.a0) ≡ Ok q → ok.opens opened.Wake p ≡ true) → Allowed ok (at_tested s (scheduled s p (number a.a1) (number a.a2)) r).effects
scheduled_allowed s p a (Err c) is may = nil
scheduled_allowed s p a (Ok q) is may = of_two (exceeds s p (ast_need true)) _ _ nil (one _ (may q is))

pub service_allowed : {ok : Test} (s : State) (p : Pid) (a : Args) (v : Service) → MayOpen ok s p a v → Allowed ok (service_of s p a v).effects
service_allowed s p a SetEf e = at_flag_allowed s p (number a.a0) (refused s) (put_flag_at s true) (λ c. nil) (λ c. one (effect.Flag c true) refl)
service_allowed s p a ClrEf e = at_flag_allowed s p (number a.a0) (refused s) (put_flag_at s false) (λ c. nil) (λ c. one (effect.Flag c false) refl)
service_allowed s p a ReadEf e = let o = readef s p (number a.a0) in valued_allowed s p (place a.a1) (part_of o) o.answer (at_flag_allowed s p (number a.a0) (refused_value s) (readef_at s) (λ c. nil) (λ c. nil))
service_allowed s p a WaitFr e = waits_allowed s p (number a.a0) (wait.Flags (number a.a0) (2 ^ (number a.a0 % 32)) false)
service_allowed s p a WflOr e = waits_allowed s p (number a.a0) (wait.Flags (number a.a0) (number a.a1) false)
service_allowed s p a WflAnd e = waits_allowed s p (number a.a0) (wait.Flags (number a.a0) (number a.a1) true)
service_allowed s p a AscEfc e =
    let c = associated s.common p (cluster_number (number a.a0)) (process_at s p).group (text a.a1) (not (number a.a2 == 0)) in
    of_two (not (is_common (number a.a0))) _ _ nil (of_two (wants_prmceb s (process_at s p) (text a.a1) (number a.a2)) _ _ nil (only_allowed c (associated_only s.common p (cluster_number (number a.a0)) (process_at s p).group (text a.a1) (not (number a.a2 == 0)))))
service_allowed s p a DacEfc e = of_two (not (is_common (number a.a0))) _ _ nil (only_allowed (dissociated s.common p (cluster_number (number a.a0))) (dissociated_only s.common p (cluster_number (number a.a0))))
service_allowed s p a DlcEfc e = of_two (not (process_at s p).privs.prmceb) _ _ nil (only_allowed (marked s.common (process_at s p).group (text a.a0)) (marked_at_only s.common (find (is_cluster (process_at s p).group (text a.a0)) s.common.clusters)))
service_allowed s p a DclAst e = of_two (exceeds s p (ast_need true)) _ _ nil (join (one _ (e.own opened.Ast refl (λ i. absurd (let never : false ≡ true = i in cc)))) (one _ refl))
service_allowed s p a SetAst e = one _ refl
service_allowed s p a CmExec e = of_two (is_inside (current s p) || ((process_at s p).privs.cmexec || (process_at s p).privs.cmkrnl)) _ _ nil nil
service_allowed s p a CmKrnl e = of_two (is_inside (current s p) || (process_at s p).privs.cmkrnl) _ _ nil nil
service_allowed s p a SetImr e =
    let tag = routine_or_none s p a.a2 (number a.a3) in
    at_flag_allowed s p (number a.a0) (refused s) (setimr_at s p (number a.a0) (number a.a1) tag (number a.a3)) (λ c. nil) (λ c. of_two (exceeds s p (timer_need (Rattle.std.specs.Prelude.is_some tag))) _ _ nil (join (one _ refl) (one _ (e.own opened.Timer refl (λ i. absurd (let never : false ≡ true = i in cc))))))
service_allowed s p a CanTim e = timers_allowed s _
service_allowed s p a SchdWk e = scheduled_allowed s p a (process_test s p (number a.a0)) refl (e.wake refl)
service_allowed s p a CanWak e = tested_allowed s (unscheduled s) (process_test s p (number a.a0)) (λ q. timers_allowed s (is_wake_for q))
service_allowed s p a Hiber e = of_two (process_at s p).wake_pending _ _ nil nil
service_allowed s p a Wake e = tested_allowed s (changed_process s (with_wake true)) (process_test s p (number a.a0)) (λ q. nil)
service_allowed s p a Suspnd e = tested_allowed s (changed_process s (with_suspension true)) (process_test s p (number a.a0)) (λ q. nil)
service_allowed s p a Resume e = tested_allowed s (changed_process s (with_suspension false)) (process_test s p (number a.a0)) (λ q. nil)
service_allowed s p a ForceX e = forced_allowed s p a (process_test s p (number a.a0)) refl (e.force refl)
service_allowed s p a CrePrc e = let o = creprc s p (decl_place s (text a.a1)) in numbered_allowed s p (place a.a0) (part_of o) o.answer (of_two (nat_le 1000 (length s.procs)) _ _ nil (one _ refl))
service_allowed s p a DelPrc e = tested_allowed s (deleted_by s) (process_test s p (number a.a0)) (λ q. deleted_allowed s q)
service_allowed s p a Exit e = exited_allowed s p (number a.a0)
service_allowed s p a DclExh e = of_two (is_kernel (current s p)) _ _ nil (one _ (e.own opened.Exh refl (λ i. absurd (let never : false ≡ true = i in cc))))
service_allowed s p a CanExh e = of_two (is_kernel (current s p)) _ _ nil (cancel_handlers_allowed s p (routine_or_none s p a.a0 0))
service_allowed s p a Assign e = let o = assign s p (text a.a1) (access_mode a.a2) in numbered_allowed s p (place a.a0) (part_of o) o.answer (assign_to_allowed s p (outer (access_mode a.a2) (current s p)) (device_named s (text a.a1)))
service_allowed s p a Dassgn e = tested_allowed s (dassgn_at s p (number a.a0)) (channel_test s p (number a.a0)) (λ ch. join (cancel_allowed s p (number a.a0)) (free_allowed (cancel_channel s p (number a.a0)).after p (number a.a0)))
service_allowed s p a CreMbx e =
    let o = crembx s p (text a.a1) (number a.a2) (number a.a3) (number a.a4) (access_mode a.a5) in
    numbered_allowed s p (place a.a0) (part_of o) o.answer (of_two (is_bad_box s (text a.a1) (number a.a3) (number a.a4)) _ _ nil (create_allowed s p (outer (access_mode a.a5) (current s p)) (new_box (text a.a1) (number a.a2) (number a.a3) (number a.a4)) (box_named s (text a.a1))))
service_allowed s p a DelMbx e = tested_allowed s (delmbx_at s p) (channel_test s p (number a.a0)) (λ ch. delmbx_allowed s p ch.device)
service_allowed s p a Qio e = qio_allowed s p (asked s p a) (request_test s p (asked s p a)) (λ k w. e.own k w (λ i. refl))
service_allowed s p a QioW e = qiow_allowed s p (asked s p a) (request_test s p (asked s p a)) (λ k w. e.own k w (λ i. refl))
service_allowed s p a Synch e =
    let w = wait.Synch (number a.a0) (number a.a1) in
    of_two (nat_lt 32 (number a.a1)) (refused_wait s BadParam) (at_flag s p (number a.a0) (refused_wait s) (waits_on s p w)) nil (waits_allowed s p (number a.a0) w)
service_allowed s p a Cancel e = tested_allowed s (cancel_at s p (number a.a0)) (channel_test s p (number a.a0)) (λ ch. cancel_allowed s p (number a.a0))
service_allowed s p a GetTim e = one _ refl

-- Requests and attention entries are opened by $QIO and $QIOW alone.

abbrev pub unasked : Test
unasked = record { opens = λ k p. not (is_asked k); gone = true }

abbrev pub is_plain : Effect → Bool
is_plain = is_allowed unasked

abbrev pub Plain : List Effect → Type 0
Plain = Allowed unasked

pub may_unasked : (s : State) (p : Pid) (a : Args) (v : Service) → is_qio v ≡ false → MayOpen unasked s p a v
may_unasked s p a v e = record { own = λ k w i. by_test (is_asked k) i; force = λ f q t. refl; wake = λ f q t. refl }
  where
    by_test : (b : Bool) → (b ≡ true → is_qio v ≡ true) → not b ≡ true
    by_test true i = absurd (let never : true ≡ false = sym (i refl) ∙ e in cc)
    by_test false i = refl

pub service_plain : (s : State) (p : Pid) (a : Args) (v : Service) → is_qio v ≡ false → Plain (service_of s p a v).effects
service_plain s p a v e = service_allowed s p a v (may_unasked s p a v e)
