-- Every event keeps the system, and each unit but the one whose service it ends.
use Rattle.std.proofs.Common.{◌≡◌, ℕ, List, [], ◌∷◌, Bool, true, false, cond, not, length, Option, Some, None, Result, Ok, Err, slice_index_or, get_or-set_other, length-set, refl, arith, ap, ◌∙◌}
use Rattle.std.specs.List.{filter, find}
use Rattle.vx_record.specs.Types.{Answer, Args, BoxNo, Call, Cell, Channel, Cond, Device, DeviceUnit, Entry, Event, Frame, Func, Handler, Mode, Msg, Phase, Pid, Queued, Request, Service, Stop, System, Timer, UnitNo, Wait}
use Rattle.vx_base.specs.Queues.{in_service}
use Rattle.vx_base.specs.Serving.{serve, settled}
use Rattle.vx_base.specs.declared.cond.Cond.TheVariants.{Cancel as Cancelled, EndOfFile}
use Rattle.vx_base.specs.declared.frame.Phase.TheVariants as phase
use Rattle.vx_base.specs.declared.frame.Wait.TheVariants as wait
use Rattle.vx_base.specs.declared.record.Event.TheVariants as event
use Rattle.vx_base.specs.declared.request.Func.TheVariants.{ReadAttn}
use Rattle.vx_base.specs.declared.routine.Entry.TheVariants as entry
use Rattle.vx_base.specs.declared.service.Service.TheVariants.{Exit}
use Rattle.vx_image.specs.declared.stop.Stop.TheVariants as stop
use Rattle.vx_record.specs.State.{State, process_at, change, unit_at, no_unit}
use Rattle.vx_record.specs.Parts.{Part, Outcome, nothing, each, part_if}
use Rattle.vx_record.specs.Flags.{awaited}
use Rattle.vx_record.specs.Asts.{deliverable_ast}
use Rattle.vx_record.specs.Finish.{Ending, ending, finish}
use Rattle.vx_record.specs.Mailboxes.{is_waiting_func, mget_part, read_ending, received, write_done, is_attention_at, fire_attention, call_attention, hand_over, take_message}
use Rattle.vx_record.specs.Channels.{free_channel}
use Rattle.vx_record.specs.Cancel.{mark_part, withdraw, cancelled_request, cancel_request, cancel_channel}
use Rattle.vx_record.specs.Requests.{Asked, begun_on, attention_on, accepted, qio_tested, qiow_tested, unit_ending, with_unit}
use Rattle.vx_record.specs.Timers.{drop_timer, drop_timers, is_wake_for, fire, is_due, at_time, next_time}
use Rattle.vx_record.specs.Rundown.{leave_frame, exited, without_frames, is_handler_of, drop_handler, drop_handlers, any_handler, cancel_handlers, deleted_by, cancel_modes, release, drop_all_handlers, is_busy, drain, cancelled_in, run_handlers, handling, run_down, inner_modes, rundown_from, without_ast}
use Rattle.vx_record.specs.Services.{number, service_of, service}
use Rattle.vx_record.specs.Events.{returned, run_on, run, started, delivered, don, step}

-- the system and the units
abbrev pub fixed : State → System × List DeviceUnit
fixed s = (s.system, s.units)

-- what is chosen keeps it if both do
both : {A : Type 0} (s : State) (b : Bool) (x y : Outcome A) → fixed x.after ≡ fixed s → fixed y.after ≡ fixed s → fixed (cond b x y).after ≡ fixed s
both s true x y h k = h
both s false x y h k = k

parts : (s : State) (b : Bool) (x y : Part) → fixed x.after ≡ fixed s → fixed y.after ≡ fixed s → fixed (cond b x y).after ≡ fixed s
parts s true x y h k = h
parts s false x y h k = k

each_kept : {A : Type 0} (f : State → A → Part) → ((s : State) (x : A) → fixed (f s x).after ≡ fixed s) → (xs : List A) (s : State) → fixed (each f xs s).after ≡ fixed s
each_kept f k [] s = refl
each_kept f k (x ∷ xs) s = each_kept f k xs (f s x).after ∙ k s x

-- Finish and mailboxes.

finish_kept : (s : State) (r : Request) (e : Ending) → fixed (finish s r e).after ≡ fixed s
finish_kept s r e = grind arith

write_done_kept : (s : State) (m : Msg) → fixed (write_done s m).after ≡ fixed s
write_done_kept s m = grind arith

received_kept : (s : State) (b : BoxNo) (m : Msg) (r : Request) → fixed (received s b m r).after ≡ fixed s
received_kept s b m r = finish_kept (mget_part s b m r.req.id).after r (read_ending r.req m m.body)

call_attention_kept : (s : State) (b : BoxNo) (func : Func) → fixed (call_attention s b func).after ≡ fixed s
call_attention_kept s b func = each_kept fire_attention (λ t a. refl) (filter (is_attention_at b func) s.attention) s

hand_over_kept : (s : State) (b : BoxNo) (m : Msg) (o : Option Request) → fixed (hand_over s b m o).after ≡ fixed s
hand_over_kept s b m o = grind (arith, call_attention_kept, write_done_kept, received_kept)

take_message_kept : (s : State) (b : BoxNo) (r : Request) (ms : List Msg) → fixed (take_message s b r ms).after ≡ fixed s
take_message_kept s b r [] =
    let e = ending EndOfFile 0 0 [] in
    call_attention_kept (part_if (not (is_waiting_func r.req.func)) (finish s r e) s).after b ReadAttn ∙ parts s (not (is_waiting_func r.req.func)) (finish s r e) (nothing s) (finish_kept s r e) refl
take_message_kept s b r (m ∷ ms) = grind (arith, parts, write_done_kept, received_kept)

-- Requests.

begun_on_kept : (s : State) (r : Request) (d : Device) → fixed (begun_on s r d).after ≡ fixed s
begun_on_kept s r d = grind (arith, take_message_kept, hand_over_kept)

attention_on_kept : (s : State) (p : Pid) (q : Asked) (d : Device) (o : Option Entry) → fixed (attention_on s p q d o).after ≡ fixed s
attention_on_kept s p q d o = grind arith

accepted_kept : (s : State) (p : Pid) (q : Asked) (c : Cell) (ch : Channel) → fixed (accepted s p q c ch).after ≡ fixed s
accepted_kept s p q c ch = grind (arith, attention_on_kept, begun_on_kept)

awaited_kept : (s : State) (p : Pid) (w : Wait) → fixed (awaited s p w).after ≡ fixed s
awaited_kept s p w = grind arith

qio_kept : (s : State) (p : Pid) (q : Asked) (r : Result (Cell × Channel) Cond) → fixed (qio_tested s p q r).after ≡ fixed s
qio_kept s p q (Err c) = refl
qio_kept s p q (Ok to) = accepted_kept s p q to.0 to.1

qiow_kept : (s : State) (p : Pid) (q : Asked) (r : Result (Cell × Channel) Cond) → fixed (qiow_tested s p q r).after ≡ fixed s
qiow_kept s p q (Err c) = refl
qiow_kept s p q (Ok to) = awaited_kept (accepted s p q to.0 to.1).after p (wait.Synch q.efn q.iosb) ∙ accepted_kept s p q to.0 to.1

-- Channels.

free_channel_kept : (s : State) (p : Pid) (n : ℕ) → fixed (free_channel s p n).after ≡ fixed s
free_channel_kept s p n = grind arith

withdraw_kept : (s : State) (r : Request) (d : Device) → fixed (withdraw s r d).after ≡ fixed s
withdraw_kept s r d = grind arith

cancel_request_kept : (s : State) (r : Request) → fixed (cancel_request s r).after ≡ fixed s
cancel_request_kept s r =
    parts s r.served _ (cancelled_request s r) (parts s (not r.marked) (mark_part s r) (nothing s) refl refl)
    (finish_kept (withdraw s r r.req.device).after r (ending Cancelled 0 0 []) ∙ withdraw_kept s r r.req.device)

cancel_channel_kept : (s : State) (p : Pid) (n : ℕ) → fixed (cancel_channel s p n).after ≡ fixed s
cancel_channel_kept s p n = grind (arith, each_kept, cancel_request_kept)

-- Processes, timers, exit handlers.

drop_timers_kept : (s : State) (passes : Timer → Bool) → fixed (drop_timers passes s).after ≡ fixed s
drop_timers_kept s passes = each_kept drop_timer (λ t x. refl) (filter passes s.timers) s

fire_kept : (s : State) (t : Timer) → fixed (fire s t).after ≡ fixed s
fire_kept s t = grind arith

leave_frame_kept : (s : State) (f : Frame) → fixed (leave_frame s f).after ≡ fixed s
leave_frame_kept s f = grind arith

exited_kept : (s : State) (p : Pid) (code : ℕ) → fixed (exited s p code).after ≡ fixed s
exited_kept s p code = each_kept leave_frame leave_frame_kept (process_at s p).frames (change s p (without_frames code))

drop_handlers_kept : (s : State) (p : Pid) (passes : Handler → Bool) → fixed (drop_handlers s p passes).after ≡ fixed s
drop_handlers_kept s p passes = each_kept (drop_handler p) (λ t x. refl) (filter passes (process_at s p).handlers) s

cancel_handlers_kept : (s : State) (p : Pid) (o : Option Entry) → fixed (cancel_handlers s p o).after ≡ fixed s
cancel_handlers_kept s p o = grind (arith, drop_handlers_kept)

deleted_by_kept : (s : State) (q : Pid) → fixed (deleted_by s q).after ≡ fixed s
deleted_by_kept s q = grind (arith, drop_handlers_kept, each_kept, leave_frame_kept)

-- Services.

service_of_kept : (s : State) (p : Pid) (a : Args) (v : Service) → fixed (service_of s p a v).after ≡ fixed s
service_of_kept s p a Exit = exited_kept s p (number a.a0)
service_of_kept s p a v = grind (arith, drop_timers_kept, deleted_by_kept, cancel_handlers_kept, free_channel_kept, cancel_channel_kept, qio_kept, qiow_kept)

pub service_keeps_system : (s : State) (p : Pid) (c : Call) → fixed (service s p c).after ≡ fixed s
service_keeps_system s p c = service_of_kept s p c.args c.service

-- Rundown.

release_kept : (s : State) (p : Pid) (m : Mode) → fixed (release s p m).after ≡ fixed s
release_kept s p m = grind (arith, each_kept, free_channel_kept)

cancel_modes_kept : (s : State) (p : Pid) (m : Mode) → fixed (cancel_modes s p m).after ≡ fixed s
cancel_modes_kept s p m = grind (arith, drop_timers_kept, each_kept, cancel_channel_kept)

drain_kept : (s : State) (p : Pid) (m : Mode) (next : State → Outcome Answer) → ((t : State) → fixed (next t).after ≡ fixed t) → fixed (drain p m next s).after ≡ fixed s
drain_kept s p m next k = both s (is_busy s p m) _ _ refl (k (release s p m).after ∙ release_kept s p m)

run_handlers_kept : (s : State) (p : Pid) (m : Mode) (next : State → Outcome Answer) (o : Option Handler) → ((t : State) → fixed (next t).after ≡ fixed t) → fixed (run_handlers s p m next o).after ≡ fixed s
run_handlers_kept s p m next None k = drain_kept (cancelled_in s p m).after p m next k ∙ cancel_modes_kept s p m
run_handlers_kept s p m next (Some x) k = refl

run_down_kept : (ms : List Mode) (p : Pid) (s : State) → fixed (run_down p ms s).after ≡ fixed s
run_down_kept [] p s = drop_timers_kept (drop_all_handlers p s).after (is_wake_for p) ∙ drop_handlers_kept s p any_handler
run_down_kept (m ∷ ms) p s = run_handlers_kept (handling p m s) p m (run_down p ms) (find (is_handler_of m) (process_at s p).handlers) (run_down_kept ms p)

rundown_kept : (s : State) (p : Pid) (ph : Phase) → fixed (rundown_from p ph s).after ≡ fixed s
rundown_kept s p (phase.Handlers m) = run_down_kept (m ∷ inner_modes m) p s
rundown_kept s p (phase.Draining m) = drain_kept s p m (run_down p (inner_modes m)) (run_down_kept (inner_modes m) p)
rundown_kept s p ph = refl

-- Steps.

returned_kept : (s : State) (p : Pid) (frames : List Frame) → fixed (returned s p frames).after ≡ fixed s
returned_kept s p frames = grind (arith, exited_kept)

run_on_kept : (s : State) (p : Pid) (at : ℕ) (x : Stop) → fixed (run_on s p at x).after ≡ fixed s
run_on_kept s p at (stop.Call c) = grind (arith, service_keeps_system)
run_on_kept s p at stop.Local = refl
run_on_kept s p at x = returned_kept s p (process_at s p).frames

run_kept : (s : State) (p : Pid) (frames : List Frame) → fixed (run s p frames).after ≡ fixed s
run_kept s p [] = refl
run_kept s p (f ∷ fs) = grind (arith, run_on_kept)

delivered_kept : (s : State) (p : Pid) (o : Option Queued) → fixed (delivered s p o).after ≡ fixed s
delivered_kept s p None = refl
delivered_kept s p (Some q) = started_kept q.tag
  where
    started_kept : (tag : Entry) → fixed (started (change s p (without_ast q.id)) p q tag).after ≡ fixed s
    started_kept (entry.Exit code) = exited_kept (change s p (without_ast q.id)) p code
    started_kept tag = refl

-- the units after an event: if a service ends, its unit is another
abbrev units_served : State → UnitNo → Option Request → List DeviceUnit
units_served s u None = s.units
units_served s u (Some r) = (with_unit s u (settled (unit_at s u) r.req)).units

abbrev units_after : State → Event → List DeviceUnit
units_after s (event.Don u) = units_served s u (in_service u s.requests)
units_after s e = s.units

don_kept : (s : State) (u : UnitNo) (o : Option Request) → fixed (don s u o).after ≡ (s.system, units_served s u o)
don_kept s u None = refl
don_kept s u (Some r) = finish_kept (with_unit s u (settled (unit_at s u) r.req)) r (unit_ending r (serve (unit_at s u) r.req).reply)

step_kept : (s : State) (e : Event) → fixed (step s e).after ≡ (s.system, units_after s e)
step_kept s (event.Run p) = run_kept s p (process_at s p).frames
step_kept s (event.Ast p) = delivered_kept s p (deliverable_ast s p)
step_kept s (event.Rdn p) = rundown_kept s p (process_at s p).phase
step_kept s (event.Beg u) = grind arith
step_kept s (event.Don u) = don_kept s u (in_service u s.requests)
step_kept s event.Tick = each_kept fire fire_kept (filter (is_due (next_time s)) s.timers) (at_time s (next_time s))

-- whose service an event ends
abbrev pub Spares : Event → UnitNo → Type 0
Spares (event.Don u) v = v.0 ≡ u.0 → ⊥
Spares e v = Unit {0}

other_unit : (s : State) (u v : UnitNo) (o : Option Request) → (v.0 ≡ u.0 → ⊥) → slice_index_or (units_served s u o) v.0 no_unit ≡ unit_at s v
other_unit s u v o k = grind (arith, get_or-set_other {A = DeviceUnit})

-- a unit stays as it is by an event that does not end its service
pub step_keeps_unit : (s : State) (e : Event) (v : UnitNo) → Spares e v → unit_at (step s e).after v ≡ unit_at s v
step_keeps_unit s e v k = grind (arith, step_kept, other_unit)

-- how many units there are stays
pub step_keeps_count : (s : State) (e : Event) → length (step s e).after.units ≡ length s.units
step_keeps_count s e = grind (arith, step_kept, length-set)

pub step_keeps_system : (s : State) (e : Event) → (step s e).after.system ≡ s.system
step_keeps_system s e = ap (λ (x : System × List DeviceUnit). x.0) (step_kept s e)
