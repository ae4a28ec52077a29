-- In every run each completion tells its status block and its flag: in records of RDN, DON, $QIO, $QIOW, $CANCEL and $DASSGN by what
-- their parts owe; no other record has a FIN.
use Rattle.std.proofs.Common.{Bool, Err, List, None, Ok, Option, Result, Some, [], append-nil, cond, false, map, not, refl, subst, sym, true, ℕ, ◌++◌, ◌+◌, ◌==◌, ◌∙◌, ◌∷◌, ◌≡◌, ◌≢◌}
use Rattle.std.proofs.lemmas.Bool.{and_from, and_parts}
use Rattle.std.specs.List.{AllByRecursion}
use Rattle.std.specs.Prelude.{Contains}
use Rattle.vx_record.specs.Types.{Answer, Args, Attention, Call, Cell, Channel, Cond, Device, Effect, Entry, Event, Frame, FrameKind, Pid, Queued, Rec, Request, Service, Stop, System, Wait}
use Rattle.vx_base.specs.Pieces.{cleared}
use Rattle.vx_base.specs.Queues.{front, in_service, is_served_by}
use Rattle.vx_base.specs.Serving.{serve, settled}
use Rattle.vx_base.specs.declared.effects.Effect.TheVariants as effect
use Rattle.vx_base.specs.declared.frame.FrameKind.TheVariants as kind
use Rattle.vx_base.specs.declared.frame.Wait.TheVariants as wait
use Rattle.vx_base.specs.declared.record.Answer.TheVariants as answer
use Rattle.vx_base.specs.declared.record.Event.TheVariants as event
use Rattle.vx_base.specs.declared.request.Device.TheVariants as device
use Rattle.vx_base.specs.declared.service.Service.TheVariants as service
use Rattle.vx_image.specs.Local.{advanced}
use Rattle.vx_image.specs.declared.stop.Stop.TheVariants as stop
use Rattle.vx_laws.proofs.Answers.{every_run_enables_told}
use Rattle.vx_record.proofs.Apart.{Here, cleared_after, here_after, opened_has}
use Rattle.vx_laws.proofs.Asked.{calling_of, latest_headed, opened_called, step_called}
use Rattle.vx_record.proofs.Base.{Base}
use Rattle.vx_laws.proofs.Calls.{Called, Unasked, called_on, is_unasked, moves_called}
use Rattle.vx_laws.proofs.Calm.{Fine, Tags, is_fine, moved_calm, tick_calm}
use Rattle.vx_laws.proofs.CalmServices.{leave_all_fine, service_calm}
use Rattle.vx_laws.proofs.Cleared.{every_run_blocks_cleared, headed}
use Rattle.vx_laws.proofs.Completed.{Ready, Still, Told, aloof_ends, aloof_others, ends_both, ends_then, finish_ends, lone, others_told, told_after}
use Rattle.vx_laws.proofs.Done.{is_other}
use Rattle.vx_laws.proofs.Drains.{DownBy, ends, enters, rundown_by}
use Rattle.vx_laws.proofs.Events.{beg_calm, delivered_calm, some_moved}
use Rattle.vx_laws.proofs.Holds.{Holds, first_holds, moves_hold, step_holds}
use Rattle.vx_record.proofs.Locals.{advanced_statuses}
use Rattle.vx_record.proofs.Moves.{Moves, moved}
use Rattle.vx_laws.proofs.Owes.{Tells, attend_aloof, begun_ends, channel_ends, free_aloof, ready_of, tells_drain}
use Rattle.vx_laws.proofs.Resumes.{every_run_resumes}
use Rattle.vx_laws.proofs.Runs.{first_stands, step_right}
use Rattle.vx_laws.proofs.Stands.{Stands}
use Rattle.vx_laws.proofs.Steps.{delivered_rank, delivered_some, first_tags, step_tags}
use Rattle.vx_laws.proofs.Tells.{cell_held, every_run_flags_told, every_run_waits_due}
use Rattle.vx_laws.specs.Agrees.{AsCalled}
use Rattle.vx_laws.specs.Items.{Did, Head, Item, at_each, effects_to_head, flat, later, latest_call}
use Rattle.vx_laws.specs.StatusLaw.{answers_right, completes_right, is_block_cleared, is_enable_told, is_flag_told, is_status_right, is_wait_due, status}
use Rattle.vx_laws.specs.StatusParts.{completions_told, is_completion_told, is_resumption_due}
use Rattle.vx_laws.specs.Values.{cell_by}
use Rattle.vx_record.proofs.Lists.{all_append, all_find, all_weaker, either}
use Rattle.vx_record.specs.Asts.{deliverable_ast}
use Rattle.vx_record.specs.Cancel.{cancel_at, cancel_channel, dassgn_at}
use Rattle.vx_record.specs.Channels.{channel_test, free_channel}
use Rattle.vx_record.specs.Charges.{is_attention, is_direct}
use Rattle.vx_record.specs.Events.{called, delivered, don, enabled, moved_behind, moved_to, reader, returned, returned_from, run, run_frame, run_on, served_call, step}
use Rattle.vx_record.specs.Finish.{iosb_part, put_status, this_request}
use Rattle.vx_record.specs.Flags.{cell, flag_part, flag_where_named, wait_condition}
use Rattle.vx_record.specs.Mailboxes.{attend}
use Rattle.vx_record.specs.Parts.{Outcome, Part, at_tested, nothing}
use Rattle.vx_record.specs.Requests.{Asked, accepted, asked_of, attention_on, attention_opened, attention_set, begun_on, cleared_part, done_at_once, new_attention, new_request, opened_request, qio_tested, qiow_tested, request_test, transfer, unit_ending, with_unit}
use Rattle.vx_record.specs.Rundown.{exited, without_frames}
use Rattle.vx_record.specs.Runs.{AreSteps, IsRun, first}
use Rattle.vx_record.specs.Services.{asked, at_once, number, service_of}
use Rattle.vx_record.specs.State.{State, change, image_of, process_at, unit_at}
use Rattle.vx_record.specs.declared.served.Served.TheVariants.{Answered, Waits}
use Rattle.vx_record.specs.declared.served.Served.{Served}
use Rattle.vx_record.proofs.Allowed.{enabled_there}
use Rattle.vx_record.proofs.Along.{first_base}
use Rattle.vx_laws.proofs.Moved.{awaited_none}
use Rattle.vx_laws.proofs.Passing.{latest_over}

abbrev RecordTold : List Item → Event → Outcome Answer → Type 0
RecordTold past e o = (rs : List Rec) → at_each is_completion_told (later (Head e o.answer ∷ past) (map Did o.effects)) (flat rs) ≡ true → at_each is_completion_told (Head e o.answer ∷ past) (map Did o.effects ++ flat rs) ≡ true

flat_still : (rs : List Rec) → Still (effects_to_head (flat rs))
flat_still [] = tt
flat_still (r ∷ rs) = tt

by_told : (past : List Item) (e : Event) (o : Outcome Answer) → Told (Head e o.answer ∷ past) o.effects → RecordTold past e o
by_told past e o h = λ rs g. h (flat rs) (flat_still rs) g

abbrev Others : List Effect → Type 0
Others es = AllByRecursion (λ x. is_other x ≡ true) es

fine_other : (x : Effect) → is_fine false x ≡ true → is_other x ≡ true
fine_other (effect.Fin id c) e = e
fine_other x e = refl

fine_others : (es : List Effect) → Fine false es → Others es
fine_others es h = all_weaker (λ (x : Effect). is_fine false x ≡ true) (λ (x : Effect). is_other x ≡ true) fine_other es h

by_fine : (past : List Item) (e : Event) (o : Outcome Answer) → Fine false o.effects → RecordTold past e o
by_fine past e o h = λ rs g. others_told (Head e o.answer ∷ past) o.effects (flat rs) (fine_others o.effects h) g

others_join : (es fs : List Effect) → Others es → Others fs → Others (es ++ fs)
others_join es fs h k = all_append (λ (x : Effect). is_other x ≡ true) es fs h k

-- $QIO and $QIOW.

flag_others : (s : State) (o : Option Cell) → Others (flag_where_named s o true).effects
flag_others s None = tt
flag_others s (Some c) = (refl, tt)

set_others : (s : State) (p : Pid) (q : Asked) (a : Attention) → Others (attention_set s p q a).effects
set_others s p q a =
    let one_part = attention_opened s p q a in
    let b = one_part.after in
    let two = iosb_part b p q.iosb done_at_once in
    let c = two.after in
    let three = flag_where_named c (cell c p q.efn) true in
    let d = three.after in
    let four = attend d a in
    others_join (one_part.effects ++ two.effects) (three.effects ++ four.effects)
    (others_join one_part.effects two.effects (refl, tt) (either (λ (x : Part). Others x.effects) (not (q.iosb == 0)) _ (nothing b) (refl, tt) tt))
    (others_join three.effects four.effects (flag_others c (cell c p q.efn)) (aloof_others four.effects (attend_aloof d a)))

attention_others : (s : State) (p : Pid) (q : Asked) (d : Device) (o : Option Entry) → Others (attention_on s p q d o).effects
attention_others s p q (device.Unit u) o = tt
attention_others s p q (device.Mailbox b) None = tt
attention_others s p q (device.Mailbox b) (Some tag) = set_others s p q (new_attention s p q b tag)

opened_others : (s : State) (p : Pid) (q : Asked) (ch : Channel) → Others (opened_request s p q ch).effects
opened_others s p q ch = either (λ (x : Part). Others x.effects) (is_direct s ch.device) _ _ (refl, tt) (refl, tt)

opened_cells : (u : State) (p : Pid) (q : Asked) (ch : Channel) (past : List Item) → Holds u past → (r : Pid) (efn : ℕ) → cell (opened_request u p q ch).after r efn ≡ cell_by (later past (map Did (opened_request u p q ch).effects)) r efn
opened_cells u p q ch past h r efn = either (λ (y : Part). cell y.after r efn ≡ cell_by (later past (map Did y.effects)) r efn) (is_direct u ch.device) _ _ (cell_held u past r efn h) (cell_held u past r efn h)

transfer_told : (u : State) (p : Pid) (a : Args) (v : Service) (ch : Channel) (past : List Item) (x : Served) (s : State) → latest_call past ≡ Some (calling_of p (record { service = v; args = a }) x) → Base u → Holds u past → Called past u.requests → Told past (transfer u p (asked s p a) ch).effects
transfer_told u p a v ch past x s at b h k =
    let q = asked s p a in
    let r = new_request u p q ch in
    let one_part = opened_request u p q ch in
    let t = one_part.after in
    let now = later past (map Did one_part.effects) in
    let called_now : Called now t.requests = opened_called u p q ch past a v x s refl at b k in
    let asked_now : AsCalled now r.req = all_find (λ (y : Request). AsCalled now y.req) (this_request r.req.id) t.requests r called_now (opened_has u p q ch b) in
    told_after past one_part.effects (begun_on t r ch.device).effects (opened_others u p q ch) (begun_ends t r ch.device now (record { cells = opened_cells u p q ch past h; called = called_now }) asked_now).told

cleared_all : (P : Effect → Type 0) (s : State) (p : Pid) (q : Asked) (c : Cell) → P (effect.Flag c false) → P (effect.Iosb p q.iosb None 0 0) → AllByRecursion P (cleared_part s p q c).effects
cleared_all P s p q c f i = (f, either (λ (y : Part). AllByRecursion P y.effects) (not (q.iosb == 0)) (put_status (flag_part s c false).after p q.iosb cleared) (nothing (flag_part s c false).after) (i, tt) tt)

accepted_told : (s : State) (p : Pid) (a : Args) (v : Service) (to : Cell × Channel) (x : Served) (o : Outcome Served) (past : List Item) → request_test s p (asked s p a) ≡ Ok to → Here s p → Holds s past → Called past s.requests →
    let c : Call = record { service = v; args = a } in Told (headed p c o x past) (accepted s p (asked s p a) to.0 to.1).effects
accepted_told s p a v to x o past is here h k =
    let c : Call = record { service = v; args = a } in
    let q = asked s p a in
    let zero_past = headed p c o x past in
    let one_part = cleared_part s p q to.0 in
    let u = one_part.after in
    let m : Moves s None one_part.effects u None = cleared_after s p q to is here in
    let others : Others one_part.effects = cleared_all (λ (y : Effect). is_other y ≡ true) s p q to.0 refl refl in
    let unasked : Unasked one_part.effects = cleared_all (λ (y : Effect). is_unasked y ≡ true) s p q to.0 refl refl in
    let one_past = later zero_past (map Did one_part.effects) in
    let holds_one : Holds u one_past = moves_hold s None one_part.effects u None zero_past m h in
    let called_one : Called one_past u.requests = moves_called s None one_part.effects u None zero_past m unasked here.base (called_on (Head (event.Run p) (served_call p c o x).answer) past s.requests (λ id. tt) k) in
    let there = here_after s p None one_part.effects u None m here in
    let at : latest_call one_past ≡ Some (calling_of p c x) = latest_over zero_past one_part.effects ∙ latest_headed p c o x past in
    let asks = attention_on u p q to.1.device q.ast in
    told_after zero_past one_part.effects (asked_of u p q to.1).effects others
    (either (λ (y : Part). Told one_past y.effects) (is_attention q.func) asks (transfer u p q to.1)
    (λ more still g. others_told one_past asks.effects more (attention_others u p q to.1.device q.ast) g)
    (transfer_told u p a v to.1 one_past x s at there.base holds_one called_one))

-- Calls.

served_told : (past : List Item) (p : Pid) (c : Call) (o : Outcome Served) (x : Served) → Told (headed p c o x past) o.effects → RecordTold past (event.Run p) (served_call p c o x)
served_told past p c o (Answered y) h = by_told past (event.Run p) (served_call p c o (Answered y)) h
served_told past p c o Waits h = by_told past (event.Run p) (served_call p c o Waits) h

-- a channel is cancelled, if its test passes
tested_told : (t : State) (past : List Item) (p : Pid) (c : Call) (go : Channel → Outcome Cond) (r : Result Channel Cond) → ((ch : Channel) (now : List Item) → Ready t now → Told now (go ch).effects) → Holds t past → Called past t.requests → RecordTold past (event.Run p) (called p c (at_once (at_tested t go r)))
tested_told t past p c go (Err x) f h k = λ rs g. g
tested_told t past p c go (Ok ch) f h k =
    let o = at_once (go ch) in
    let x = Head (event.Run p) (served_call p c o o.answer).answer in
    by_told past (event.Run p) (called p c o) (f ch (x ∷ past) (ready_of t (x ∷ past) h (called_on x past t.requests (λ id. tt) k)))

call_told : (t : State) (past : List Item) (p : Pid) (a : Args) (v : Service) → Here t p → (process_at t p).frames ≢ [] → Tags t → Holds t past → Called past t.requests → let c : Call = record { service = v; args = a } in RecordTold past (event.Run p) (called p c (service_of t p a v))
call_told t past p a service.Qio here some tags h k = by_test (request_test t p (asked t p a)) refl
  where
    by_test : (r : Result (Cell × Channel) Cond) → request_test t p (asked t p a) ≡ r → let c : Call = record { service = service.Qio; args = a } in RecordTold past (event.Run p) (called p c (at_once (qio_tested t p (asked t p a) r)))
    by_test (Err x) is = λ rs g. g
    by_test (Ok to) is =
        let c : Call = record { service = service.Qio; args = a } in
        let o = at_once (qio_tested t p (asked t p a) (Ok to)) in
        served_told past p c o o.answer (accepted_told t p a service.Qio to o.answer o past is here h k)
call_told t past p a service.QioW here some tags h k = by_test (request_test t p (asked t p a)) refl
  where
    by_test : (r : Result (Cell × Channel) Cond) → request_test t p (asked t p a) ≡ r → let c : Call = record { service = service.QioW; args = a } in RecordTold past (event.Run p) (called p c (qiow_tested t p (asked t p a) r))
    by_test (Err x) is = λ rs g. g
    by_test (Ok to) is =
        let c : Call = record { service = service.QioW; args = a } in
        let o = qiow_tested t p (asked t p a) (Ok to) in
        let one_part = accepted t p (asked t p a) to.0 to.1 in
        let u = one_part.after in
        let w = wait.Synch (number a.a0) (number a.a3) in
        let first_told = accepted_told t p a service.QioW to o.answer o past is here h k in
        served_told past p c o o.answer
        (subst (λ (es : List Effect). Told (headed p c o o.answer past) (one_part.effects ++ es)) (sym (awaited_none u p w (wait_condition u p w)))
        (subst (Told (headed p c o o.answer past)) (sym (append-nil one_part.effects)) first_told))
call_told t past p a service.Cancel here some tags h k =
    tested_told t past p (record { service = service.Cancel; args = a }) (cancel_at t p (number a.a0)) (channel_test t p (number a.a0)) (λ ch now r. (channel_ends t p (number a.a0) now r).told) h k
call_told t past p a service.Dassgn here some tags h k =
    let n = number a.a0 in
    let b = cancel_channel t p n in
    tested_told t past p (record { service = service.Dassgn; args = a }) (dassgn_at t p n) (channel_test t p n)
    (λ ch now r. (ends_then now b (λ x. free_channel x p n) (channel_ends t p n now r) (aloof_ends (later now (map Did b.effects)) (free_channel b.after p n).effects (free_aloof b.after p n))).told) h k
call_told t past p a v here some tags h k =
    let c : Call = record { service = v; args = a } in
    let o = service_of t p a v in
    let fine : Fine false o.effects = (service_calm t p a v here.made some tags).effects in
    served_told past p c o o.answer (λ more still g. others_told (headed p c o o.answer past) o.effects more (fine_others o.effects fine) g)

-- RUN.

exited_fine : (s : State) (p : Pid) (code : ℕ) → Fine false (exited s p code).effects
exited_fine s p code = leave_all_fine (process_at s p).frames (change s p (without_frames code))

returned_fine : (s : State) (p : Pid) (frames : List Frame) → Fine false (returned s p frames).effects
returned_fine s p [] = tt
returned_fine s p (f ∷ fs) = from f.kind
  where
    from : (x : FrameKind) → Fine false (returned_from s p f x).effects
    from kind.Main = exited_fine s p _
    from (kind.Ast id) = (refl, tt)
    from kind.Change = tt
    from kind.Handler = tt

on_told : (s : State) (past : List Item) (p : Pid) (n : ℕ) (x : Stop) → Here s p → (process_at s p).frames ≢ [] → Tags s → Holds s past → Called past s.requests → RecordTold past (event.Run p) (run_on s p n x)
on_told s past p n (stop.Call c) here some tags h k =
    let t = change s p (moved_behind n) in
    let m : Moves s None [] t None = moved s None p (process_at s p).store (n + 1) refl in
    call_told t past p c.args c.service (here_after s p None [] t None m here) (some_moved s p (process_at s p).store (n + 1) here.made some) (moved_calm false s p (process_at s p).store (n + 1) tags).tags (moves_hold s None [] t None past m h) k
on_told s past p n stop.Return here some tags h k = by_fine past (event.Run p) (returned s p (process_at s p).frames) (returned_fine s p (process_at s p).frames)
on_told s past p n stop.End here some tags h k = by_fine past (event.Run p) (returned s p (process_at s p).frames) (returned_fine s p (process_at s p).frames)
on_told s past p n stop.Local here some tags h k = λ rs g. g

frame_told : (s : State) (past : List Item) (p : Pid) (f : Frame) (o : Option Wait) → Here s p → (process_at s p).frames ≢ [] → Tags s → Holds s past → Called past s.requests → RecordTold past (event.Run p) (run_frame s p f o)
frame_told s past p f None here some tags h k =
    let a = advanced (image_of s p) (reader p f) (process_at s p).store f.pc in
    let t = change s p (moved_to a.store a.place) in
    let m : Moves s None [] t None = moved s None p a.store a.place (advanced_statuses (image_of s p) (reader p f) (process_at s p).store f.pc) in
    on_told t past p a.place a.stop (here_after s p None [] t None m here) (some_moved s p a.store a.place here.made some) (moved_calm false s p a.store a.place tags).tags (moves_hold s None [] t None past m h) k
frame_told s past p f (Some w) here some tags h k = λ rs g. g

run_told : (s : State) (past : List Item) (p : Pid) (frames : List Frame) → (process_at s p).frames ≡ frames → Here s p → Tags s → Holds s past → Called past s.requests → RecordTold past (event.Run p) (run s p frames)
run_told s past p [] is here tags h k = λ rs g. g
run_told s past p (f ∷ fs) is here tags h k = frame_told s past p f f.wait here (λ e. let never : f ∷ fs ≡ [] = sym is ∙ e in cc) tags h k

-- Each event.

rdn_told : (past : List Item) (s : State) (p : Pid) (a : Answer) (es : List Effect) (t : State) → DownBy Tells s p es t → Base s → Holds s past → Called past s.requests → Told (Head (event.Rdn p) a ∷ past) es
rdn_told past s p a es t (ends gs u c) b h k = (c.ends (Head (event.Rdn p) a ∷ past) b h (called_on (Head (event.Rdn p) a) past s.requests (λ id. tt) k)).told
rdn_told past s p a es t (enters gs u n d c m is) b h k =
    let head = Head (event.Rdn p) a ∷ past in
    let x = effect.Enter d.id ∷ [] in
    (ends_both head gs x (c.ends head b h (called_on (Head (event.Rdn p) a) past s.requests (λ id. tt) k)) (aloof_ends (later head (map Did gs)) x (lone (effect.Enter d.id) refl))).told

step_told : (s : State) (past : List Item) (e : Event) → Contains (enabled s) e → Base s → Tags s → Holds s past → Called past s.requests → RecordTold past e (step s e)
step_told s past (event.Run p) c b tags h k = run_told s past p (process_at s p).frames refl (record { base = b; made = enabled_there s (event.Run p) c }) tags h k
step_told s past (event.Ast p) c b tags h k = by_queue (deliverable_ast s p) refl
  where
    by_queue : (o : Option Queued) → deliverable_ast s p ≡ o → RecordTold past (event.Ast p) (delivered s p o)
    by_queue None is = λ rs g. g
    by_queue (Some q) is = by_fine past (event.Ast p) (delivered s p (Some q)) (delivered_calm s p q (enabled_there s (event.Ast p) c) (delivered_rank s p q is) (delivered_some s p q is) tags).effects
step_told s past (event.Rdn p) c b tags h k =
    let o = step s (event.Rdn p) in
    by_told past (event.Rdn p) o (rdn_told past s p o.answer o.effects o.after (rundown_by Tells tells_drain s p (process_at s p).phase (record { base = b; made = enabled_there s (event.Rdn p) c }) tags) b h k)
step_told s past (event.Beg u) c b tags h k = by_fine past (event.Beg u) (step s (event.Beg u)) (beg_calm s (front u s.requests) tags).effects
step_told s past (event.Don u) c b tags h k = by_served (in_service u s.requests) refl
  where
    by_served : (o : Option Request) → in_service u s.requests ≡ o → RecordTold past (event.Don u) (don s u o)
    by_served None is = λ rs g. g
    by_served (Some r) is =
        let x = Head (event.Don u) (answer.Unit r.req.id) in
        let t = with_unit s u (settled (unit_at s u) r.req) in
        let e = unit_ending r (serve (unit_at s u) r.req).reply in
        let called_now = called_on x past s.requests (λ id. tt) k in
        let asked_now = all_find (λ (y : Request). AsCalled (x ∷ past) y.req) (is_served_by u) s.requests r called_now is in
        by_told past (event.Don u) (don s u (Some r)) (finish_ends t r e (x ∷ past) (record { cells = λ p efn. cell_held s past p efn h; called = called_now }) asked_now).told
step_told s past event.Tick c b tags h k = by_fine past event.Tick (step s event.Tick) (tick_calm false s tags).effects

-- Runs.

runs_told : (s : State) (past : List Item) (rs : List Rec) → AreSteps s rs → Base s → Stands s None past → Tags s → Holds s past → Called past s.requests → at_each is_completion_told past (flat rs) ≡ true
runs_told s past [] j b g tags h k = refl
runs_told s past (r ∷ rs) j b g tags h k =
    let e = r.event in
    let c = j.0.enabled in
    let one_step = step_right s past e c b g in
    rw (j.0.answer, j.0.effects) (step_told s past e c b tags h k rs
    (runs_told (step s e).after (later (Head e (step s e).answer ∷ past) (map Did (step s e).effects)) rs j.1 one_step.base one_step.stands (step_tags s past e (enabled_there s e c) b tags) (step_holds s past e c b h) (step_called s past e c b k)))

pub every_run_completes : (system : System) (recs : List Rec) → IsRun system recs → completions_told recs ≡ true
every_run_completes system recs run = runs_told (first system) [] recs run.steps (first_base system) (first_stands system) (first_tags system) (first_holds system) tt

-- The law of flags and status blocks, whole.

answers_all : (past : List Item) (x : Item) (rest : List Item) → is_flag_told past x rest ≡ true → is_wait_due past x rest ≡ true → is_resumption_due past x rest ≡ true → answers_right past x rest ≡ true
answers_all past (Head (event.Run p) (answer.Service c cond)) rest f w r = and_from _ _ f w
answers_all past (Head (event.Run p) (answer.Wait c)) rest f w r = w
answers_all past (Head (event.Run p) (answer.Resume c)) rest f w r = r
answers_all past x rest f w r = refl

completes_all : (past : List Item) (x : Item) (rest : List Item) → is_completion_told past x rest ≡ true → is_block_cleared past x rest ≡ true → completes_right past x rest ≡ true
completes_all past (Did (effect.Fin id c)) rest f o = f
completes_all past (Did (effect.Open id k p mode n)) rest f o = o
completes_all past x rest f o = refl

next : (law : List Item → Item → List Item → Bool) (past : List Item) (x : Item) (xs : List Item) → at_each law past (x ∷ xs) ≡ true → (law past x xs ≡ true) × (at_each law (x ∷ past) xs ≡ true)
next law past x xs h = and_parts (law past x xs) (at_each law (x ∷ past) xs) h

parts_all : (past xs : List Item) → at_each is_enable_told past xs ≡ true → at_each is_flag_told past xs ≡ true → at_each is_wait_due past xs ≡ true → at_each is_resumption_due past xs ≡ true → at_each is_completion_told past xs ≡ true → at_each is_block_cleared past xs ≡ true → at_each is_status_right past xs ≡ true
parts_all past [] e f w r c o = refl
parts_all past (x ∷ xs) e f w r c o =
    let e1 = next is_enable_told past x xs e in
    let f1 = next is_flag_told past x xs f in
    let w1 = next is_wait_due past x xs w in
    let r1 = next is_resumption_due past x xs r in
    let c1 = next is_completion_told past x xs c in
    let o1 = next is_block_cleared past x xs o in
    and_from _ _ (and_from _ _ e1.0 (and_from _ _ (answers_all past x xs f1.0 w1.0 r1.0) (completes_all past x xs c1.0 o1.0))) (parts_all (x ∷ past) xs e1.1 f1.1 w1.1 r1.1 c1.1 o1.1)

pub every_run_tells : (system : System) (recs : List Rec) → IsRun system recs → status recs ≡ true
every_run_tells system recs run =
    parts_all [] (flat recs) (every_run_enables_told system recs run) (every_run_flags_told system recs run) (every_run_waits_due system recs run) (every_run_resumes system recs run) (every_run_completes system recs run) (every_run_blocks_cleared system recs run)
