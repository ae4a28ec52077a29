-- How each event turns what the frames of each process wait for, by its head.
use Rattle.std.proofs.Common.{Bool, Err, List, None, Ok, Option, Result, Some, [], ap, arith, cond, false, get_or-set_other, get_or-set_same, nat_lt, refl, subst, sym, true, ℕ, ◌%◌, ◌+◌, ◌-◌, ◌==◌, ◌^◌, ◌||◌, ◌∙◌, ◌∷◌, ◌≡◌, ◌≢◌, ◌≤◌}
use Rattle.std.proofs.lemmas.Bool.{eq-eqb, eqb-true, ltb-false, or_parts}
use Rattle.std.proofs.lemmas.List.{get_or_default}
use Rattle.vx_base.specs.Cond.{number_of}
use Rattle.vx_base.specs.Modes.{inner}
use Rattle.vx_record.specs.Types.{Answer, Args, Call, Cell, Channel, Cond, Entry, Event, Frame, FrameKind, Pid, Queued, Service, Stop, Wait}
use Rattle.vx_base.specs.declared.cond.Cond.TheVariants.{BadParam, IllEfc, NoPriv, Normal, UnasEfc}
use Rattle.vx_base.specs.declared.frame.FrameKind.TheVariants as kind
use Rattle.vx_base.specs.declared.frame.Wait.TheVariants as wait
use Rattle.vx_base.specs.declared.mode.Mode.TheVariants.{Exec, Kernel}
use Rattle.vx_base.specs.declared.record.Answer.TheVariants as answer
use Rattle.vx_base.specs.declared.record.Event.TheVariants as event
use Rattle.vx_base.specs.declared.routine.Entry.TheVariants as entry
use Rattle.vx_base.specs.declared.service.Service.TheVariants as service
use Rattle.vx_image.specs.Local.{advanced}
use Rattle.vx_image.specs.declared.stop.Stop.TheVariants as stop
use Rattle.vx_record.proofs.Apart.{Here, here_after}
use Rattle.vx_record.proofs.Steps.{test_made, left_after}
use Rattle.vx_record.proofs.Told.{accepted_after}
use Rattle.vx_laws.proofs.Awaited.{WaitsKept, frame_waits, waits_none, waits_of_kept, waits_plainly}
use Rattle.vx_laws.proofs.Untouched.{Keeps, Plainly, accepted_keeps, drop_handlers_keeps, keep_moved, keep_none, keep_same, keep_waits, newcomer, waits_of}
use Rattle.vx_laws.proofs.CalmServices.{call_turn, no_turn, refusal_turn, test_is, turns}
use Rattle.vx_laws.proofs.Events.{some_moved, start_turn, turn_is}
use Rattle.vx_laws.proofs.Kept.{made_on}
use Rattle.vx_record.proofs.Locals.{advanced_statuses}
use Rattle.vx_record.proofs.Moves.{Moves, moved}
use Rattle.vx_laws.specs.Frames.{Clears, Enters, Returns, Stays, Turn, ast_turn, turn, turned, turned_by, with_first}
use Rattle.vx_laws.specs.Items.{Item}
use Rattle.vx_laws.specs.Lives.{life}
use Rattle.vx_laws.specs.Values.{wait_for, wait_of}
use Rattle.vx_record.proofs.Lists.{either, either_by}
use Rattle.vx_record.specs.Asts.{is_inside, new_frame, with_frame}
use Rattle.vx_record.specs.Charges.{is_same}
use Rattle.vx_record.specs.Control.{named_process, process_test, with_wake}
use Rattle.vx_record.specs.Events.{below_top, delivered, moved_behind, moved_to, or_normal, put_back, r0_of, reader, resumed_with, returned, returned_from, run, run_frame, run_on, served_call, started, with_r0}
use Rattle.vx_record.specs.Flags.{at_flag, at_named, awaited_at, cell, refused_wait, wait_condition, waits_on, with_wait}
use Rattle.vx_record.specs.Parts.{Outcome, at_tested}
use Rattle.vx_record.specs.Requests.{Asked, accepted, is_bad, qiow_tested, request_test}
use Rattle.vx_record.specs.Rundown.{any_handler, deleted_by, exited, leave_all, named_for_deletion, without_ast, without_frames}
use Rattle.vx_record.specs.Services.{asked, at_once, number, routine, service_of}
use Rattle.vx_record.specs.State.{IsProcess, Process, State, change, current, image_of, nobody, pid, process_at, with_top}
use Rattle.vx_record.specs.declared.served.Served.TheVariants.{Answered, Waits}
use Rattle.vx_record.specs.declared.served.Served.{Served}
use Rattle.vx_base.proofs.Bools.{either_same, by_bool}
use Rattle.vx_base.specs.Lists.{rest}

-- what a turn makes of waits
abbrev pub shifted : Turn → List (Option Wait) → List (Option Wait)
shifted (Enters e) ws = None ∷ ws
shifted Returns ws = rest ws
shifted Clears ws = []
shifted Stays ws = ws

-- what an answer makes of them
abbrev pub heard : Answer → List (Option Wait) → List (Option Wait)
heard (answer.Wait c) ws = with_first (wait_of c) ws
heard (answer.Resume cond) ws = with_first None ws
heard a ws = ws

-- a wait names a status block, if any
abbrev pub IsFit : Option Wait → Type 0
IsFit None = Unit {0}
IsFit (Some (wait.Flags efn mask all)) = Unit {0}
IsFit (Some (wait.Synch efn iosb)) = iosb ≤ 32
IsFit (Some wait.Hiber) = Unit {0}

abbrev pub AnswerFits : Answer → Type 0
AnswerFits (answer.Wait c) = IsFit (wait_of c)
AnswerFits a = Unit {0}

pub record EventWaits (past : List Item) (s : State) (e : Event) (a : Answer) (t : State) : Type 0 where
  pub waits : (q : Pid) → 1 ≤ q.0 → frame_waits t q ≡ cond (is_same (turned e a) q) (heard a (shifted (turn past e a) (frame_waits s q))) (frame_waits s q)
  pub fit : AnswerFits a

-- A change of one process.

pub made_waits : (s : State) (p : Pid) → IsProcess s p → frame_waits s p ≡ waits_of (process_at s p).frames
made_waits s p made = ap (λ (pr : Process). waits_of pr.frames) (get_or_default s.procs (p.0 - 1) newcomer nobody (omega (arith, made.above, made.within)))

pub turn_change : (s : State) (p : Pid) (f : Process → Process) (g : List (Option Wait) → List (Option Wait)) → IsProcess s p → waits_of (f (process_at s p)).frames ≡ g (waits_of (process_at s p).frames) → (q : Pid) → 1 ≤ q.0 → frame_waits (change s p f) q ≡ cond (is_same p q) (g (frame_waits s q)) (frame_waits s q)
turn_change s p f g made e q above =
    by_bool (λ (b : Bool). frame_waits (change s p f) q ≡ cond b (g (frame_waits s q)) (frame_waits s q)) (p.0 == q.0)
    (λ t. let is : p ≡ q = ap (λ (n : ℕ). pid n) (eqb-true p.0 q.0 t) in
    subst (λ (r : Pid). frame_waits (change s p f) r ≡ g (frame_waits s r)) is
    (ap (λ (pr : Process). waits_of pr.frames) (get_or-set_same s.procs (p.0 - 1) (f (process_at s p)) newcomer (omega (arith, made.above, made.within))) ∙ (e ∙ ap g (sym (made_waits s p made)))))
    (λ n. ap (λ (pr : Process). waits_of pr.frames) (get_or-set_other s.procs (p.0 - 1) (q.0 - 1) (f (process_at s p)) newcomer (λ e. let same : (p.0 == q.0) ≡ true = eq-eqb p.0 q.0 (omega (arith, made.above, above, e)) in cc)))

-- Calls.

abbrev pub served_shift : Pid → Args → Service → Served → Pid → List (Option Wait) → List (Option Wait)
served_shift p a v (Answered c) q ws = cond (is_same (turned_by p a v) q) (shifted (call_turn v c) ws) ws
served_shift p a v Waits q ws = cond (is_same p q) (with_first (wait_for a v) ws) ws

abbrev pub ServedFits : Args → Service → Served → Type 0
ServedFits a v (Answered c) = Unit {0}
ServedFits a v Waits = IsFit (wait_for a v)

pub record ServiceWaits (s : State) (p : Pid) (a : Args) (v : Service) (x : Served) (t : State) : Type 0 where
  pub waits : (q : Pid) → 1 ≤ q.0 → frame_waits t q ≡ served_shift p a v x q (frame_waits s q)
  pub fit : ServedFits a v x

answered_waits : (s : State) (p : Pid) (a : Args) (v : Service) (c : Cond) (t : State) → call_turn v c ≡ Stays → WaitsKept s t → ServiceWaits s p a v (Answered c) t
answered_waits s p a v c t n k = record { waits = λ q above. k.waits (q.0 - 1) ∙ sym (rw n (either_same (is_same (turned_by p a v) q) (frame_waits s q))); fit = tt }

top_waits : (w : Option Wait) (fs : List Frame) → waits_of (with_top (λ f. record f { wait = w }) fs) ≡ with_first w (waits_of fs)
top_waits w [] = refl
top_waits w (f ∷ fs) = refl

paused_waits : (s u : State) (p : Pid) (a : Args) (v : Service) (w : Wait) → IsProcess u p → wait_for a v ≡ Some w → IsFit (Some w) → Keeps s u → ServiceWaits s p a v Waits (change u p (with_wait (Some w)))
paused_waits s u p a v w made is fit k = record {
  waits = λ q above. turn_change u p (with_wait (Some w)) (with_first (Some w)) made (top_waits (Some w) (process_at u p).frames) q above ∙ rw (keep_waits k (q.0 - 1), is) refl;
  fit = rw is fit;
}

-- a wait that is tried
tried_waits : (s u : State) (p : Pid) (a : Args) (v : Service) (w : Wait) (o : Option Cond) → turns v ≡ false → IsProcess u p → wait_for a v ≡ Some w → IsFit (Some w) → Keeps s u → ServiceWaits s p a v (awaited_at u p w o).answer (awaited_at u p w o).after
tried_waits s u p a v w None n made is fit k = paused_waits s u p a v w made is fit k
tried_waits s u p a v w (Some c) n made is fit k = answered_waits s p a v c u (no_turn v c n) (waits_of_kept k)

-- a flag test, and then that
waiting_waits : (s : State) (p : Pid) (a : Args) (v : Service) (efn : ℕ) (w : Wait) → turns v ≡ false → IsProcess s p → wait_for a v ≡ Some w → IsFit (Some w) → let o = at_flag s p efn (refused_wait s) (waits_on s p w) in ServiceWaits s p a v o.answer o.after
waiting_waits s p a v efn w n made is fit =
    either (λ (o : Outcome Served). ServiceWaits s p a v o.answer o.after) (nat_lt 127 efn) (refused_wait s IllEfc) (at_named (refused_wait s) (waits_on s p w) (cell s p efn)) (answered_waits s p a v IllEfc s (no_turn v IllEfc n) (waits_none s)) (named (cell s p efn))
  where
    named : (o : Option Cell) → let x = at_named (refused_wait s) (waits_on s p w) o in ServiceWaits s p a v x.answer x.after
    named None = answered_waits s p a v UnasEfc s (no_turn v UnasEfc n) (waits_none s)
    named (Some c) = tried_waits s s p a v w (wait_condition s p w) n made is fit (keep_none s)

abbrev ServesWaits : State → Pid → Args → Service → Outcome Served → Type 0
ServesWaits s p a v o = ServiceWaits s p a v o.answer o.after

plain_waits : (s : State) (p : Pid) (a : Args) (v : Service) (o : Outcome Served) → turns v ≡ false → Plainly WaitsKept s o → ServesWaits s p a v o
plain_waits s p a v o n k = subst (λ (x : Served). ServiceWaits s p a v x o.after) (sym k.is) (answered_waits s p a v k.cond o.after (no_turn v k.cond n) k.keeps)

-- frames turned by a service
turned_waits : (s : State) (p q : Pid) (a : Args) (v : Service) (f : Process → Process) (tu : Turn) → turned_by p a v ≡ q → call_turn v Normal ≡ tu → IsProcess s q → waits_of (f (process_at s q)).frames ≡ shifted tu (waits_of (process_at s q).frames) → ServiceWaits s p a v (Answered Normal) (change s q f)
turned_waits s p q a v f tu who is made e = record { waits = λ r above. rw (who, is) (turn_change s q f (shifted tu) made e r above); fit = tt }

-- what is kept after
after_keeps : (s t u : State) (p : Pid) (a : Args) (v : Service) (x : Served) → ServiceWaits s p a v x t → Keeps t u → ServiceWaits s p a v x u
after_keeps s t u p a v x h k = record { waits = λ q above. keep_waits k (q.0 - 1) ∙ h.waits q above; fit = h.fit }

exited_is : (s : State) (p : Pid) (code : ℕ) → (exited s p code).after ≡ change s p (without_frames code)
exited_is s p code = left_after (process_at s p).frames (change s p (without_frames code))

deleted_waits : (s : State) (p q : Pid) (a : Args) → named_process p (number a.a0) ≡ q → IsProcess s q → ServiceWaits s p a service.DelPrc (Answered Normal) (deleted_by s q).after
deleted_waits s p q a who made =
    let t = change s q named_for_deletion in
    let b = (leave_all (process_at s q).frames t).after in
    let one : ServiceWaits s p a service.DelPrc (Answered Normal) b = subst (ServiceWaits s p a service.DelPrc (Answered Normal)) (sym (left_after (process_at s q).frames t)) (turned_waits s p q a service.DelPrc named_for_deletion Clears who refl made refl) in
    after_keeps s b (deleted_by s q).after p a service.DelPrc (Answered Normal) one (drop_handlers_keeps b q any_handler)

delprc_waits : (s : State) (p : Pid) (a : Args) (r : Result Pid Cond) → process_test s p (number a.a0) ≡ r → ServesWaits s p a service.DelPrc (at_once (at_tested s (deleted_by s) r))
delprc_waits s p a (Err c) is = answered_waits s p a service.DelPrc c s (refusal_turn s p (number a.a0) c is) (waits_none s)
delprc_waits s p a (Ok q) is = deleted_waits s p q a (test_is s p (number a.a0) q is) (test_made s p (number a.a0) q is)

block_fits : (q : Asked) → is_bad q ≡ false → q.iosb ≤ 32
block_fits q e = ltb-false 32 q.iosb (or_parts _ _ e).0

test_fits : (s : State) (p : Pid) (q : Asked) (to : Cell × Channel) → request_test s p q ≡ Ok to → q.iosb ≤ 32
test_fits s p q to = either_by (λ (r : Result (Cell × Channel) Cond). r ≡ Ok to → q.iosb ≤ 32) (is_bad q) _ _ (λ t e. cc) (λ f e. block_fits q f)

qiow_waits : (s : State) (p : Pid) (a : Args) (r : Result (Cell × Channel) Cond) → request_test s p (asked s p a) ≡ r → Here s p → ServesWaits s p a service.QioW (qiow_tested s p (asked s p a) r)
qiow_waits s p a (Err c) is here = answered_waits s p a service.QioW c s (no_turn service.QioW c refl) (waits_none s)
qiow_waits s p a (Ok to) is here =
    let u = (accepted s p (asked s p a) to.0 to.1).after in
    let w = wait.Synch (number a.a0) (number a.a3) in
    let made = (here_after s p None (accepted s p (asked s p a) to.0 to.1).effects u None (accepted_after s p (asked s p a) to is here) here).made in
    tried_waits s u p a service.QioW w (wait_condition u p w) refl made refl (test_fits s p (asked s p a) to is) (accepted_keeps s p (asked s p a) to.0 to.1)

pub service_waits : (s : State) (p : Pid) (a : Args) (v : Service) → Here s p → ServesWaits s p a v (service_of s p a v)
service_waits s p a service.CmExec here =
    either (λ (o : Outcome Cond). ServiceWaits s p a service.CmExec (Answered o.answer) o.after) (is_inside (current s p) || ((process_at s p).privs.cmexec || (process_at s p).privs.cmkrnl)) _ _
    (turned_waits s p p a service.CmExec (with_frame (new_frame s p kind.Change (inner (current s p) Exec) (routine s p a.a0 (number a.a1)) 0)) (Enters (record { ast = None; mode = Exec })) refl refl here.made refl)
    (answered_waits s p a service.CmExec NoPriv s refl (waits_none s))
service_waits s p a service.CmKrnl here =
    either (λ (o : Outcome Cond). ServiceWaits s p a service.CmKrnl (Answered o.answer) o.after) (is_inside (current s p) || (process_at s p).privs.cmkrnl) _ _
    (turned_waits s p p a service.CmKrnl (with_frame (new_frame s p kind.Change Kernel (routine s p a.a0 (number a.a1)) 0)) (Enters (record { ast = None; mode = Kernel })) refl refl here.made refl)
    (answered_waits s p a service.CmKrnl NoPriv s refl (waits_none s))
service_waits s p a service.Exit here = subst (ServiceWaits s p a service.Exit (Answered Normal)) (sym (exited_is s p (number a.a0))) (turned_waits s p p a service.Exit (without_frames (number a.a0)) Clears refl refl here.made refl)
service_waits s p a service.DelPrc here = delprc_waits s p a (process_test s p (number a.a0)) refl
service_waits s p a service.WaitFr here = waiting_waits s p a service.WaitFr (number a.a0) (wait.Flags (number a.a0) (2 ^ (number a.a0 % 32)) false) refl here.made refl tt
service_waits s p a service.WflOr here = waiting_waits s p a service.WflOr (number a.a0) (wait.Flags (number a.a0) (number a.a1) false) refl here.made refl tt
service_waits s p a service.WflAnd here = waiting_waits s p a service.WflAnd (number a.a0) (wait.Flags (number a.a0) (number a.a1) true) refl here.made refl tt
service_waits s p a service.Synch here =
    either_by (λ (o : Outcome Served). ServesWaits s p a service.Synch o) (nat_lt 32 (number a.a1)) (refused_wait s BadParam) (at_flag s p (number a.a0) (refused_wait s) (waits_on s p (wait.Synch (number a.a0) (number a.a1))))
    (λ y. answered_waits s p a service.Synch BadParam s refl (waits_none s)) (λ f. waiting_waits s p a service.Synch (number a.a0) (wait.Synch (number a.a0) (number a.a1)) refl here.made refl (ltb-false 32 (number a.a1) f))
service_waits s p a service.QioW here = qiow_waits s p a (request_test s p (asked s p a)) refl here
service_waits s p a service.Hiber here =
    either (λ (o : Outcome Served). ServesWaits s p a service.Hiber o) (process_at s p).wake_pending _ _ (answered_waits s p a service.Hiber Normal (change s p (with_wake false)) refl (waits_of_kept (keep_same s p (with_wake false) refl))) (paused_waits s s p a service.Hiber wait.Hiber here.made refl tt (keep_none s))
service_waits s p a v here = plain_waits s p a v (service_of s p a v) refl (waits_plainly s p a v refl)

-- RUN.

abbrev RunWaits : List Item → State → Pid → Outcome Answer → Type 0
RunWaits past s p o = EventWaits past s (event.Run p) o.answer o.after

before_keeps : (past : List Item) (s t : State) (e : Event) (a : Answer) (u : State) → Keeps s t → EventWaits past t e a u → EventWaits past s e a u
before_keeps past s t e a u k h = record { waits = λ q above. h.waits q above ∙ rw (keep_waits k (q.0 - 1)) refl; fit = h.fit }

served_waits : (past : List Item) (s : State) (p : Pid) (c : Call) (o : Outcome Served) (x : Served) → ServiceWaits s p c.args c.service x o.after → RunWaits past s p (served_call p c o x)
served_waits past s p c o (Answered y) h = record {
  waits = λ q above. keep_waits (keep_same o.after p (with_r0 (number_of y)) refl) (q.0 - 1) ∙ (h.waits q above ∙ rw (turn_is past p c y) refl);
  fit = tt;
}
served_waits past s p c o Waits h = record { waits = h.waits; fit = h.fit }

-- a turn of the frames of a process that runs
run_turned : (past : List Item) (s : State) (p : Pid) (a : Answer) (f : Process → Process) (g : List (Option Wait) → List (Option Wait)) → turned (event.Run p) a ≡ p → ((ws : List (Option Wait)) → heard a (shifted (turn past (event.Run p) a) ws) ≡ g ws) → AnswerFits a → IsProcess s p → waits_of (f (process_at s p)).frames ≡ g (waits_of (process_at s p).frames) → EventWaits past s (event.Run p) a (change s p f)
run_turned past s p a f g who is fit made e = record { waits = λ q above. turn_change s p f g made e q above ∙ rw (who, is (frame_waits s q)) refl; fit = fit }

top_below : (fs : List Frame) → waits_of (rest fs) ≡ rest (waits_of fs)
top_below [] = refl
top_below (f ∷ fs) = refl

from_waits : (past : List Item) (s : State) (p : Pid) (f : Frame) (k : FrameKind) → IsProcess s p → RunWaits past s p (returned_from s p f k)
from_waits past s p f kind.Main made = subst (EventWaits past s (event.Run p) answer.End) (sym (exited_is s p (r0_of s p))) (run_turned past s p answer.End (without_frames (r0_of s p)) (λ ws. []) refl (λ ws. refl) tt made refl)
from_waits past s p f (kind.Ast id) made = run_turned past s p answer.Return (put_back f.saved_r0) rest refl (λ ws. refl) tt made (top_below (process_at s p).frames)
from_waits past s p f kind.Change made = run_turned past s p answer.Return below_top rest refl (λ ws. refl) tt made (top_below (process_at s p).frames)
from_waits past s p f kind.Handler made = run_turned past s p answer.Return below_top rest refl (λ ws. refl) tt made (top_below (process_at s p).frames)

return_waits : (past : List Item) (s : State) (p : Pid) (frames : List Frame) → (process_at s p).frames ≡ frames → frames ≢ [] → IsProcess s p → RunWaits past s p (returned s p frames)
return_waits past s p [] is some made = absurd (some refl)
return_waits past s p (f ∷ fs) is some made = from_waits past s p f f.kind made

local_waits : (past : List Item) (s : State) (p : Pid) → EventWaits past s (event.Run p) answer.Local s
local_waits past s p = record { waits = λ q above. sym (either_same (is_same p q) (frame_waits s q)); fit = tt }

on_waits : (past : List Item) (s : State) (p : Pid) (place : ℕ) (x : Stop) → Here s p → (process_at s p).frames ≢ [] → RunWaits past s p (run_on s p place x)
on_waits past s p place (stop.Call c) here some =
    let t = change s p (moved_behind place) in
    let o = service_of t p c.args c.service in
    let two = served_call p c o o.answer in
    let move : Moves s None [] t None = moved s None p (process_at s p).store (place + 1) refl in
    before_keeps past s t (event.Run p) two.answer two.after (keep_moved s p (process_at s p).store (place + 1)) (served_waits past t p c o o.answer (service_waits t p c.args c.service (here_after s p None [] t None move here)))
on_waits past s p place stop.Return here some = return_waits past s p (process_at s p).frames refl some here.made
on_waits past s p place stop.End here some = return_waits past s p (process_at s p).frames refl some here.made
on_waits past s p place stop.Local here some = local_waits past s p

resumed_frames : (w : Wait) (c : Cond) (pr : Process) → waits_of (resumed_with w c pr).frames ≡ with_first None (waits_of pr.frames)
resumed_frames (wait.Flags a b k) c pr = top_waits None pr.frames
resumed_frames (wait.Synch a b) c pr = top_waits None pr.frames
resumed_frames wait.Hiber c pr = top_waits None pr.frames

frame_pauses : (past : List Item) (s : State) (p : Pid) (f : Frame) (o : Option Wait) → Here s p → (process_at s p).frames ≢ [] → RunWaits past s p (run_frame s p f o)
frame_pauses past s p f None here some =
    let a = advanced (image_of s p) (reader p f) (process_at s p).store f.pc in
    let t = change s p (moved_to a.store a.place) in
    let two = run_on t p a.place a.stop in
    let move : Moves s None [] t None = moved s None p a.store a.place (advanced_statuses (image_of s p) (reader p f) (process_at s p).store f.pc) in
    before_keeps past s t (event.Run p) two.answer two.after (keep_moved s p a.store a.place) (on_waits past t p a.place a.stop (here_after s p None [] t None move here) (some_moved s p a.store a.place here.made some))
frame_pauses past s p f (Some w) here some = let c = or_normal (wait_condition s p w) in run_turned past s p (answer.Resume c) (resumed_with w c) (with_first None) refl (λ ws. refl) tt here.made (resumed_frames w c (process_at s p))

pub run_waits : (past : List Item) (s : State) (p : Pid) (frames : List Frame) → (process_at s p).frames ≡ frames → Here s p → RunWaits past s p (run s p frames)
run_waits past s p [] is here = local_waits past s p
run_waits past s p (f ∷ fs) is here = frame_pauses past s p f f.wait here (λ e. let never : f ∷ fs ≡ [] = sym is ∙ e in cc)

-- AST.

ast_turned : (past : List Item) (s : State) (p : Pid) (q : Queued) (f : Process → Process) (tu : Turn) → ast_turn q.id (life past q.id) ≡ tu → IsProcess s p → waits_of (f (process_at s p)).frames ≡ shifted tu (waits_of (process_at s p).frames) → EventWaits past s (event.Ast p) (answer.Ast q.id) (change s p f)
ast_turned past s p q f tu is made e = record { waits = λ r above. turn_change s p f (shifted tu) made e r above ∙ rw (sym is) refl; fit = tt }

started_waits : (past : List Item) (s : State) (p : Pid) (q : Queued) (tag : Entry) → ast_turn q.id (life past q.id) ≡ start_turn q tag → IsProcess s p → EventWaits past s (event.Ast p) (answer.Ast q.id) (started s p q tag).after
started_waits past s p q (entry.Exit code) is made = subst (EventWaits past s (event.Ast p) (answer.Ast q.id)) (sym (exited_is s p code)) (ast_turned past s p q (without_frames code) Clears is made refl)
started_waits past s p q (entry.Label k prm) is made = ast_turned past s p q (with_frame (new_frame s p (kind.Ast q.id) q.mode (entry.Label k prm) (r0_of s p))) (start_turn q (entry.Label k prm)) is made refl
started_waits past s p q (entry.Host prm) is made = ast_turned past s p q (with_frame (new_frame s p (kind.Ast q.id) q.mode (entry.Host prm) (r0_of s p))) (start_turn q (entry.Host prm)) is made refl

pub delivered_waits : (past : List Item) (s : State) (p : Pid) (q : Queued) → ast_turn q.id (life past q.id) ≡ start_turn q q.tag → IsProcess s p → EventWaits past s (event.Ast p) (answer.Ast q.id) (delivered s p (Some q)).after
delivered_waits past s p q is made =
    let t = change s p (without_ast q.id) in
    before_keeps past s t (event.Ast p) (answer.Ast q.id) (started t p q q.tag).after (keep_same s p (without_ast q.id) refl) (started_waits past t p q q.tag is (made_on s p (without_ast q.id) made))

-- The heads of other events turn nothing.

pub nobody_turned : (q : Pid) → 1 ≤ q.0 → is_same (pid 0) q ≡ false
nobody_turned q above = by_bool (λ (b : Bool). (0 == q.0) ≡ b → b ≡ false) (0 == q.0) (λ t e. absurd (let n : 0 ≡ q.0 = eqb-true 0 q.0 e in omega (arith, n, above))) (λ f e. refl) refl
