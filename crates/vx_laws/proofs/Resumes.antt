-- In every run what each frame waits for is what the records tell, and a resumption ends the wait of the top frame.
use Rattle.std.proofs.Common.{Bool, List, None, Option, Some, [], ap, cond, false, is_some, map, refl, subst, sym, true, ℕ, ◌&&◌, ◌++◌, ◌+◌, ◌-◌, ◌==◌, ◌∙◌, ◌∷◌, ◌≡◌, ◌≤◌}
use Rattle.std.proofs.lemmas.Bool.{and_from, and_parts, eqb-true}
use Rattle.std.proofs.lemmas.Slice.Eq.{bytes_eq-Decides}
use Rattle.std.specs.List.{AllByRecursion}
use Rattle.std.specs.Prelude.{Contains}
use Rattle.vx_base.specs.Cond.{name_of}
use Rattle.vx_record.specs.Types.{Answer, Call, Cond, DeviceUnit, Effect, Event, Frame, FrameKind, Pid, ProcDecl, Queued, Rec, Request, Stop, System, Timer, UnitNo, Wait}
use Rattle.vx_base.specs.Queues.{front, in_service}
use Rattle.vx_base.specs.Serving.{serve, settled}
use Rattle.vx_base.specs.declared.cond.Cond.TheVariants.{Normal}
use Rattle.vx_base.specs.declared.effects.Effect.TheVariants as effect
use Rattle.vx_base.specs.declared.frame.FrameKind.TheVariants as kind
use Rattle.vx_base.specs.declared.frame.Wait.TheVariants as wait
use Rattle.vx_base.specs.declared.record.Answer.TheVariants as answer
use Rattle.vx_base.specs.declared.record.Event.TheVariants as event
use Rattle.vx_image.specs.Local.{advanced}
use Rattle.vx_image.specs.declared.stop.Stop.TheVariants as stop
use Rattle.vx_laws.proofs.Awaited.{WaitsKept, cancelled_in_waits, frame_waits, gone_waits, phase_waits, release_waits, waits_none, waits_of_kept, waits_then}
use Rattle.vx_laws.proofs.Untouched.{finish_keeps, keep_procs, keep_then, newcomer, tick_keeps, waits_of}
use Rattle.vx_record.proofs.Base.{Base, made_more, moves_keep}
use Rattle.vx_laws.proofs.Calm.{Fine, Tags, cancelled_in_calm, gone_calm, is_fine, release_calm, tick_calm}
use Rattle.vx_laws.proofs.Drains.{DownBy, IsDrain, ends, enters, rundown_by}
use Rattle.vx_laws.proofs.Events.{delivered_calm, don_calm, may_finish, run_calm}
use Rattle.vx_laws.proofs.Framed.{delivers_so, start_is, step_kinds}
use Rattle.vx_laws.proofs.Holds.{Holds, first_holds, step_holds}
use Rattle.vx_laws.proofs.Kept.{handler_found, later_both, moves_stand}
use Rattle.vx_laws.proofs.Pauses.{AnswerFits, EventWaits, IsFit, delivered_waits, heard, made_waits, nobody_turned, run_waits, shifted, turn_change}
use Rattle.vx_laws.proofs.Runs.{first_stands, step_right}
use Rattle.vx_laws.proofs.Seats.{HandlerLives, life_of, seat}
use Rattle.vx_laws.proofs.Stands.{Stands}
use Rattle.vx_laws.proofs.Steps.{delivered_rank, delivered_some, first_tags, step_tags}
use Rattle.vx_laws.proofs.Tagged.{Kinds, first_kinds}
use Rattle.vx_laws.proofs.Tells.{satisfied_held}
use Rattle.vx_laws.proofs.Turns.{later_items}
use Rattle.vx_laws.specs.Agrees.{waited}
use Rattle.vx_laws.specs.Frames.{Clears, Enters, Returns, Stays, Turn, awaited, turn, turned, waits_told, waits_turned, with_first, with_handler_wait}
use Rattle.vx_laws.specs.Items.{Did, Head, Item, at_each, flat, is_cond, is_this_cond, later, past_of}
use Rattle.vx_laws.specs.Lives.{Life, life}
use Rattle.vx_laws.specs.StatusLaw.{resumes_right, resumes_wait}
use Rattle.vx_laws.specs.StatusParts.{is_resumption_due, resumptions_due}
use Rattle.vx_laws.specs.Values.{satisfied_by, wait_of}
use Rattle.vx_record.proofs.Lists.{all_append, all_at, all_get, either, either_by}
use Rattle.vx_record.specs.Asts.{deliverable_ast}
use Rattle.vx_record.specs.Charges.{is_same}
use Rattle.vx_record.specs.Events.{ast_or_run, beg, beg_event, can_run, can_run_down, delivered, don, don_or_beg, enabled, is_satisfied, moved_behind, moved_to, or_normal, process_events, processes_from, reader, returned, returned_from, run, run_events, run_frame, run_on, served_call, step, tick_events, unit_events, units_from}
use Rattle.vx_record.specs.Finish.{finish}
use Rattle.vx_record.specs.Flags.{normal_if, wait_condition}
use Rattle.vx_record.specs.Parts.{Outcome}
use Rattle.vx_record.specs.Requests.{begun, unit_ending, with_unit}
use Rattle.vx_record.specs.Rundown.{entering, handler_frame, is_handler_of}
use Rattle.vx_record.specs.Runs.{AreSteps, IsRun, after, after_from, born_from, born_of, first}
use Rattle.vx_record.specs.Services.{service_of}
use Rattle.vx_record.specs.State.{IsProcess, Process, State, change, image_of, pid, process_at, unit_at}
use Rattle.vx_record.specs.declared.served.Served.TheVariants.{Answered, Waits}
use Rattle.vx_record.specs.declared.served.Served.{Served}
use Rattle.vx_record.proofs.Allowed.{enabled_there}
use Rattle.vx_record.proofs.Along.{first_base}
use Rattle.vx_base.proofs.Bools.{either_same}
use Rattle.vx_base.specs.Lists.{rest, is_some_and}

-- at the ends of records
pub record Awaits (s : State) (past : List Item) : Type 0 where
  pub told : (p : Pid) → 1 ≤ p.0 → map waited (awaited past p) ≡ frame_waits s p
  pub fit : (p : Pid) → 1 ≤ p.0 → AllByRecursion IsFit (frame_waits s p)

-- Heads.

turn_map : (tu : Turn) (ws : List (Option Call)) → map waited (waits_turned tu ws) ≡ shifted tu (map waited ws)
turn_map (Enters e) ws = refl
turn_map Returns [] = refl
turn_map Returns (w ∷ ws) = refl
turn_map Clears ws = refl
turn_map Stays ws = refl

first_map : (o : Option Call) (ws : List (Option Call)) → map waited (with_first o ws) ≡ with_first (waited o) (map waited ws)
first_map o [] = refl
first_map o (w ∷ ws) = refl

heard_map : (a : Answer) (ws : List (Option Call)) → map waited (waits_told a ws) ≡ heard a (map waited ws)
heard_map (answer.Wait c) ws = first_map (Some c) ws
heard_map (answer.Resume cond) ws = first_map None ws
heard_map a ws = refl

head_map : (b : Bool) (a : Answer) (tu : Turn) (ws : List (Option Call)) → map waited (cond b (waits_told a (waits_turned tu ws)) ws) ≡ cond b (heard a (shifted tu (map waited ws))) (map waited ws)
head_map true a tu ws = heard_map a (waits_turned tu ws) ∙ ap (heard a) (turn_map tu ws)
head_map false a tu ws = refl

below_fits : (ws : List (Option Wait)) → AllByRecursion IsFit ws → AllByRecursion IsFit (rest ws)
below_fits [] h = tt
below_fits (w ∷ ws) h = h.1

shifted_fits : (tu : Turn) (ws : List (Option Wait)) → AllByRecursion IsFit ws → AllByRecursion IsFit (shifted tu ws)
shifted_fits (Enters e) ws h = (tt, h)
shifted_fits Returns ws h = below_fits ws h
shifted_fits Clears ws h = tt
shifted_fits Stays ws h = h

first_fits : (w : Option Wait) (ws : List (Option Wait)) → IsFit w → AllByRecursion IsFit ws → AllByRecursion IsFit (with_first w ws)
first_fits w [] k h = tt
first_fits w (x ∷ ws) k h = (k, h.1)

heard_fits : (a : Answer) (ws : List (Option Wait)) → AnswerFits a → AllByRecursion IsFit ws → AllByRecursion IsFit (heard a ws)
heard_fits (answer.Wait c) ws k h = first_fits (wait_of c) ws k h
heard_fits (answer.Resume cond) ws k h = first_fits None ws tt h
heard_fits a ws k h = h

-- Effects without ENTER put no frame.

awaited_one : (b : Bool) (past : List Item) (x : Effect) (p : Pid) → is_fine b x ≡ true → awaited (Did x ∷ past) p ≡ awaited past p
awaited_one b past (effect.Enter id) p k = absurd (let never : false ≡ true = k in cc)
awaited_one b past x p k = refl

awaited_later : (b : Bool) (past : List Item) (es : List Effect) (p : Pid) → Fine b es → awaited (later past (map Did es)) p ≡ awaited past p
awaited_later b past [] p k = refl
awaited_later b past (x ∷ xs) p k = awaited_later b (Did x ∷ past) xs p k.1 ∙ awaited_one b past x p k.0

awaits_by : (b : Bool) (past : List Item) (e : Event) (a : Answer) (s : State) (es : List Effect) (t : State) → Fine b es → EventWaits past s e a t → Awaits s past → Awaits t (later (Head e a ∷ past) (map Did es))
awaits_by b past e a s es t fine w h = record {
  told = λ p above. ap (map waited) (awaited_later b (Head e a ∷ past) es p fine) ∙ (head_map (is_same (turned e a) p) a (turn past e a) (awaited past p)
      ∙ (ap (λ (ws : List (Option Wait)). cond (is_same (turned e a) p) (heard a (shifted (turn past e a) ws)) ws) (h.told p above) ∙ sym (w.waits p above)));
  fit = λ p above. rw (w.waits p above) (either (AllByRecursion IsFit) (is_same (turned e a) p) _ _ (heard_fits a (shifted (turn past e a) (frame_waits s p)) w.fit (shifted_fits (turn past e a) (frame_waits s p) (h.fit p above))) (h.fit p above));
}

-- a head that turns nobody's
awaits_kept : (b : Bool) (past : List Item) (e : Event) (a : Answer) (s : State) (es : List Effect) (t : State) → turned e a ≡ pid 0 → Fine b es → WaitsKept s t → Awaits s past → Awaits t (later (Head e a ∷ past) (map Did es))
awaits_kept b past e a s es t who fine k h = record {
  told = λ p above. ap (map waited) (awaited_later b (Head e a ∷ past) es p fine) ∙ (rw (who, nobody_turned p above) (h.told p above) ∙ sym (k.waits (p.0 - 1)));
  fit = λ p above. rw (k.waits (p.0 - 1)) (h.fit p above);
}

-- RDN.

-- what rundown keeps, until it enters a handler
record Rests (s : State) (es : List Effect) (t : State) : Type 0 where
  fine : Fine true es
  keeps : WaitsKept s t

rests_drain : IsDrain Rests
rests_drain = record {
  start = λ s g. record { fine = tt; keeps = waits_none s };
  join = λ s t u es fs j h k. record { fine = all_append (λ x. is_fine true x ≡ true) es fs h.fine k.fine; keeps = waits_then h.keeps k.keeps };
  phases = λ s p ph h g. record { fine = tt; keeps = phase_waits s p ph };
  releases = λ s p m h g. record { fine = (release_calm true s p m g).effects; keeps = release_waits s p m };
  cancels = λ s p m h g. record { fine = (cancelled_in_calm s p m g).effects; keeps = cancelled_in_waits s p m };
  goes = λ s p h g. record { fine = (gone_calm s p g).effects; keeps = gone_waits s p };
}

handler_waits : (p q : Pid) (o : Option Life) (ws : List (Option Call)) → is_some_and (λ l. (seat l == 4) && life_of p l) o ≡ true → map waited (with_handler_wait o q ws) ≡ cond (is_same p q) (None ∷ map waited ws) (map waited ws)
handler_waits p q None ws h = absurd (let never : false ≡ true = h in cc)
handler_waits p q (Some l) ws h =
    let owner : l.p.0 ≡ p.0 = eqb-true l.p.0 p.0 (and_parts (seat l == 4) (life_of p l) h).1 in
    rw owner (map_either (p.0 == q.0))
  where
    map_either : (b : Bool) → map waited (cond b (None ∷ ws) ws) ≡ cond b (None ∷ map waited ws) (map waited ws)
    map_either true = refl
    map_either false = refl

rdn_awaits : (past : List Item) (s : State) (p : Pid) (a : Answer) (es : List Effect) (t : State) → DownBy Rests s p es t → IsProcess s p → Base s → Stands s None past → Awaits s past → Awaits t (later (Head (event.Rdn p) a ∷ past) (map Did es))
rdn_awaits past s p a es t (ends gs u c) made b g h = awaits_kept true past (event.Rdn p) a s gs u refl c.fine c.keeps h
rdn_awaits past s p a es t (enters gs u n d c m is) made b g h =
    let head = Head (event.Rdn p) a ∷ past in
    let now = later head (map Did gs) in
    let before : Awaits u now = awaits_kept true past (event.Rdn p) a s gs u refl c.fine c.keeps h in
    let kept = moves_keep s None gs u None m b in
    let made_u : IsProcess u p = made_more s u p kept.more made in
    let stands_u : Stands u None now = moves_stand s None gs u None head m b g in
    let owner : HandlerLives now p d = handler_found u p (is_handler_of n) d now made_u is stands_u in
    let f = handler_frame u p d in
    let push = λ (ws : List (Option Wait)). None ∷ ws in
    let there = turn_change u p (entering f d.id) push made_u refl in
    subst (λ (items : List Item). Awaits (change u p (entering f d.id)) items) (sym (later_both head gs (effect.Enter d.id ∷ [])))
    (record {
      told = λ q above. handler_waits p q (life now d.id) (awaited now q) owner ∙ (ap (λ (ws : List (Option Wait)). cond (is_same p q) (push ws) ws) (before.told q above) ∙ sym (there q above));
      fit = λ q above. rw (there q above) (either (AllByRecursion IsFit) (is_same p q) _ _ (tt, before.fit q above) (before.fit q above));
    })

-- Each event.

pub step_awaits : (s : State) (past : List Item) (e : Event) → Contains (enabled s) e → Base s → Stands s None past → Kinds s None past → Tags s → Awaits s past → Awaits (step s e).after (later (Head e (step s e).answer ∷ past) (map Did (step s e).effects))
step_awaits s past (event.Run p) c b g k tags h =
    let o = step s (event.Run p) in
    let made = enabled_there s (event.Run p) c in
    awaits_by (may_finish o.answer) past (event.Run p) o.answer s o.effects o.after (run_calm past s p (process_at s p).frames refl made tags).effects (run_waits past s p (process_at s p).frames refl (record { base = b; made = made })) h
step_awaits s past (event.Ast p) c b g k tags h = by_queue (deliverable_ast s p) refl
  where
    local : EventWaits past s (event.Ast p) answer.Local s
    local = record { waits = λ q above. sym (either_same (is_same p q) (frame_waits s q)); fit = tt }

    by_queue : (o : Option Queued) → deliverable_ast s p ≡ o → Awaits (delivered s p o).after (later (Head (event.Ast p) (delivered s p o).answer ∷ past) (map Did (delivered s p o).effects))
    by_queue None is = awaits_by false past (event.Ast p) answer.Local s [] s tt local h
    by_queue (Some q) is =
        let made = enabled_there s (event.Ast p) c in
        let d = delivers_so s past p q is made g k tags in
        let o = delivered s p (Some q) in
        let calm = delivered_calm s p q made (delivered_rank s p q is) (delivered_some s p q is) tags in
        awaits_by false past (event.Ast p) (answer.Ast q.id) s o.effects o.after calm.effects (delivered_waits past s p q (start_is p q (life past q.id) d.tagged d.lives_so d.kind_so) made) h
step_awaits s past (event.Rdn p) c b g k tags h =
    let o = step s (event.Rdn p) in
    let made = enabled_there s (event.Rdn p) c in
    rdn_awaits past s p o.answer o.effects o.after (rundown_by Rests rests_drain s p (process_at s p).phase (record { base = b; made = made }) tags) made b g h
step_awaits s past (event.Beg u) c b g k tags h = by_front (front u s.requests)
  where
    by_front : (o : Option Request) → Awaits (beg s o).after (later (Head (event.Beg u) (beg s o).answer ∷ past) (map Did (beg s o).effects))
    by_front None = awaits_kept true past (event.Beg u) answer.Local s [] s refl tt (waits_none s) h
    by_front (Some r) = awaits_kept true past (event.Beg u) (answer.Unit r.req.id) s [] (begun s r) refl tt (waits_of_kept (keep_procs s (begun s r) refl)) h
step_awaits s past (event.Don u) c b g k tags h = by_served (in_service u s.requests) refl
  where
    by_served : (o : Option Request) → in_service u s.requests ≡ o → Awaits (don s u o).after (later (Head (event.Don u) (don s u o).answer ∷ past) (map Did (don s u o).effects))
    by_served None is = awaits_kept true past (event.Don u) answer.Local s [] s refl tt (waits_none s) h
    by_served (Some r) is =
        let a = with_unit s u (settled (unit_at s u) r.req) in
        let e = unit_ending r (serve (unit_at s u) r.req).reply in
        awaits_kept true past (event.Don u) (answer.Unit r.req.id) s (finish a r e).effects (finish a r e).after refl (don_calm s u (Some r) is tags).effects (waits_of_kept (keep_then (keep_procs s a refl) (finish_keeps a r e))) h
step_awaits s past event.Tick c b g k tags h =
    let o = step s event.Tick in
    awaits_kept false past event.Tick o.answer s o.effects o.after refl (tick_calm false s tags).effects (waits_of_kept (tick_keeps s)) h

-- A process that runs has a top frame that waits for nothing or for what has come.

abbrev CanRun : State → Event → Type 0
CanRun s (event.Run p) = can_run s p (process_at s p).frames ≡ true
CanRun s e = Unit {0}

run_can : (s : State) (p : Pid) → AllByRecursion (CanRun s) (run_events s p)
run_can s p =
    let P = AllByRecursion (CanRun s) in
    either_by P (can_run s p (process_at s p).frames) _ _ (λ k. (k, tt)) (λ n. either P (can_run_down s p (process_at s p).frames) _ _ (tt, tt) tt)

ast_can : (s : State) (p : Pid) (o : Option Queued) → AllByRecursion (CanRun s) (ast_or_run s p o)
ast_can s p None = run_can s p
ast_can s p (Some q) = (tt, tt)

processes_can : (s : State) (n : ℕ) (prs : List Process) → AllByRecursion (CanRun s) (processes_from s n prs)
processes_can s n [] = tt
processes_can s n (pr ∷ prs) =
    all_append (CanRun s) (process_events s (pid n)) (processes_from s (n + 1) prs) (either (AllByRecursion (CanRun s)) (process_at s (pid n)).suspended _ _ tt (ast_can s (pid n) (deliverable_ast s (pid n)))) (processes_can s (n + 1) prs)

beg_can : (s : State) (u : UnitNo) (o : Option Request) → AllByRecursion (CanRun s) (beg_event u o)
beg_can s u None = tt
beg_can s u (Some r) = (tt, tt)

don_can : (s : State) (u : UnitNo) (o : Option Request) → AllByRecursion (CanRun s) (don_or_beg s u o)
don_can s u None = beg_can s u (front u s.requests)
don_can s u (Some r) = (tt, tt)

units_can : (s : State) (n : ℕ) (us : List DeviceUnit) → AllByRecursion (CanRun s) (units_from s n us)
units_can s n [] = tt
units_can s n (u ∷ us) =
    let v : UnitNo = record { 0 = n } in
    all_append (CanRun s) (unit_events s v) (units_from s (n + 1) us) (don_can s v (in_service v s.requests)) (units_can s (n + 1) us)

ticks_can : (s : State) (ts : List Timer) → AllByRecursion (CanRun s) (tick_events ts)
ticks_can s [] = tt
ticks_can s (t ∷ ts) = (tt, tt)

enabled_can : (s : State) (e : Event) → Contains (enabled s) e → CanRun s e
enabled_can s e c =
    let all =
    all_append (CanRun s) (processes_from s 1 s.procs) (units_from s 0 s.units ++ tick_events s.timers) (processes_can s 1 s.procs)
    (all_append (CanRun s) (units_from s 0 s.units) (tick_events s.timers) (units_can s 0 s.units) (ticks_can s s.timers)) in
    subst (CanRun s) c.2 (all_at (CanRun s) (enabled s) c.0 e all c.1)

-- A resumption.

same_cond : (c : Cond) → is_cond c c ≡ true
same_cond c = (bytes_eq-Decides (name_of c) (name_of c)).1 refl

told_right : (o m : Option Cond) → o ≡ m → is_some o ≡ true → is_this_cond (or_normal o) m ≡ true
told_right None m e k = absurd (let never : false ≡ true = k in cc)
told_right (Some c) m e k = rw (← e) (same_cond c)

woken_right : (b : Bool) → is_some (normal_if b) ≡ true → is_cond (or_normal (normal_if b)) Normal ≡ true
woken_right true k = refl
woken_right false k = absurd (let never : false ≡ true = k in cc)

wait_right : (s : State) (past : List Item) (p : Pid) (w : Wait) → 1 ≤ p.0 → Holds s past → IsFit (Some w) → is_some (wait_condition s p w) ≡ true → resumes_wait past p (or_normal (wait_condition s p w)) (Some w) ≡ true
wait_right s past p (wait.Flags efn mask all) above h fit k = told_right (wait_condition s p (wait.Flags efn mask all)) (satisfied_by past p (wait.Flags efn mask all)) (satisfied_held s past p (wait.Flags efn mask all) above tt h) k
wait_right s past p (wait.Synch efn iosb) above h fit k = told_right (wait_condition s p (wait.Synch efn iosb)) (satisfied_by past p (wait.Synch efn iosb)) (satisfied_held s past p (wait.Synch efn iosb) above fit h) k
wait_right s past p wait.Hiber above h fit k = woken_right (process_at s p).wake_pending k

top_right : (past : List Item) (p : Pid) (c : Cond) (ws : List (Option Call)) (w : Wait) (rest : List (Option Wait)) → map waited ws ≡ Some w ∷ rest → resumes_wait past p c (Some w) ≡ true → resumes_right past p c ws ≡ true
top_right past p c [] w rest e k = absurd (let never : [] ≡ Some w ∷ rest = e in cc)
top_right past p c (None ∷ ws) w rest e k = absurd (let never : None ∷ map waited ws ≡ Some w ∷ rest = e in cc)
top_right past p c (Some x ∷ ws) w rest e k = let is : wait_of x ≡ Some w = (let all : wait_of x ∷ map waited ws ≡ Some w ∷ rest = e in cc) in rw is k

abbrev ResumesRight : List Item → Event → Answer → Type 0
ResumesRight past e a = (more : List Item) → is_resumption_due past (Head e a) more ≡ true

calls_no : (past : List Item) (p : Pid) (c : Call) (o : Outcome Served) (x : Served) → ResumesRight past (event.Run p) (served_call p c o x).answer
calls_no past p c o (Answered y) = λ more. refl
calls_no past p c o Waits = λ more. refl

from_no : (past : List Item) (s : State) (p : Pid) (f : Frame) (k : FrameKind) → ResumesRight past (event.Run p) (returned_from s p f k).answer
from_no past s p f kind.Main = λ more. refl
from_no past s p f (kind.Ast id) = λ more. refl
from_no past s p f kind.Change = λ more. refl
from_no past s p f kind.Handler = λ more. refl

returns_no : (past : List Item) (s : State) (p : Pid) (frames : List Frame) → ResumesRight past (event.Run p) (returned s p frames).answer
returns_no past s p [] = λ more. refl
returns_no past s p (f ∷ fs) = from_no past s p f f.kind

on_no : (past : List Item) (s : State) (p : Pid) (place : ℕ) (x : Stop) → ResumesRight past (event.Run p) (run_on s p place x).answer
on_no past s p place (stop.Call c) = let o = service_of (change s p (moved_behind place)) p c.args c.service in calls_no past p c o o.answer
on_no past s p place stop.Return = returns_no past s p (process_at s p).frames
on_no past s p place stop.End = returns_no past s p (process_at s p).frames
on_no past s p place stop.Local = λ more. refl

frame_right : (past : List Item) (s : State) (p : Pid) (f : Frame) (fs : List Frame) (o : Option Wait) → f.wait ≡ o → (process_at s p).frames ≡ f ∷ fs → IsProcess s p → is_satisfied s p o ≡ true → Holds s past → Awaits s past → ResumesRight past (event.Run p) (run_frame s p f o).answer
frame_right past s p f fs None waits is made k h g =
    let a = advanced (image_of s p) (reader p f) (process_at s p).store f.pc in
    on_no past (change s p (moved_to a.store a.place)) p a.place a.stop
frame_right past s p f fs (Some w) waits is made k h g =
    let top : frame_waits s p ≡ Some w ∷ waits_of fs = made_waits s p made ∙ rw (is, waits) refl in
    let fits : AllByRecursion IsFit (Some w ∷ waits_of fs) = subst (AllByRecursion IsFit) top (g.fit p made.above) in
    λ more. top_right past p (or_normal (wait_condition s p w)) (awaited past p) w (waits_of fs) (g.told p made.above ∙ top) (wait_right s past p w made.above h fits.0 k)

run_right : (past : List Item) (s : State) (p : Pid) (frames : List Frame) → (process_at s p).frames ≡ frames → IsProcess s p → can_run s p frames ≡ true → Holds s past → Awaits s past → ResumesRight past (event.Run p) (run s p frames).answer
run_right past s p [] is made k h g = λ more. refl
run_right past s p (f ∷ fs) is made k h g = frame_right past s p f fs f.wait refl is made k h g

head_right : (s : State) (past : List Item) (e : Event) → Contains (enabled s) e → Holds s past → Awaits s past → ResumesRight past e (step s e).answer
head_right s past (event.Run p) c h g = run_right past s p (process_at s p).frames refl (enabled_there s (event.Run p) c) (enabled_can s (event.Run p) c) h g
head_right s past (event.Ast p) c h g = λ more. refl
head_right s past (event.Rdn p) c h g = λ more. refl
head_right s past (event.Beg u) c h g = λ more. refl
head_right s past (event.Don u) c h g = λ more. refl
head_right s past event.Tick c h g = λ more. refl

-- At first.

born_waits : (place : ℕ) (ds : List ProcDecl) → AllByRecursion (λ pr. waits_of pr.frames ≡ None ∷ []) (born_from place ds)
born_waits place [] = tt
born_waits place (d ∷ ds) = either (AllByRecursion (λ (pr : Process). waits_of pr.frames ≡ None ∷ [])) d.start (born_of place d ∷ born_from (place + 1) ds) (born_from (place + 1) ds) (refl, born_waits (place + 1) ds) (born_waits (place + 1) ds)

pub first_awaits : (system : System) → Awaits (first system) []
first_awaits system =
    let all = λ (p : Pid). all_get (λ (pr : Process). waits_of pr.frames ≡ None ∷ []) (born_from 0 system.decls) (p.0 - 1) newcomer refl (born_waits 0 system.decls) in
    record { told = λ p above. sym (all p); fit = λ p above. rw (all p) (tt, tt) }

-- Runs.

-- what a law of heads says of effects
skip : (past : List Item) (es : List Effect) (more : List Item) → at_each is_resumption_due (later past (map Did es)) more ≡ true → at_each is_resumption_due past (map Did es ++ more) ≡ true
skip past [] more h = h
skip past (x ∷ xs) more h = skip (Did x ∷ past) xs more h

run_resumes : (s : State) (past : List Item) (rs : List Rec) → AreSteps s rs → Base s → Stands s None past → Kinds s None past → Tags s → Holds s past → Awaits s past → at_each is_resumption_due past (flat rs) ≡ true
run_resumes s past [] j b g k tags h w = refl
run_resumes s past (r ∷ rs) j b g k tags h w =
    let e = r.event in
    let c = j.0.enabled in
    let one_step = step_right s past e c b g in
    rw (j.0.answer, j.0.effects)
    (and_from _ _ (head_right s past e c h w (map Did (step s e).effects ++ flat rs)) (skip (Head e (step s e).answer ∷ past) (step s e).effects (flat rs)
    (run_resumes (step s e).after (later (Head e (step s e).answer ∷ past) (map Did (step s e).effects)) rs j.1 one_step.base one_step.stands (step_kinds s past e c b g k) (step_tags s past e (enabled_there s e c) b tags) (step_holds s past e c b h) (step_awaits s past e c b g k tags w))))

pub every_run_resumes : (system : System) (recs : List Rec) → IsRun system recs → resumptions_due recs ≡ true
every_run_resumes system recs run = run_resumes (first system) [] recs run.steps (first_base system) (first_stands system) (first_kinds system) (first_tags system) (first_holds system) (first_awaits system)

-- At each moment.

run_awaits : (s : State) (past : List Item) (rs : List Rec) → AreSteps s rs → Base s → Stands s None past → Kinds s None past → Tags s → Awaits s past → Awaits (after_from s rs) (later past (flat rs))
run_awaits s past [] j b g k tags h = h
run_awaits s past (r ∷ rs) j b g k tags h =
    let e = r.event in
    let c = j.0.enabled in
    let one_step = step_right s past e c b g in
    let es = (step s e).effects in
    let x = Head e (step s e).answer in
    rw (j.0.answer, j.0.effects, later_items (x ∷ past) (map Did es) (flat rs))
    (run_awaits (step s e).after (later (x ∷ past) (map Did es)) rs j.1 one_step.base one_step.stands (step_kinds s past e c b g k) (step_tags s past e (enabled_there s e c) b tags) (step_awaits s past e c b g k tags h))

pub every_wait : (system : System) (recs : List Rec) (p : Pid) → IsRun system recs → IsProcess (after system recs) p → map (λ f. f.wait) (process_at (after system recs) p).frames ≡ map waited (awaited (past_of recs) p)
every_wait system recs p run made = sym (made_waits (after system recs) p made) ∙ sym ((run_awaits (first system) [] recs run.steps (first_base system) (first_stands system) (first_kinds system) (first_tags system) (first_awaits system)).told p made.above)
