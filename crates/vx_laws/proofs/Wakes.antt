-- Scheduled wakes: each in the list is for the process that its $SCHDWK names, and none has a routine.
use Rattle.std.proofs.Common.{◌≡◌, ◌∙◌, ℕ, ◌+◌, ◌<◌, ◌≤◌, List, [], ◌∷◌, ◌++◌, Bool, true, false, cond, not, ◌==◌, ◌&&◌, Option, Some, None, Result, Ok, Err, map, refl, sym, ap, subst, arith, ⊎_elim}
use Rattle.std.specs.Prelude.{Contains, option_map, is_some}
use Rattle.std.specs.List.{AllByRecursion}
use Rattle.std.proofs.lemmas.Bool.{and_parts, eq-eqb, eqb-true, cases_lt, not_from_false, and_left, not-true}
use Rattle.vx_record.specs.Types.{Alarm, Answer, Call, Cond, Effect, Event, Frame, Id, Mode, Opened, Pid, Queued, Request, Service, Stop, Timer, Wait}
use Rattle.vx_base.specs.Pieces.{OfTimer, OfWake}
use Rattle.vx_base.specs.Queues.{front, in_service}
use Rattle.vx_base.specs.declared.effects.Effect.TheVariants as effect
use Rattle.vx_base.specs.declared.effects.Opened.TheVariants as opened
use Rattle.vx_base.specs.declared.record.Answer.TheVariants as answer
use Rattle.vx_base.specs.declared.record.Event.TheVariants as event
use Rattle.vx_base.specs.declared.service.Service.TheVariants.{SchdWk}
use Rattle.vx_image.specs.Local.{advanced}
use Rattle.vx_image.specs.declared.stop.Stop.TheVariants as stop
use Rattle.vx_record.specs.Asts.{deliverable_ast}
use Rattle.vx_record.specs.Charges.{is_same, exceeds, ast_need}
use Rattle.vx_record.specs.Control.{process_test}
use Rattle.vx_record.specs.Events.{moved_to, moved_behind, served_call, run_on, reader, run_frame, run, started, delivered, beg, step, enabled}
use Rattle.vx_record.specs.Parts.{Outcome, at_tested}
use Rattle.vx_record.specs.Rundown.{without_ast}
use Rattle.vx_record.specs.Services.{service_of, number, at_once}
use Rattle.vx_record.specs.State.{Process, State, process_at, change, image_of, next_id}
use Rattle.vx_record.specs.Timers.{due_again, scheduled, new_wake}
use Rattle.vx_record.specs.declared.served.Served.{Served}
use Rattle.vx_record.specs.declared.served.Served.TheVariants.{Answered, Waits}
use Rattle.vx_record.proofs.Base.{Base}
use Rattle.vx_record.proofs.Lists.{either, all_append, all_weaker, all_both}
use Rattle.vx_record.proofs.Moves.{Loose, Moves, IsOfTimer}
use Rattle.vx_record.proofs.Steps.{IsThere}
use Rattle.vx_record.proofs.Told.{started_moves, step_moves}
use Rattle.vx_record.proofs.Allowed.{enabled_there}
use Rattle.vx_laws.specs.Items.{Item, Head, Did, later, latest_call, calling}
use Rattle.vx_laws.specs.Lives.{Life, life, opens, is_wake, finished, fired, dropped, entered_once, queued_now, marked_now, begun_by, started as ast_started}
use Rattle.vx_laws.specs.RundownLaw.{woken}
use Rattle.vx_laws.proofs.Allowed.{Test, is_allowed, Allowed, MayOpen, nil, service_allowed, tick_allowed, returned_allowed, started_allowed, delivered_allowed, beg_allowed, don_allowed}
use Rattle.vx_laws.proofs.Boxed.{Origin, origin, origin_of, origin_on}
use Rattle.vx_laws.proofs.CalmServices.{test_is}
use Rattle.vx_laws.proofs.Courses.{Unasked, all_unasked}
use Rattle.vx_laws.proofs.Emptied.{moves_held}
use Rattle.vx_laws.proofs.Rests.{is_rundown}
use Rattle.vx_laws.proofs.Right.{AllRight, IsRight}
use Rattle.vx_laws.proofs.Runs.{step_right}
use Rattle.vx_laws.proofs.Seats.{TimerLives, timer_life, Known, seat}
use Rattle.vx_laws.proofs.Stands.{Stands}
use Rattle.vx_laws.proofs.Calls.{IsElse}
use Rattle.vx_base.specs.Lists.{is_some_and}

abbrev pub no_wake : Test
no_wake = record { opens = λ k p. not (is_wake k); gone = false }

-- Moves that open no wake keep what is said of all timers, if it is so of those that are no wakes.

pub record IsOfTimers (P : Timer → Type 0) : Type 0 where
  pub due : (n : ℕ) (t : Timer) → P t → P (due_again n t)
  pub timer : (t : Timer) → IsOfTimer t.what → P t

pub moves_timed : (P : Timer → Type 0) → IsOfTimers P → (s : State) (l : Option Loose) (es : List Effect) (t : State) (m : Option Loose) → Moves s l es t m → Allowed no_wake es → AllByRecursion P s.timers → AllByRecursion P t.timers
moves_timed P i s l es t m j f h = (moves_held P Unasked no_wake (record { due = i.due; timer = λ x is k. i.timer x is; wake = λ x k. absurd (let never : false ≡ true = k in cc); attention = λ a k. tt }) s l es t m j f.all (h, all_unasked s.attention)).0

-- What is said of wakes.

abbrev pub is_for : Pid → Life → Bool
is_for target l = is_same (woken l.by l.p) target

-- a wake's call names the process that it is for
abbrev pub IsTold : List Item → Id → Alarm → Type 0
IsTold past id (OfTimer efn reqid mode tag) = Unit {0}
IsTold past id (OfWake target n) = is_some_and (is_for target) (life past id) ≡ true

abbrev pub Targeted : List Item → Timer → Type 0
Targeted past t = IsTold past t.id t.what

-- no wake has a routine
abbrev pub has_woken : Life → Bool
has_woken l = is_wake l.kind && l.routine

abbrev pub Unwoken : List Item → Type 0
Unwoken past = (id : Id) → is_some_and has_woken (life past id) ≡ false

pub record Wakes (s : State) (past : List Item) : Type 0 where
  pub targets : AllByRecursion (Targeted past) s.timers
  pub unwoken : Unwoken past

-- Origins go on.

rises : (x : Effect) (past : List Item) → opens past ≤ opens (Did x ∷ past)
rises (effect.Open id k p mode n) past = omega arith
rises x past = omega arith

old_else : (x : Effect) (past : List Item) (id : Id) → IsRight past x → id.0 ≤ opens past → IsElse (Did x) id
old_else (effect.Open i k p mode n) past id h below = let e : i.0 ≡ opens past + 1 = eqb-true i.0 (opens past + 1) (and_parts (i.0 == opens past + 1) _ (h [])).0 in λ same. let never : ⊥ = omega (arith, e, same, below) in never
old_else x past id h below = tt

origins_on : (es : List Effect) (past : List Item) (id : Id) → AllRight past es → id.0 ≤ opens past → origin_of (later past (map Did es)) id ≡ origin_of past id
origins_on [] past id h below = refl
origins_on (x ∷ xs) past id h below = origins_on xs (Did x ∷ past) id h.1 (let r = rises x past in omega (arith, r, below)) ∙ origin_on (Did x) past id (old_else x past id h.0 below)

abbrev for_origin : Pid → Option Origin → Bool
for_origin target None = false
for_origin target (Some o) = is_same (woken o.by o.p) target

by_origin : (target : Pid) (o : Option Life) → is_some_and (is_for target) o ≡ for_origin target (option_map origin o)
by_origin target None = refl
by_origin target (Some l) = refl

for_on : (target : Pid) (old new : List Item) (id : Id) → origin_of new id ≡ origin_of old id → is_some_and (is_for target) (life old id) ≡ true → is_some_and (is_for target) (life new id) ≡ true
for_on target old new id e h = by_origin target (life new id) ∙ (ap (for_origin target) e ∙ (sym (by_origin target (life old id)) ∙ h))

lives_some : (test : Life → Bool) (past : List Item) (id : Id) → Known past → is_some_and test (life past id) ≡ true → id.0 ≤ opens past
lives_some test past id known h = ⊎_elim (λ (above : opens past < id.0). let never : false ≡ true = sym (ap (is_some_and test) (known id above)) ∙ h in absurd (cc)) (λ (e : id.0 ≤ opens past). e) (cases_lt (opens past) id.0)

told_on : (old new : List Item) (id : Id) (a : Alarm) → origin_of new id ≡ origin_of old id → IsTold old id a → IsTold new id a
told_on old new id (OfTimer efn reqid mode tag) e h = tt
told_on old new id (OfWake target n) e h = for_on target old new id e h

-- Wakes without a routine.

abbrev fits : Item → Bool
fits (Did (effect.Open id k p mode n)) = not (is_wake k && is_some mode)
fits x = true

and_less : (a b c : Bool) → (c ≡ true → b ≡ true) → (a && b) ≡ false → (a && c) ≡ false
and_less false b c f h = refl
and_less true b false f h = refl
and_less true b true f h = absurd (let never : true ≡ false = sym (f refl) ∙ h in cc)

woken_map : (g : Life → Life) (o : Option Life) → ((l : Life) → (g l).kind ≡ l.kind) → ((l : Life) → (g l).routine ≡ true → l.routine ≡ true) → is_some_and has_woken o ≡ false → is_some_and has_woken (option_map g o) ≡ false
woken_map g None k r h = refl
woken_map g (Some l) k r h = rw (k l) (and_less (is_wake l.kind) l.routine (g l).routine (r l) h)

woken_at : (b : Bool) (g : Life → Life) (o : Option Life) → ((l : Life) → (g l).kind ≡ l.kind) → ((l : Life) → (g l).routine ≡ true → l.routine ≡ true) → is_some_and has_woken o ≡ false → is_some_and has_woken (cond b (option_map g o) o) ≡ false
woken_at true g o k r h = woken_map g o k r h
woken_at false g o k r h = h

open_unwoken : (k : Opened) (mode : Option Mode) (b : Bool) → not (is_wake k && is_some mode) ≡ true → (is_wake k && (is_some mode && b)) ≡ false
open_unwoken k mode b e = three (is_wake k) (is_some mode) b e
  where
    three : (x y z : Bool) → not (x && y) ≡ true → (x && (y && z)) ≡ false
    three false y z e = refl
    three true false z e = refl
    three true true z e = absurd (let never : false ≡ true = e in cc)

pub unwoken_on : (x : Item) (past : List Item) → fits x ≡ true → Unwoken past → Unwoken (x ∷ past)
unwoken_on (Did (effect.Open i k p mode n)) past e h = λ id. either (λ (o : Option Life). is_some_and has_woken o ≡ false) (i.0 == id.0) _ _ (open_unwoken k mode _ e) (h id)
unwoken_on (Did (effect.Fin i c)) past e h = λ id. woken_at (i.0 == id.0) finished (life past id) (λ l. refl) (λ l r. r) (h id)
unwoken_on (Did (effect.Mark i)) past e h = λ id. woken_at (i.0 == id.0) marked_now (life past id) (λ l. refl) (λ l r. r) (h id)
unwoken_on (Did (effect.Que i)) past e h = λ id. woken_at (i.0 == id.0) queued_now (life past id) (λ l. refl) (λ l r. r) (h id)
unwoken_on (Did (effect.Fire i)) past e h = λ id. woken_at (i.0 == id.0) fired (life past id) (λ l. refl) (λ l r. r) (h id)
unwoken_on (Did (effect.Drop i)) past e h = λ id. woken_at (i.0 == id.0) dropped (life past id) (λ l. refl) (λ l r. absurd (let never : false ≡ true = r in cc)) (h id)
unwoken_on (Did (effect.Enter i)) past e h = λ id. woken_at (i.0 == id.0) entered_once (life past id) (λ l. refl) (λ l r. r) (h id)
unwoken_on (Head (event.Ast p) (answer.Ast i)) past e h = λ id. woken_at (i.0 == id.0) ast_started (life past id) (λ l. refl) (λ l r. absurd (let never : false ≡ true = r in cc)) (h id)
unwoken_on (Head (event.Beg u) (answer.Unit i)) past e h = λ id. woken_at (i.0 == id.0) (begun_by u) (life past id) (λ l. refl) (λ l r. r) (h id)
unwoken_on x past e h = h

fits_effect : (x : Effect) → is_allowed no_wake x ≡ true → fits (Did x) ≡ true
fits_effect (effect.Open i k p mode n) e = not_from_false _ (and_left (is_wake k) (is_some mode) (not-true (is_wake k) e))
fits_effect x e = refl

unwoken_all : (es : List Effect) (past : List Item) → AllByRecursion (λ x. is_allowed no_wake x ≡ true) es → Unwoken past → Unwoken (later past (map Did es))
unwoken_all [] past f h = h
unwoken_all (x ∷ xs) past f h = unwoken_all xs (Did x ∷ past) f.1 (unwoken_on (Did x) past (fits_effect x f.0) h)

-- A record: it opens no wake, or it opens one, which its call names.

pub data Opens (s : State) (e : Event) (o : Outcome Answer) : Type 0 where
  unopened : Allowed no_wake o.effects → Opens s e o
  opened_one : (p target : Pid) (n delta : ℕ) → o.effects ≡ effect.Open (next_id s) opened.Wake p None n ∷ [] → o.after.timers ≡ s.timers ++ new_wake s p target delta n ∷ [] → woken (calling e o.answer) p ≡ target → Opens s e o

served_closed : (s : State) (p : Pid) (c : Call) (o : Outcome Served) (x : Served) → Allowed no_wake o.effects → Opens s (event.Run p) (served_call p c o x)
served_closed s p c o (Answered y) h = unopened h
served_closed s p c o Waits h = unopened h

schdwk_opens : (s : State) (p : Pid) (c : Call) (r : Result Pid Cond) → process_test s p (number c.args.a0) ≡ r → let o = at_once (at_tested s (scheduled s p (number c.args.a1) (number c.args.a2)) r) in Opens s (event.Run p) (served_call p c o o.answer)
schdwk_opens s p c (Err x) is = unopened nil
schdwk_opens s p c (Ok q) is =
    either (λ (y : Outcome Cond). Opens s (event.Run p) (served_call p c (at_once y) (Answered y.answer))) (exceeds s p (ast_need true)) _ _ (unopened nil)
    (opened_one p q (number c.args.a2) (number c.args.a1) refl refl (test_is s p (number c.args.a0) q is))

may_but : (s : State) (p : Pid) (c : Call) (v : Service) → (v ≡ SchdWk → ⊥) → MayOpen no_wake s p c.args v
may_but s p c v apart = record { own = λ k e i. rw e refl; force = λ e q k. refl; wake = λ e q k. absurd (apart e) }

call_opens : (s : State) (p : Pid) (c : Call) (v : Service) → let o = service_of s p c.args v in Opens s (event.Run p) (served_call p c o o.answer)
call_opens s p c SchdWk = schdwk_opens s p c (process_test s p (number c.args.a0)) refl
call_opens s p c v = let o = service_of s p c.args v in served_closed s p c o o.answer (service_allowed s p c.args v (may_but s p c v (λ e. cc)))

opens_behind : (s : State) (p : Pid) (f : Process → Process) (e : Event) (o : Outcome Answer) → Opens (change s p f) e o → Opens s e o
opens_behind s p f e o (unopened h) = unopened h
opens_behind s p f e o (opened_one q target m delta a b d) = opened_one q target m delta a b d

on_opens : (s : State) (p : Pid) (n : ℕ) (x : Stop) → Opens s (event.Run p) (run_on s p n x)
on_opens s p n (stop.Call c) = opens_behind s p (moved_behind n) (event.Run p) (run_on s p n (stop.Call c)) (call_opens (change s p (moved_behind n)) p c c.service)
on_opens s p n stop.Return = unopened (returned_allowed s p (process_at s p).frames)
on_opens s p n stop.End = unopened (returned_allowed s p (process_at s p).frames)
on_opens s p n stop.Local = unopened nil

frame_opens : (s : State) (p : Pid) (f : Frame) (o : Option Wait) → Opens s (event.Run p) (run_frame s p f o)
frame_opens s p f None = let a = advanced (image_of s p) (reader p f) (process_at s p).store f.pc in opens_behind s p (moved_to a.store a.place) (event.Run p) (run_frame s p f None) (on_opens (change s p (moved_to a.store a.place)) p a.place a.stop)
frame_opens s p f (Some w) = unopened nil

run_opens : (s : State) (p : Pid) (frames : List Frame) → Opens s (event.Run p) (run s p frames)
run_opens s p [] = unopened nil
run_opens s p (f ∷ fs) = frame_opens s p f f.wait

-- all events but rundown
pub step_opens : (s : State) (e : Event) → is_rundown e ≡ false → Opens s e (step s e)
step_opens s (event.Run p) other = run_opens s p (process_at s p).frames
step_opens s (event.Ast p) other = unopened (delivered_allowed s p (deliverable_ast s p))
step_opens s (event.Rdn p) other = absurd (let never : true ≡ false = other in cc)
step_opens s (event.Beg u) other = unopened (beg_allowed s (front u s.requests))
step_opens s (event.Don u) other = unopened (don_allowed s u (in_service u s.requests))
step_opens s event.Tick other = unopened (tick_allowed s)

-- The theme goes on.

untold : (past : List Item) (id : Id) (a : Alarm) → IsOfTimer a → IsTold past id a
untold past id (OfTimer efn reqid mode tag) is = tt
untold past id (OfWake target n) is = absurd is

targets_are : (past : List Item) → IsOfTimers (Targeted past)
targets_are past = record { due = λ n t k. k; timer = λ t is. untold past t.id t.what is }

abbrev pub SameOrigins : List Item → List Item → Type 0
SameOrigins old new = (id : Id) → id.0 ≤ opens old → origin_of new id ≡ origin_of old id

old_targets : (s : State) (past new : List Item) → Stands s None past → SameOrigins past new → AllByRecursion (Targeted past) s.timers → AllByRecursion (Targeted new) s.timers
old_targets s past new g same h =
    all_weaker (λ t. TimerLives past t × Targeted past t) (Targeted new)
    (λ t k. told_on past new t.id t.what (same t.id (lives_some (λ l. (seat l == 2) && timer_life t l) past t.id g.known k.0)) k.1) s.timers (all_both (TimerLives past) (Targeted past) s.timers g.timers h)

pub same_origins : (past : List Item) (e : Event) (a : Answer) (es : List Effect) → AllRight (Head e a ∷ past) es → SameOrigins past (later (Head e a ∷ past) (map Did es))
same_origins past e a es f = λ id below. origins_on es (Head e a ∷ past) id f below ∙ origin_on (Head e a) past id tt

-- if moves open no wake
pub wakes_moved : (s : State) (past : List Item) (e : Event) (a : Answer) (es : List Effect) (t : State) → Moves s None es t None → Allowed no_wake es → AllRight (Head e a ∷ past) es → Stands s None past → Wakes s past → Wakes t (later (Head e a ∷ past) (map Did es))
wakes_moved s past e a es t j f r g h =
    let new = later (Head e a ∷ past) (map Did es) in
    record {
      targets = moves_timed (Targeted new) (targets_are new) s None es t None j f (old_targets s past new g (same_origins past e a es r) h.targets);
      unwoken = unwoken_all es (Head e a ∷ past) f.all (unwoken_on (Head e a) past refl h.unwoken);
    }

delivered_timed : (P : Timer → Type 0) → IsOfTimers P → (s : State) (p : Pid) (o : Option Queued) → AllByRecursion P s.timers → AllByRecursion P (delivered s p o).after.timers
delivered_timed P i s p None h = h
delivered_timed P i s p (Some q) h = let t = change s p (without_ast q.id) in let b = started t p q q.tag in moves_timed P i t None b.effects b.after None (started_moves t p q q.tag) (started_allowed t p q q.tag) h

beg_timed : (P : Timer → Type 0) (s : State) (o : Option Request) → AllByRecursion P s.timers → AllByRecursion P (beg s o).after.timers
beg_timed P s None h = h
beg_timed P s (Some r) h = h

step_timed : (P : Timer → Type 0) → IsOfTimers P → (s : State) (e : Event) → IsThere s e → Base s → Allowed no_wake (step s e).effects → AllByRecursion P s.timers → AllByRecursion P (step s e).after.timers
step_timed P i s (event.Run p) made b f h = let o = step s (event.Run p) in moves_timed P i s None o.effects o.after None (step_moves s (event.Run p) refl made b) f h
step_timed P i s (event.Ast p) made b f h = delivered_timed P i s p (deliverable_ast s p) h
step_timed P i s (event.Rdn p) made b f h = let o = step s (event.Rdn p) in moves_timed P i s None o.effects o.after None (step_moves s (event.Rdn p) refl made b) f h
step_timed P i s (event.Beg u) made b f h = beg_timed P s (front u s.requests) h
step_timed P i s (event.Don u) made b f h = let o = step s (event.Don u) in moves_timed P i s None o.effects o.after None (step_moves s (event.Don u) refl made b) f h
step_timed P i s event.Tick made b f h = let o = step s event.Tick in moves_timed P i s None o.effects o.after None (step_moves s event.Tick refl made b) f h

one_told : (past : List Item) (id : Id) (p target : Pid) (n : ℕ) → woken (latest_call past) p ≡ target → is_some_and (is_for target) (life (Did (effect.Open id opened.Wake p None n) ∷ past) id) ≡ true
one_told past id p target n w = rw (eq-eqb id.0 id.0 refl) (eq-eqb (woken (latest_call past) p).0 target.0 (ap (λ (r : Pid). r.0) w))

wakes_by : (s : State) (past : List Item) (e : Event) → IsThere s e → Base s → AllRight (Head e (step s e).answer ∷ past) (step s e).effects → Stands s None past → Wakes s past → Opens s e (step s e) → Wakes (step s e).after (later (Head e (step s e).answer ∷ past) (map Did (step s e).effects))
wakes_by s past e made b r g h (unopened f) =
    let o = step s e in
    let new = later (Head e o.answer ∷ past) (map Did o.effects) in
    record {
      targets = step_timed (Targeted new) (targets_are new) s e made b f (old_targets s past new g (same_origins past e o.answer o.effects r) h.targets);
      unwoken = unwoken_all o.effects (Head e o.answer ∷ past) f.all (unwoken_on (Head e o.answer) past refl h.unwoken);
    }
wakes_by s past e made b r g h (opened_one p target n delta is at w) =
    let o = step s e in
    let head = Head e o.answer ∷ past in
    let new = later head (map Did o.effects) in
    let x = effect.Open (next_id s) opened.Wake p None n in
    record {
      targets =
          subst (AllByRecursion (Targeted new)) (sym at)
          (all_append (Targeted new) s.timers (new_wake s p target delta n ∷ []) (old_targets s past new g (same_origins past e o.answer o.effects r) h.targets)
          (subst (λ (es : List Effect). is_some_and (is_for target) (life (later head (map Did es)) (next_id s)) ≡ true) (sym is) (one_told head (next_id s) p target n w), tt));
      unwoken = subst (λ (es : List Effect). Unwoken (later head (map Did es))) (sym is) (unwoken_on (Did x) head refl (unwoken_on (Head e o.answer) past refl h.unwoken));
    }

-- of all events but rundown
pub step_wakes : (s : State) (past : List Item) (e : Event) → is_rundown e ≡ false → Contains (enabled s) e → Base s → Stands s None past → Wakes s past → Wakes (step s e).after (later (Head e (step s e).answer ∷ past) (map Did (step s e).effects))
step_wakes s past e other c b g h = wakes_by s past e (enabled_there s e c) b (step_right s past e c b g).effects g h (step_opens s e other)
