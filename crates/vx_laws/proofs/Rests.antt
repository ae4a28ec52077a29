-- A process that is gone rests in every run: it has no event, and nothing is opened for it.
use Rattle.std.proofs.Common.{◌≡◌, ◌≢◌, ◌∙◌, ℕ, ◌+◌, ◌-◌, ◌≤◌, List, [], ◌∷◌, ◌++◌, Bool, true, false, not, ◌&&◌, ◌||◌, Option, Some, None, Result, Ok, map, refl, sym, ap, subst, arith}
use Rattle.std.specs.Prelude.{Contains}
use Rattle.std.proofs.lemmas.List.{get_or_default}
use Rattle.std.specs.List.{AllByRecursion}
use Rattle.std.proofs.lemmas.Bool.{and_parts, and_from, eqb-true, eq-eqb, false_from_ne_true, not-false}
use Rattle.vx_record.specs.Types.{Answer, Call, Cond, DeviceUnit, Effect, Event, Frame, Opened, Phase, Pid, Queued, Rec, Request, Stop, System, Timer, UnitNo, Wait}
use Rattle.vx_base.specs.Queues.{front, in_service}
use Rattle.vx_base.specs.declared.effects.Effect.TheVariants as effect
use Rattle.vx_base.specs.declared.frame.Phase.TheVariants as phase
use Rattle.vx_base.specs.declared.record.Event.TheVariants as event
use Rattle.vx_image.specs.Local.{advanced}
use Rattle.vx_image.specs.declared.stop.Stop.TheVariants as stop
use Rattle.vx_record.specs.Asts.{deliverable_ast}
use Rattle.vx_record.specs.Charges.{is_same}
use Rattle.vx_record.specs.Control.{is_deleted_phase, exists_for_control, may_control, named_process, process_test}
use Rattle.vx_record.specs.Events.{moved_to, served_call, moved_behind, run_on, reader, run_frame, run, step, enabled, can_run, can_run_down, can_step_down, run_events, ast_or_run, process_events, processes_from, beg_event, don_or_beg, unit_events, units_from, tick_events}
use Rattle.vx_record.specs.Parts.{Outcome}
use Rattle.vx_record.specs.Rundown.{gone_part, in_phase}
use Rattle.vx_record.specs.Runs.{first, AreSteps, IsRun}
use Rattle.vx_record.specs.Services.{service_of, number}
use Rattle.vx_record.specs.State.{Process, State, IsProcess, process_at, change, image_of, nobody, pid}
use Rattle.vx_record.specs.declared.served.Served.{Served}
use Rattle.vx_record.specs.declared.served.Served.TheVariants.{Answered, Waits}
use Rattle.vx_record.proofs.Base.{Base}
use Rattle.vx_record.proofs.Freeing.{phase_at}
use Rattle.vx_record.proofs.Lists.{either, either_by, all_append, all_at}
use Rattle.vx_record.proofs.Allowed.{enabled_there}
use Rattle.vx_record.proofs.Along.{first_base}
use Rattle.vx_laws.specs.Items.{Item, Head, Did, flat, later, at_each, latest_call, calling}
use Rattle.vx_laws.specs.Lives.{is_wake}
use Rattle.vx_laws.specs.RundownLaw.{is_gone, woken}
use Rattle.vx_laws.specs.RundownParts.{stays, gone_rest}
use Rattle.vx_laws.proofs.Allowed.{Test, is_allowed, Allowed, MayOpen, nil, tick_allowed, service_allowed, returned_allowed, delivered_allowed, beg_allowed, don_allowed}
use Rattle.vx_laws.proofs.Calm.{Tags, IsBare, Still, still_made, held_at}
use Rattle.vx_laws.proofs.Lowers.{IsLowering, Low, Lowers, Others, closed, stops, goes, rundown_lowers}
use Rattle.vx_laws.proofs.Named.{step_still}
use Rattle.vx_laws.proofs.Untouched.{keep_moved, keep_phases, newcomer, phase_in}
use Rattle.vx_laws.proofs.Phases.{Ages, Passes, run_ages, delivered_ages, beg_ages, don_ages, tick_ages}
use Rattle.vx_laws.proofs.Runs.{step_right, first_stands}
use Rattle.vx_laws.proofs.Stands.{Stands}
use Rattle.vx_laws.proofs.Steps.{delivered_some, step_tags, first_tags}

-- What is enabled: a process that runs has a frame; one that is run down has none, and may step down.

abbrev pub IsAwake : State → Event → Type 0
IsAwake s (event.Run p) = (process_at s p).frames ≢ []
IsAwake s (event.Ast p) = (process_at s p).frames ≢ []
IsAwake s (event.Rdn p) = ((process_at s p).frames ≡ []) × (can_step_down s p (process_at s p).phase ≡ true)
IsAwake s e = Unit {0}

some_run : (s : State) (p : Pid) (fs : List Frame) → can_run s p fs ≡ true → fs ≢ []
some_run s p [] e = absurd (let never : false ≡ true = e in cc)
some_run s p (f ∷ fs) e = λ k. cc

none_down : (s : State) (p : Pid) (fs : List Frame) → can_run_down s p fs ≡ true → (fs ≡ []) × (can_step_down s p (process_at s p).phase ≡ true)
none_down s p [] e = (refl, e)
none_down s p (f ∷ fs) e = absurd (let never : false ≡ true = e in cc)

run_awake : (s : State) (p : Pid) → AllByRecursion (IsAwake s) (run_events s p)
run_awake s p =
    let P = AllByRecursion (IsAwake s) in
    either_by P (can_run s p (process_at s p).frames) _ _ (λ k. (some_run s p (process_at s p).frames k, tt))
    (λ n. either_by P (can_run_down s p (process_at s p).frames) _ _ (λ k. (none_down s p (process_at s p).frames k, tt)) (λ n. tt))

ast_awake : (s : State) (p : Pid) (o : Option Queued) → deliverable_ast s p ≡ o → AllByRecursion (IsAwake s) (ast_or_run s p o)
ast_awake s p None is = run_awake s p
ast_awake s p (Some q) is = (delivered_some s p q is, tt)

processes_awake : (s : State) (n : ℕ) (prs : List Process) → AllByRecursion (IsAwake s) (processes_from s n prs)
processes_awake s n [] = tt
processes_awake s n (pr ∷ prs) =
    all_append (IsAwake s) (process_events s (pid n)) (processes_from s (n + 1) prs) (either (AllByRecursion (IsAwake s)) (process_at s (pid n)).suspended _ _ tt (ast_awake s (pid n) (deliverable_ast s (pid n)) refl)) (processes_awake s (n + 1) prs)

beg_awake : (s : State) (u : UnitNo) (o : Option Request) → AllByRecursion (IsAwake s) (beg_event u o)
beg_awake s u None = tt
beg_awake s u (Some r) = (tt, tt)

don_awake : (s : State) (u : UnitNo) (o : Option Request) → AllByRecursion (IsAwake s) (don_or_beg s u o)
don_awake s u None = beg_awake s u (front u s.requests)
don_awake s u (Some r) = (tt, tt)

units_awake : (s : State) (n : ℕ) (us : List DeviceUnit) → AllByRecursion (IsAwake s) (units_from s n us)
units_awake s n [] = tt
units_awake s n (u ∷ us) =
    let v : UnitNo = record { 0 = n } in
    all_append (IsAwake s) (unit_events s v) (units_from s (n + 1) us) (don_awake s v (in_service v s.requests)) (units_awake s (n + 1) us)

ticks_awake : (s : State) (ts : List Timer) → AllByRecursion (IsAwake s) (tick_events ts)
ticks_awake s [] = tt
ticks_awake s (t ∷ ts) = (tt, tt)

pub enabled_awake : (s : State) (e : Event) → Contains (enabled s) e → IsAwake s e
enabled_awake s e c =
    let all =
    all_append (IsAwake s) (processes_from s 1 s.procs) (units_from s 0 s.units ++ tick_events s.timers) (processes_awake s 1 s.procs)
    (all_append (IsAwake s) (units_from s 0 s.units) (tick_events s.timers) (units_awake s 0 s.units) (ticks_awake s s.timers)) in
    subst (IsAwake s) c.2 (all_at (IsAwake s) (enabled s) c.0 e all c.1)

-- Processes that are gone: each is there, is deleted, and has neither frame nor handler.

pub record IsGone (s : State) (p : Pid) : Type 0 where
  pub still : Still s p
  pub deleted : (process_at s p).phase ≡ phase.Deleted

abbrev pub AllGone : State → List Item → Type 0
AllGone s past = (p : Pid) → is_gone past p ≡ true → IsGone s p

pub phase_made : (s : State) (p : Pid) → IsProcess s p → phase_in s.procs (p.0 - 1) ≡ (process_at s p).phase
phase_made s p made = ap (λ (pr : Process). pr.phase) (get_or_default s.procs (p.0 - 1) newcomer nobody (omega (arith, made.above, made.within)))

deleted_on : (s t : State) (p : Pid) → Ages s t → IsProcess s p → IsProcess t p → (process_at s p).phase ≡ phase.Deleted → (process_at t p).phase ≡ phase.Deleted
deleted_on s t p h made there e =
    let x : phase_in s.procs (p.0 - 1) ≡ phase.Deleted = phase_made s p made ∙ e in
    let y : Passes phase.Deleted (phase_in t.procs (p.0 - 1)) = subst (λ (z : Phase). Passes z (phase_in t.procs (p.0 - 1))) x (h.phases (p.0 - 1)) in
    sym (phase_made t p there) ∙ y

-- no event is of a process that is gone
awake_gone : (s : State) (past : List Item) (p : Pid) → (process_at s p).frames ≢ [] → AllGone s past → is_gone past p ≡ false
awake_gone s past p some h = false_from_ne_true (is_gone past p) (λ k. some (h p k).still.1.0)

down_gone : (s : State) (past : List Item) (p : Pid) → can_step_down s p (process_at s p).phase ≡ true → AllGone s past → is_gone past p ≡ false
down_gone s past p can h = false_from_ne_true (is_gone past p) (λ k. let no : can_step_down s p phase.Deleted ≡ true = subst (λ (x : Phase). can_step_down s p x ≡ true) (h p k).deleted can in let never : false ≡ true = no in cc)

-- What is asked of an item here.

abbrev pub may_open : List Item → Test
may_open past = record { opens = λ k p. not (is_gone past p || (is_wake k && is_gone past (woken (latest_call past) p))); gone = false }

abbrev pub AllStay : List Item → List Effect → Type 0
AllStay past [] = Unit {0}
AllStay past (x ∷ xs) = ((rest : List Item) → stays past (Did x) rest ≡ true) × AllStay (Did x ∷ past) xs

gone_one : (ok : Test) → ok.gone ≡ false → (x : Effect) (past : List Item) (p : Pid) → is_allowed ok x ≡ true → is_gone (Did x ∷ past) p ≡ is_gone past p
gone_one ok n (effect.Gone q) past p e = absurd (let never : true ≡ false = sym e ∙ n in cc)
gone_one ok n x past p e = refl

pub gone_later : (ok : Test) → ok.gone ≡ false → (es : List Effect) (past : List Item) (p : Pid) → AllByRecursion (λ x. is_allowed ok x ≡ true) es → is_gone (later past (map Did es)) p ≡ is_gone past p
gone_later ok n [] past p h = refl
gone_later ok n (x ∷ xs) past p h = gone_later ok n xs (Did x ∷ past) p h.1 ∙ gone_one ok n x past p h.0

may_as : (past old : List Item) (k : Opened) (p : Pid) → ((q : Pid) → is_gone past q ≡ is_gone old q) → latest_call past ≡ latest_call old → (may_open old).opens k p ≡ true → (may_open past).opens k p ≡ true
may_as past old k p g l e = rw (l, g p, g (woken (latest_call old) p)) e

one_stays : (past old : List Item) (x : Effect) → ((q : Pid) → is_gone past q ≡ is_gone old q) → latest_call past ≡ latest_call old → is_allowed (may_open old) x ≡ true → (rest : List Item) → stays past (Did x) rest ≡ true
one_stays past old (effect.Open id k p mode n) g l e rest = may_as past old k p g l e
one_stays past old x g l e rest = refl

all_stay : (past old : List Item) (es : List Effect) → ((q : Pid) → is_gone past q ≡ is_gone old q) → latest_call past ≡ latest_call old → AllByRecursion (λ x. is_allowed (may_open old) x ≡ true) es → AllStay past es
all_stay past old [] g l h = tt
all_stay past old (x ∷ xs) g l h = (one_stays past old x g l h.0, all_stay (Did x ∷ past) old xs (λ q. gone_one (may_open old) refl x past q h.0 ∙ g q) l h.1)

closed_wider : (ok : Test) (x : Effect) → is_allowed closed x ≡ true → is_allowed ok x ≡ true
closed_wider ok (effect.Open id k p mode n) e = absurd (let never : false ≡ true = e in cc)
closed_wider ok (effect.Gone p) e = absurd (let never : false ≡ true = e in cc)
closed_wider ok x e = refl

-- A call.

test_alive : (s : State) (p : Pid) (n : ℕ) (q : Pid) → process_test s p n ≡ Ok q → (process_at s q).phase ≡ phase.Deleted → ⊥
test_alive s p n q =
    either_by (λ (r : Result Pid Cond). r ≡ Ok q → (process_at s q).phase ≡ phase.Deleted → ⊥) (not (exists_for_control s (named_process p n).0)) _ _
    (λ t e. cc)
    (λ f. either (λ (r : Result Pid Cond). r ≡ Ok q → (process_at s q).phase ≡ phase.Deleted → ⊥) (may_control s p (named_process p n)) _ _
    (λ e d.
    let there : exists_for_control s (named_process p n).0 ≡ true = not-false _ f in
    let two = and_parts _ _ (and_parts _ _ there).1 in
    let same : named_process p n ≡ q = cc in
    let here : not (is_deleted_phase (process_at s q).phase || (process_at s q).delete_pending) ≡ true = subst (λ (r : Pid). not (is_deleted_phase (process_at s r).phase || (process_at s r).delete_pending) ≡ true) same two.1 in
    let no : not (is_deleted_phase phase.Deleted || (process_at s q).delete_pending) ≡ true = subst (λ (x : Phase). not (is_deleted_phase x || (process_at s q).delete_pending) ≡ true) d here in
    let never : false ≡ true = no in cc)
    (λ e d. cc))

-- those that are gone are deleted in a state with the same phases
abbrev PhasesGone : State → List Item → Type 0
PhasesGone s past = (p : Pid) → is_gone past p ≡ true → phase_in s.procs (p.0 - 1) ≡ phase.Deleted

found_gone : (s : State) (past : List Item) (p : Pid) (n : ℕ) (q : Pid) → PhasesGone s past → process_test s p n ≡ Ok q → is_gone past q ≡ false
found_gone s past p n q h e = false_from_ne_true (is_gone past q) (λ k. test_alive s p n q e (sym (phase_made s q (Rattle.vx_record.proofs.Steps.test_made s p n q e)) ∙ h q k))

call_woken : (p : Pid) (c : Call) (o : Outcome Served) (x : Served) (q : Pid) → woken (calling (event.Run p) (served_call p c o x).answer) q ≡ named_process p (number c.args.a0)
call_woken p c o (Answered y) q = refl
call_woken p c o Waits q = refl

may_call : (s : State) (past : List Item) (p : Pid) (c : Call) → let o = service_of s p c.args c.service in is_gone past p ≡ false → PhasesGone s past → MayOpen (may_open (Head (event.Run p) (served_call p c o o.answer).answer ∷ past)) s p c.args c.service
may_call s past p c free h =
    let o = service_of s p c.args c.service in
    let w = call_woken p c o o.answer p in
    record {
      own = λ k e i. rw (free, e) refl;
      force = λ v q e. rw (found_gone s past p (number c.args.a0) q h e) refl;
      wake = λ v q e.
          let named : named_process p (number c.args.a0) ≡ q = Rattle.vx_laws.proofs.CalmServices.test_is s p (number c.args.a0) q e in
          let unbound : is_gone past (woken (calling (event.Run p) (served_call p c o o.answer).answer) p) ≡ false = ap (is_gone past) (w ∙ named) ∙ found_gone s past p (number c.args.a0) q h e in
          rw (free, unbound) refl;
    }

-- the effects of a record that stay
abbrev RecordStays : List Item → Event → Outcome Answer → Type 0
RecordStays past e o = Allowed (may_open (Head e o.answer ∷ past)) o.effects

served_stays : (past : List Item) (p : Pid) (c : Call) (o : Outcome Served) (x : Served) → Allowed (may_open (Head (event.Run p) (served_call p c o x).answer ∷ past)) o.effects → RecordStays past (event.Run p) (served_call p c o x)
served_stays past p c o (Answered y) h = h
served_stays past p c o Waits h = h

on_stays : (s : State) (past : List Item) (p : Pid) (n : ℕ) (x : Stop) → is_gone past p ≡ false → PhasesGone s past → RecordStays past (event.Run p) (run_on s p n x)
on_stays s past p n (stop.Call c) free h =
    let t = change s p (moved_behind n) in
    let o = service_of t p c.args c.service in
    let k = keep_moved s p (process_at s p).store (n + 1) in
    served_stays past p c o o.answer (service_allowed t p c.args c.service (may_call t past p c free (λ q e. keep_phases k (q.0 - 1) ∙ h q e)))
on_stays s past p n stop.Return free h = returned_allowed s p (process_at s p).frames
on_stays s past p n stop.End free h = returned_allowed s p (process_at s p).frames
on_stays s past p n stop.Local free h = nil

frame_stays : (s : State) (past : List Item) (p : Pid) (f : Frame) (o : Option Wait) → is_gone past p ≡ false → PhasesGone s past → RecordStays past (event.Run p) (run_frame s p f o)
frame_stays s past p f None free h =
    let a = advanced (image_of s p) (reader p f) (process_at s p).store f.pc in
    let k = keep_moved s p a.store a.place in
    on_stays (change s p (moved_to a.store a.place)) past p a.place a.stop free (λ q e. keep_phases k (q.0 - 1) ∙ h q e)
frame_stays s past p f (Some w) free h = nil

run_stays : (s : State) (past : List Item) (p : Pid) (frames : List Frame) → is_gone past p ≡ false → PhasesGone s past → RecordStays past (event.Run p) (run s p frames)
run_stays s past p [] free h = nil
run_stays s past p (f ∷ fs) free h = frame_stays s past p f f.wait free h

abbrev pub is_rundown : Event → Bool
is_rundown (event.Rdn p) = true
is_rundown e = false

phases_gone : (s : State) (past : List Item) → AllGone s past → PhasesGone s past
phases_gone s past h p k = let g = h p k in phase_made s p g.still.0 ∙ g.deleted

-- of all events but rundown
pub step_allowed : (s : State) (past : List Item) (e : Event) → is_rundown e ≡ false → IsAwake s e → AllGone s past → RecordStays past e (step s e)
step_allowed s past (event.Run p) other awake h = run_stays s past p (process_at s p).frames (awake_gone s past p awake h) (phases_gone s past h)
step_allowed s past (event.Ast p) other awake h = delivered_allowed s p (deliverable_ast s p)
step_allowed s past (event.Rdn p) other awake h = absurd (let never : true ≡ false = other in cc)
step_allowed s past (event.Beg u) other awake h = beg_allowed s (front u s.requests)
step_allowed s past (event.Don u) other awake h = don_allowed s u (in_service u s.requests)
step_allowed s past event.Tick other awake h = tick_allowed s

pub step_ages : (s : State) (e : Event) → is_rundown e ≡ false → Ages s (step s e).after
step_ages s (event.Run p) other = run_ages s p (process_at s p).frames
step_ages s (event.Ast p) other = delivered_ages s p (deliverable_ast s p)
step_ages s (event.Rdn p) other = absurd (let never : true ≡ false = other in cc)
step_ages s (event.Beg u) other = beg_ages s (front u s.requests)
step_ages s (event.Don u) other = don_ages s u (in_service u s.requests)
step_ages s event.Tick other = tick_ages s

-- A step of rundown, of which nothing is asked on the way.

abbrev Any : State → Type 0
Any s = Unit {0}

any_lowering : (p : Pid) → IsLowering p Any (λ m. Any) Any Any
any_lowering p = record {
  handles = λ s m h j. tt;
  cancels = λ s m h j. tt;
  enters = λ s d j. tt;
  cancelled = λ s m h j. tt;
  releases = λ s m h j r. tt;
  released = λ s h j r f. tt;
  clears = λ s h j d. tt;
}

pub others_deleted : (s t : State) (p q : Pid) → Others p s t → (p.0 ≡ q.0 → ⊥) → 1 ≤ p.0 → IsProcess s q → IsProcess t q → (process_at s q).phase ≡ phase.Deleted → (process_at t q).phase ≡ phase.Deleted
others_deleted s t p q h apart above made there e =
    let k = h.seats (q.0 - 1) (λ same. let low = made.above in apart (omega (arith, same, low, above))) in
    sym (phase_made t q there) ∙ (ap (λ (x : Phase × List (Option Rattle.vx_base.specs.Pieces.Channel)). x.0) k ∙ (phase_made s q made ∙ e))

pub both_later : (past : List Item) (es : List Effect) (p q : Pid) → AllByRecursion (λ x. is_allowed closed x ≡ true) es → is_gone (later past (map Did (es ++ effect.Gone p ∷ []))) q ≡ (is_same p q || is_gone past q)
both_later past [] p q h = refl
both_later past (x ∷ xs) p q h = both_later (Did x ∷ past) xs p q h.1 ∙ ap (λ (b : Bool). is_same p q || b) (gone_one closed refl x past q h.0)

by_owner : (P : Type 0) (a b : Bool) → (a || b) ≡ true → (a ≡ true → P) → (a ≡ false → b ≡ true → P) → P
by_owner P true b h f g = f refl
by_owner P false b h f g = g refl h

pub closed_all : (ok : Test) (es : List Effect) → AllByRecursion (λ x. is_allowed closed x ≡ true) es → AllByRecursion (λ x. is_allowed ok x ≡ true) es
closed_all ok [] h = tt
closed_all ok (x ∷ xs) h = (closed_wider ok x h.0, closed_all ok xs h.1)

-- What a record leaves: its effects stay, and who is gone then is gone in the state.
pub record RecordRests (past : List Item) (e : Event) (o : Outcome Answer) : Type 0 where
  pub effects : AllStay (Head e o.answer ∷ past) o.effects
  pub gone : AllGone o.after (later (Head e o.answer ∷ past) (map Did o.effects))

stay_both : (past : List Item) (es fs : List Effect) → AllStay past es → AllStay (later past (map Did es)) fs → AllStay past (es ++ fs)
stay_both past [] fs h k = k
stay_both past (x ∷ xs) fs h k = (h.0, stay_both (Did x ∷ past) xs fs h.1 k)

lowers_rests : (J : State → Type 0) (R : Rattle.vx_base.specs.declared.mode.Mode.Mode → State → Type 0) (C : State → Type 0) (s : State) (past : List Item) (p : Pid) (a : Answer) (es : List Effect) (t : State) → Lowers J R C p s es t → IsProcess s p → is_gone past p ≡ false → AllGone s past → ((q : Pid) → Still s q → Still t q) →
    AllStay (Head (event.Rdn p) a ∷ past) es × AllGone t (later (Head (event.Rdn p) a ∷ past) (map Did es))
lowers_rests J R C s past p a es t (stops gs u b o m j q) made free h k =
    let head = Head (event.Rdn p) a ∷ past in (
      all_stay head head gs (λ r. refl) refl (closed_all (may_open head) gs b.all),
      λ r y.
          let old : is_gone past r ≡ true = sym (gone_later closed refl gs head r b.all) ∙ y in
          let g = h r old in
          let still = k r g.still in
          record { still = still; deleted = others_deleted s u p r o (λ same. let is : p ≡ r = ap (λ (n : ℕ). pid n) same in let never : false ≡ true = sym free ∙ (ap (is_gone past) is ∙ old) in cc) made.above g.still.0 still.0 g.deleted },
    )
lowers_rests J R C s past p a es t (goes gs u b o m w c) made free h k =
    let head = Head (event.Rdn p) a ∷ past in
    let v = (gone_part p u).after in (
      stay_both head gs (effect.Gone p ∷ []) (all_stay head head gs (λ r. refl) refl (closed_all (may_open head) gs b.all)) ((λ rest. refl), tt),
      λ r y.
          let two : (is_same p r || is_gone past r) ≡ true = sym (both_later head gs p r b.all) ∙ y in
          by_owner (IsGone v r) (is_same p r) (is_gone past r) two
          (λ same. let is : p ≡ r = ap (λ (n : ℕ). pid n) (eqb-true p.0 r.0 same) in subst (IsGone v) is (record { still = (still_made u p (in_phase phase.Deleted) p w.0, held_at IsBare (in_phase phase.Deleted) u p p (λ x. x) w.1); deleted = phase_at u p phase.Deleted w.0 }))
          (λ apart z.
          let g = h r z in
          let still = k r g.still in
          let made_u : IsProcess u r = record { above = still.0.above; within = let size = Rattle.std.proofs.Math.ListN.length-set u.procs (p.0 - 1) (in_phase phase.Deleted (process_at u p)) in let x = still.0.within in omega (arith, size, x) } in
          let deleted : (process_at u r).phase ≡ phase.Deleted = others_deleted s u p r o (λ same. let yes : is_same p r ≡ true = eq-eqb p.0 r.0 same in let never : true ≡ false = sym yes ∙ apart in cc) made.above g.still.0 made_u g.deleted in
          record { still = still; deleted = held_at (λ (x : Process). x.phase ≡ phase.Deleted) (in_phase phase.Deleted) u p r (λ x. refl) deleted }),
    )

rdn_rests : (s : State) (past : List Item) (p : Pid) → Contains (enabled s) (event.Rdn p) → Base s → Tags s → AllGone s past → RecordRests past (event.Rdn p) (step s (event.Rdn p))
rdn_rests s past p c b g h =
    let awake = enabled_awake s (event.Rdn p) c in
    let made = enabled_there s (event.Rdn p) c in
    let o = step s (event.Rdn p) in
    let low : Low s p = record { here = record { base = b; made = made }; tags = g; none = awake.0 } in
    let l = rundown_lowers Any (λ m. Any) Any Any s p (process_at s p).phase refl (any_lowering p) low tt (λ m e. tt) in
    let x = lowers_rests Any (λ m. Any) Any s past p o.answer o.effects o.after l made (down_gone s past p awake.1 h) h (λ q k. step_still s past (event.Rdn p) c b g q k) in
    record { effects = x.0; gone = x.1 }

other_rests : (s : State) (past : List Item) (e : Event) → is_rundown e ≡ false → Contains (enabled s) e → Base s → Tags s → AllGone s past → RecordRests past e (step s e)
other_rests s past e other c b g h =
    let o = step s e in
    let head = Head e o.answer ∷ past in
    let a = step_allowed s past e other (enabled_awake s e c) h in
    record {
      effects = all_stay head head o.effects (λ q. refl) refl a.all;
      gone = λ q k.
          let old : is_gone past q ≡ true = sym (gone_later (may_open head) refl o.effects head q a.all) ∙ k in
          let was = h q old in
          let still = step_still s past e c b g q was.still in
          record { still = still; deleted = deleted_on s o.after q (step_ages s e other) was.still.0 still.0 was.deleted };
    }

pub step_rests : (s : State) (past : List Item) (e : Event) → Contains (enabled s) e → Base s → Tags s → AllGone s past → RecordRests past e (step s e)
step_rests s past (event.Rdn p) c b g h = rdn_rests s past p c b g h
step_rests s past e c b g h = other_rests s past e refl c b g h

-- heads, and runs
head_rests : (s : State) (past : List Item) (e : Event) (a : Answer) (rest : List Item) → IsAwake s e → AllGone s past → stays past (Head e a) rest ≡ true
head_rests s past (event.Run p) a rest k h = rw (awake_gone s past p k h) refl
head_rests s past (event.Ast p) a rest k h = rw (awake_gone s past p k h) refl
head_rests s past (event.Rdn p) a rest k h = rw (down_gone s past p k.1 h) refl
head_rests s past e a rest k h = refl

effects_rest : (past : List Item) (es : List Effect) (more : List Item) → AllStay past es → at_each stays (later past (map Did es)) more ≡ true → at_each stays past (map Did es ++ more) ≡ true
effects_rest past [] more h k = k
effects_rest past (x ∷ xs) more h k = and_from _ _ (h.0 (map Did xs ++ more)) (effects_rest (Did x ∷ past) xs more h.1 k)

run_rests : (s : State) (past : List Item) (rs : List Rec) → AreSteps s rs → Base s → Stands s None past → Tags s → AllGone s past → at_each stays past (flat rs) ≡ true
run_rests s past [] j b g tags h = refl
run_rests s past (r ∷ rs) j b g tags h =
    let e = r.event in
    let c = j.0.enabled in
    let one = step_right s past e c b g in
    let two = step_rests s past e c b tags h in
    let head = Head e (step s e).answer ∷ past in
    rw (j.0.answer, j.0.effects)
    (and_from _ _ (head_rests s past e (step s e).answer (map Did (step s e).effects ++ flat rs) (enabled_awake s e c) h)
    (effects_rest head (step s e).effects (flat rs) two.effects
    (run_rests (step s e).after (later head (map Did (step s e).effects)) rs j.1 one.base one.stands (step_tags s past e (enabled_there s e c) b tags) two.gone)))

pub every_run_rests : (system : System) (recs : List Rec) → IsRun system recs → gone_rest recs ≡ true
every_run_rests system recs run = run_rests (first system) [] recs run.steps (first_base system) (first_stands system) (first_tags system) (λ p k. absurd (let never : false ≡ true = k in cc))
