-- At GONE nothing is left: no id of the process is open in the records, and no wake is for it. Of every run.
use mathlib.Core.Bool.{and-false}
use Rattle.std.proofs.Common.{◌≡◌, ◌∙◌, ℕ, ◌+◌, ◌-◌, List, [], ◌∷◌, ◌++◌, Bool, true, false, not, ◌&&◌, ◌||◌, Option, Some, None, map, refl, sym, ap, subst, arith, ⊎_elim}
use Rattle.std.specs.Prelude.{Contains}
use Rattle.std.specs.List.{AllByRecursion, list_any}
use Rattle.std.proofs.lemmas.Bool.{and_parts, and_from, eqb-true, cases_eq, false_from_ne_true, not_from_false, and_left, not-true}
use Rattle.vx_record.specs.Types.{Alarm, Answer, Effect, Event, Id, Mode, Opened, Pid, ProcDecl, Rec, System, Timer}
use Rattle.vx_base.specs.Pieces.{OfTimer, OfWake}
use Rattle.vx_base.specs.declared.effects.Effect.TheVariants as effect
use Rattle.vx_base.specs.declared.effects.Opened.TheVariants as opened
use Rattle.vx_base.specs.declared.frame.Phase.TheVariants as phase
use Rattle.vx_base.specs.declared.record.Event.TheVariants as event
use Rattle.vx_record.specs.Charges.{is_same}
use Rattle.vx_record.specs.Events.{step, enabled}
use Rattle.vx_record.specs.Rundown.{gone_part, in_phase, entering, handler_frame}
use Rattle.vx_record.specs.Runs.{born_of, born_from, first, AreSteps, IsRun}
use Rattle.vx_record.specs.State.{Process, State, IsProcess, process_at, nobody}
use Rattle.vx_record.specs.Timers.{this_timer, wakes}
use Rattle.vx_record.proofs.Base.{Base}
use Rattle.vx_record.proofs.Fits.{field_same}
use Rattle.vx_record.proofs.Freeing.{phase_at}
use Rattle.vx_record.proofs.Lists.{either, all_weaker, all_get}
use Rattle.vx_record.proofs.Moves.{Moves}
use Rattle.vx_record.proofs.Allowed.{enabled_there}
use Rattle.vx_record.proofs.Along.{first_base}
use Rattle.vx_laws.specs.Items.{Item, Head, Did, flat, later, at_each}
use Rattle.vx_laws.specs.Leftovers.{is_open_of}
use Rattle.vx_laws.specs.Lives.{Life, life, highest, is_open, is_wake}
use Rattle.vx_laws.specs.RundownLaw.{woken, is_wake_for, is_of, is_left_of, nothing_left, rests, enters_last, run_downs}
use Rattle.vx_laws.specs.RundownParts.{stays, leaves, leaves_none}
use Rattle.vx_laws.proofs.Allowed.{Test, Allowed, is_allowed}
use Rattle.vx_laws.proofs.Aside.{changed}
use Rattle.vx_laws.proofs.Calm.{Tags, Still}
use Rattle.vx_laws.proofs.Down.{Down, ends, enters, rundown_down}
use Rattle.vx_laws.proofs.Drained.{Course, Drains, draining, step_course, stops_course, other_drains, seat_phase}
use Rattle.vx_laws.proofs.Emptied.{AllSeated, Seated, Unreached, seated_on, unreached_on}
use Rattle.vx_laws.proofs.Idle.{frames_apart}
use Rattle.vx_laws.proofs.Kept.{moves_stand}
use Rattle.vx_laws.proofs.Leftover.{Emptied, Cleared}
use Rattle.vx_laws.proofs.Listed.{holds, holds_in, Listed, moves_listed}
use Rattle.vx_laws.proofs.Rests.{closed_all, enabled_awake, is_rundown, phase_made, every_run_rests}
use Rattle.vx_laws.proofs.Lowers.{Low, Lowers, Others, closed, stops, goes, others_change, rundown_lowers}
use Rattle.vx_laws.proofs.Named.{every_run_last}
use Rattle.vx_laws.proofs.Newest.{Further, step_further, first_further, all_ids_by}
use Rattle.vx_laws.proofs.Opens.{any_told}
use Rattle.vx_laws.proofs.Right.{lives_more, moves_right}
use Rattle.vx_laws.proofs.Runs.{step_right, first_stands}
use Rattle.vx_laws.proofs.Seats.{TimerLives, timer_life, alarm_life, seat, body_seat}
use Rattle.vx_laws.proofs.Stands.{Stands}
use Rattle.vx_laws.proofs.Steps.{step_tags, first_tags}
use Rattle.vx_laws.proofs.Unowned.{nothing_owned}
use Rattle.vx_laws.proofs.Where.{both_hold, lives_then}
use Rattle.vx_laws.proofs.Wakes.{no_wake, is_for, has_woken, IsTold, Targeted, Wakes, Opens, unopened, opened_one, step_opens, step_wakes, wakes_moved, unwoken_on}
use Rattle.vx_base.specs.Lists.{is_some_and}

-- A wake that is open stands among the timers, and none that stands there is for the process.

no_wake_apart : (p : Pid) (l : Life) → not (is_wake l.kind) ≡ true → not (is_wake_for p l) ≡ true
no_wake_apart p l e = not_from_false _ (and_left (is_wake l.kind) (is_same (woken l.by l.p) p) (not-true (is_wake l.kind) e))

for_other : (p target : Pid) (l : Life) → is_same target p ≡ false → is_same (woken l.by l.p) target ≡ true → not (is_wake_for p l) ≡ true
for_other p target l e k =
    let is : woken l.by l.p ≡ target = ap (λ (n : ℕ). let x : Pid = record { 0 = n } in x) (eqb-true (woken l.by l.p).0 target.0 k) in
    let off : is_same (woken l.by l.p) p ≡ false = ap (λ (r : Pid). is_same r p) is ∙ e in
    rw off (ap not (and-false (is_wake l.kind)))

timer_apart : (p : Pid) (past : List Item) (t : Timer) → TimerLives past t → Targeted past t → wakes p t.what ≡ false → is_some_and (λ l. not (is_wake_for p l)) (life past t.id) ≡ true
timer_apart p past t h k e =
    by_alarm t.what (lives_more 2 (timer_life t) (alarm_life t.what) (life past t.id) (λ l x y. (and_parts _ (alarm_life t.what l) (and_parts (is_same l.p t.p) _ y).1).1) h) k e
  where
    by_alarm : (a : Alarm) → is_some_and (alarm_life a) (life past t.id) ≡ true → IsTold past t.id a → wakes p a ≡ false → is_some_and (λ l. not (is_wake_for p l)) (life past t.id) ≡ true
    by_alarm (OfTimer efn reqid mode tag) h k e = lives_then (alarm_life (OfTimer efn reqid mode tag)) (λ l. not (is_wake_for p l)) (life past t.id) (λ l y. no_wake_apart p l (and_parts (not (is_wake l.kind)) _ y).0) h
    by_alarm (OfWake target n) h k e = lives_then (is_for target) (λ l. not (is_wake_for p l)) (life past t.id) (λ l y. for_other p target l e y) k

timers_apart : (p : Pid) (past : List Item) (ts : List Timer) → AllByRecursion (TimerLives past) ts → AllByRecursion (Targeted past) ts → AllByRecursion (λ t. wakes p t.what ≡ false) ts → AllByRecursion (λ t. is_some_and (λ l. not (is_wake_for p l)) (life past t.id) ≡ true) ts
timers_apart p past [] a b c = tt
timers_apart p past (t ∷ ts) a b c = (timer_apart p past t a.0 b.0 c.0, timers_apart p past ts a.1 b.1 c.1)

wake_seat : (l : Life) → is_wake l.kind ≡ true → l.body ≡ true → seat l ≡ 2
wake_seat l w e = rw e (by_kind l.kind w)
  where
    by_kind : (k : Opened) → is_wake k ≡ true → body_seat k ≡ 2
    by_kind opened.Wake e = refl
    by_kind k e = absurd (let never : false ≡ true = e in cc)

open_body : (b r w : Bool) → (b || r) ≡ true → w ≡ true → (w && r) ≡ false → b ≡ true
open_body true r w o e h = refl
open_body false true true o e h = absurd (let never : true ≡ false = h in cc)
open_body false false w o e h = absurd (let never : false ≡ true = o in cc)
open_body false true false o e h = absurd (let never : false ≡ true = e in cc)

by_either : (P : Type 0) (a b : Bool) → (a || b) ≡ true → (a ≡ true → P) → (b ≡ true → P) → P
by_either P true b h f g = f refl
by_either P false b h f g = g h

-- if nothing stands for a process, nothing is left of it in the records
pub none_left : (s : State) (past : List Item) (p : Pid) (id : Id) → Cleared p s → Still s p → Stands s None past → Listed s None past → Wakes s past → is_some_and (is_left_of p) (life past id) ≡ false
none_left s past p id c w g h k = by_life (life past id) refl (h id)
  where
    by_life : (o : Option Life) → life past id ≡ o → holds s None id o ≡ true → is_some_and (is_left_of p) o ≡ false
    by_life None is j = refl
    by_life (Some l) is j =
        false_from_ne_true (is_left_of p l) (λ e.
        let parts = and_parts (is_open l) (is_of p l) e in
        by_either ⊥ (is_same l.p p) (is_wake_for p l) parts.1
        (λ own.
        let none : (is_open l && is_same l.p p) ≡ false = sym (ap (is_some_and (is_open_of p)) is) ∙ nothing_owned s past p id c w g h in
        let never : true ≡ false = sym (and_from (is_open l) (is_same l.p p) parts.0 own) ∙ none in
        cc)
        (λ wake.
        let kind = (and_parts (is_wake l.kind) _ wake).0 in
        let calm : (is_wake l.kind && l.routine) ≡ false = sym (ap (is_some_and has_woken) is) ∙ k.unwoken id in
        let body : l.body ≡ true = open_body l.body l.routine (is_wake l.kind) parts.0 kind calm in
        let there : list_any (this_timer id) s.timers ≡ true = subst (λ (n : ℕ). holds_in s None id l.p n ≡ true) (wake_seat l kind body) j in
        let apart : is_some_and (λ (x : Life). not (is_wake_for p x)) (life past id) ≡ true = any_told (λ (t : Timer). t.id) (λ (x : Life). not (is_wake_for p x)) past id s.timers (timers_apart p past s.timers g.timers k.targets c.wakes) there in
        let yes : not (is_wake_for p l) ≡ true = sym (ap (is_some_and (λ (x : Life). not (is_wake_for p x))) is) ∙ apart in
        let never : false ≡ true = sym (ap not wake) ∙ yes in
        cc))

pub left_nothing : (s : State) (past : List Item) (p : Pid) → Cleared p s → Still s p → Stands s None past → Listed s None past → Wakes s past → nothing_left past p ≡ true
left_nothing s past p c w g h k = all_ids_by (λ id. not (is_some_and (is_left_of p) (life past id))) (highest past) (λ id. ap not (none_left s past p id c w g h k))

-- What is asked of the effects of a record.

abbrev pub AllLeave : List Item → List Effect → Type 0
AllLeave past [] = Unit {0}
AllLeave past (x ∷ xs) = ((rest : List Item) → leaves past (Did x) rest ≡ true) × AllLeave (Did x ∷ past) xs

one_leaves : (ok : Test) → ok.gone ≡ false → (x : Effect) (past rest : List Item) → is_allowed ok x ≡ true → leaves past (Did x) rest ≡ true
one_leaves ok n (effect.Gone p) past rest e = absurd (let never : true ≡ false = sym e ∙ n in cc)
one_leaves ok n x past rest e = refl

allowed_leave : (ok : Test) → ok.gone ≡ false → (es : List Effect) (past : List Item) → AllByRecursion (λ x. is_allowed ok x ≡ true) es → AllLeave past es
allowed_leave ok n [] past h = tt
allowed_leave ok n (x ∷ xs) past h = ((λ rest. one_leaves ok n x past rest h.0), allowed_leave ok n xs (Did x ∷ past) h.1)

leave_both : (past : List Item) (es fs : List Effect) → AllLeave past es → AllLeave (later past (map Did es)) fs → AllLeave past (es ++ fs)
leave_both past [] fs h k = k
leave_both past (x ∷ xs) fs h k = (h.0, leave_both (Did x ∷ past) xs fs h.1 k)

later_one : (past : List Item) (es : List Effect) (x : Effect) → later past (map Did (es ++ x ∷ [])) ≡ Did x ∷ later past (map Did es)
later_one past [] x = refl
later_one past (y ∷ es) x = later_one (Did y ∷ past) es x

-- What a record leaves.
pub record Vacates (past : List Item) (es : List Effect) (t : State) : Type 0 where
  pub effects : AllLeave past es
  pub course : Course t
  pub wakes : Wakes t (later past (map Did es))

-- RDN.

-- frames of others
abbrev Idles : Pid → State → State → Type 0
Idles p s t = (q : Pid) → (p.0 - 1 ≡ q.0 - 1 → ⊥) → (process_at s q).frames ≡ [] → (process_at t q).frames ≡ []

down_idles : (s : State) (p : Pid) (es : List Effect) (t : State) → Down s p es t → Idles p s t
down_idles s p es t (ends gs u c) q off e = c.empties refl q e
down_idles s p es t (enters gs u m d c j is) q off e = frames_apart u p q (entering (handler_frame u p d) d.id) off (c.empties refl q e)

-- a process that is gone: for another one
gone_drains : (u : State) (p q : Pid) (m : Mode) → Drains q m u → Drains q m (gone_part p u).after
gone_drains u p q m k =
    let t = (gone_part p u).after in
    record {
      none = field_same (λ (pr : Process). pr.frames) (in_phase phase.Deleted) u p q refl ∙ k.none;
      ended = record {
        attention = all_weaker (Unreached q m u) (Unreached q m t) (λ a y. unreached_on q m u t a ((changed u p (in_phase phase.Deleted) [] refl tt).rows a.p a.chan) y) u.attention k.ended.attention;
        timers = k.ended.timers;
      };
    }

made_before : (u : State) (p q : Pid) → IsProcess (gone_part p u).after q → IsProcess u q
made_before u p q k = record { above = k.above; within = let size = Rattle.std.proofs.Math.ListN.length-set u.procs (p.0 - 1) (in_phase phase.Deleted (process_at u p)) in let w = k.within in omega (arith, size, w) }

goes_course : (s u : State) (gs : List Effect) (p : Pid) → IsProcess s p → IsProcess u p → Moves s None gs u None → Allowed closed gs → Others p s u → AllSeated u → Idles p s (gone_part p u).after → Course s → Course (gone_part p u).after
goes_course s u gs p made there j f o seated idle h = record {
  seated = let t = (gone_part p u).after in all_weaker (Seated u) (Seated t) (λ a k. seated_on u t a ((changed u p (in_phase phase.Deleted) [] refl tt).rows a.p a.chan) k) u.attention seated;
  drains = λ q made_q m at.
      let t = (gone_part p u).after in
      ⊎_elim
      (λ (e : p.0 ≡ q.0).
      let is : p ≡ q = ap (λ (n : ℕ). let x : Pid = record { 0 = n } in x) e in
      let own : (process_at t p).phase ≡ phase.Draining m = subst (λ (r : Pid). (process_at t r).phase ≡ phase.Draining m) (sym is) at in
      let never : phase.Deleted ≡ phase.Draining m = sym (phase_at u p phase.Deleted there) ∙ own in
      absurd (cc))
      (λ (n : p.0 ≡ q.0 → ⊥).
      let off : p.0 - 1 ≡ q.0 - 1 → ⊥ = λ e. let a = made.above in let b = made_q.above in n (omega (arith, e, a, b)) in
      let made_u = made_before u p q made_q in
      let in_u : (process_at u q).phase ≡ phase.Draining m = sym (phase_made u q made_u) ∙ (sym (seat_phase u t p q (others_change u p (in_phase phase.Deleted)) off) ∙ (phase_made t q made_q ∙ at)) in
      gone_drains u p q m (other_drains s u gs p q m j f o off (λ e. sym (field_same (λ (pr : Process). pr.frames) (in_phase phase.Deleted) u p q refl) ∙ idle q off e) h made_u in_u))
      (cases_eq p.0 q.0);
}

lowers_vacate : (s : State) (past : List Item) (p : Pid) (a : Answer) (es : List Effect) (t : State) → Lowers AllSeated (λ m x. Drains p m x) (Cleared p) p s es t → IsProcess s p → Base s → Stands s None past → Listed s None past → Wakes s past → Course s → Idles p s t → Vacates (Head (event.Rdn p) a ∷ past) es t
lowers_vacate s past p a es t (stops gs u f o j seated settled) made b g l k h idle =
    let head = Head (event.Rdn p) a ∷ past in
    record {
      effects = allowed_leave closed refl gs head f.all;
      course = stops_course s u gs p made j f o seated settled idle h;
      wakes = wakes_moved s past (event.Rdn p) a gs u j (record { all = closed_all no_wake gs f.all }) (moves_right s None gs u None head j b g) g k;
    }
lowers_vacate s past p a es t (goes gs u f o j w c) made b g l k h idle =
    let head = Head (event.Rdn p) a ∷ past in
    let then = later head (map Did gs) in
    let right = moves_right s None gs u None head j b g in
    let told = wakes_moved s past (event.Rdn p) a gs u j (record { all = closed_all no_wake gs f.all }) right g k in
    let stands = moves_stand s None gs u None head j b g in
    let listed = moves_listed s None gs u None head j b g l in
    let v = (gone_part p u).after in
    record {
      effects = leave_both head gs (effect.Gone p ∷ []) (allowed_leave closed refl gs head f.all) ((λ rest. left_nothing u then p c w stands listed told), tt);
      course = goes_course s u gs p made w.0 j f o c.seated idle h;
      wakes = subst (λ (x : List Item). Wakes v x) (sym (later_one head gs (effect.Gone p))) (record { targets = told.targets; unwoken = unwoken_on (Did (effect.Gone p)) then refl told.unwoken });
    }

rdn_vacates : (s : State) (past : List Item) (p : Pid) → Contains (enabled s) (event.Rdn p) → Base s → Stands s None past → Tags s → Listed s None past → Wakes s past → Course s → Vacates (Head (event.Rdn p) (step s (event.Rdn p)).answer ∷ past) (step s (event.Rdn p)).effects (step s (event.Rdn p)).after
rdn_vacates s past p c b g tags l k h =
    let awake = enabled_awake s (event.Rdn p) c in
    let made = enabled_there s (event.Rdn p) c in
    let o = step s (event.Rdn p) in
    let low : Low s p = record { here = record { base = b; made = made }; tags = tags; none = awake.0 } in
    let down = rundown_down s p (process_at s p).phase low.here tags in
    let lowered = rundown_lowers AllSeated (λ m x. Drains p m x) (Emptied p) (Cleared p) s p (process_at s p).phase refl (draining p) low h.seated (λ m e. h.drains p made m e) in
    lowers_vacate s past p o.answer o.effects o.after lowered made b g l k h (down_idles s p o.effects o.after down)

-- Other events.

opens_leave : (s : State) (past : List Item) (e : Event) → Opens s e (step s e) → AllLeave (Head e (step s e).answer ∷ past) (step s e).effects
opens_leave s past e (unopened f) = let o = step s e in allowed_leave no_wake refl o.effects (Head e o.answer ∷ past) f.all
opens_leave s past e (opened_one p target n delta is at w) = subst (AllLeave (Head e (step s e).answer ∷ past)) (sym is) ((λ rest. refl), tt)

other_vacates : (s : State) (past : List Item) (e : Event) → is_rundown e ≡ false → Contains (enabled s) e → Base s → Stands s None past → Wakes s past → Course s → Vacates (Head e (step s e).answer ∷ past) (step s e).effects (step s e).after
other_vacates s past e other c b g k h = record {
  effects = opens_leave s past e (step_opens s e other);
  course = step_course s past e other c b h;
  wakes = step_wakes s past e other c b g k;
}

step_vacates : (s : State) (past : List Item) (e : Event) → Contains (enabled s) e → Base s → Stands s None past → Tags s → Listed s None past → Wakes s past → Course s → Vacates (Head e (step s e).answer ∷ past) (step s e).effects (step s e).after
step_vacates s past (event.Rdn p) c b g tags l k h = rdn_vacates s past p c b g tags l k h
step_vacates s past e c b g tags l k h = other_vacates s past e refl c b g k h

-- Runs.

effects_leave : (past : List Item) (es : List Effect) (more : List Item) → AllLeave past es → at_each leaves (later past (map Did es)) more ≡ true → at_each leaves past (map Did es ++ more) ≡ true
effects_leave past [] more h k = k
effects_leave past (x ∷ xs) more h k = and_from _ _ (h.0 (map Did xs ++ more)) (effects_leave (Did x ∷ past) xs more h.1 k)

run_leaves : (s : State) (past : List Item) (rs : List Rec) → AreSteps s rs → Base s → Stands s None past → Tags s → Further s past → Wakes s past → Course s → at_each leaves past (flat rs) ≡ true
run_leaves s past [] j b g tags f k h = refl
run_leaves s past (r ∷ rs) j b g tags f k h =
    let e = r.event in
    let c = j.0.enabled in
    let one = step_right s past e c b g in
    let two = step_vacates s past e c b g tags f.listed k h in
    let head = Head e (step s e).answer ∷ past in
    rw (j.0.answer, j.0.effects)
    (effects_leave head (step s e).effects (flat rs) two.effects
    (run_leaves (step s e).after (later head (map Did (step s e).effects)) rs j.1 one.base one.stands (step_tags s past e (enabled_there s e c) b tags) (step_further s past e c b g f) two.wakes two.course))

-- At first nobody drains a mode.

abbrev IsUndrained : Process → Type 0
IsUndrained x = (m : Mode) → x.phase ≡ phase.Draining m → ⊥

born_undrained : (place : ℕ) (ds : List ProcDecl) → AllByRecursion IsUndrained (born_from place ds)
born_undrained place [] = tt
born_undrained place (d ∷ ds) =
    either (AllByRecursion IsUndrained) d.start (born_of place d ∷ born_from (place + 1) ds) (born_from (place + 1) ds)
    ((λ m e. let never : phase.Alive ≡ phase.Draining m = e in cc), born_undrained (place + 1) ds) (born_undrained (place + 1) ds)

first_undrained : (system : System) (p : Pid) → IsUndrained (process_at (first system) p)
first_undrained system p = all_get IsUndrained (born_from 0 system.decls) (p.0 - 1) nobody (λ m e. let never : phase.Deleted ≡ phase.Draining m = e in cc) (born_undrained 0 system.decls)

first_course : (system : System) → Course (first system)
first_course system = record { seated = tt; drains = λ q there m at. absurd (first_undrained system q m at) }

first_wakes : (system : System) → Wakes (first system) []
first_wakes system = record { targets = tt; unwoken = λ id. refl }

pub every_run_leaves : (system : System) (recs : List Rec) → IsRun system recs → leaves_none recs ≡ true
every_run_leaves system recs run = run_leaves (first system) [] recs run.steps (first_base system) (first_stands system) (first_tags system) (first_further system) (first_wakes system) (first_course system)

-- The law of rundown, whole.

one_rests : (past : List Item) (x : Item) (rest : List Item) → stays past x rest ≡ true → leaves past x rest ≡ true → rests past x rest ≡ true
one_rests past (Did (effect.Gone p)) rest h k = k
one_rests past (Did (effect.Open id kind p mode n)) rest h k = h
one_rests past (Head (event.Run p) a) rest h k = h
one_rests past (Head (event.Ast p) a) rest h k = h
one_rests past (Head (event.Rdn p) a) rest h k = h
one_rests past x rest h k = refl

all_rest : (past items : List Item) → at_each stays past items ≡ true → at_each leaves past items ≡ true → at_each rests past items ≡ true
all_rest past [] h k = refl
all_rest past (x ∷ xs) h k =
    let one = and_parts (stays past x xs) (at_each stays (x ∷ past) xs) h in
    let two = and_parts (leaves past x xs) (at_each leaves (x ∷ past) xs) k in
    and_from (rests past x xs) (at_each rests (x ∷ past) xs) (one_rests past x xs one.0 two.0) (all_rest (x ∷ past) xs one.1 two.1)

pub every_run_down : (system : System) (recs : List Rec) → IsRun system recs → run_downs recs ≡ true
every_run_down system recs run = both_hold rests enters_last [] (flat recs) (all_rest [] (flat recs) (every_run_rests system recs run) (every_run_leaves system recs run)) (every_run_last system recs run)
