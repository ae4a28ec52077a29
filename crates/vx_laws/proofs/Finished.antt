-- In a run whose end is DONE no id is open, and each request has exactly one FIN.
use Rattle.std.proofs.Common.{◌≡◌, ◌≢◌, ◌∙◌, ℕ, zero, suc, ◌+◌, ◌-◌, ◌<◌, ◌≤◌, List, [], ◌∷◌, Bool, true, false, cond, ◌==◌, ◌&&◌, Option, Some, None, map, refl, sym, ap, subst, arith, length, get_or, ⊎_elim}
use Rattle.std.specs.Prelude.{Contains, nat_le}
use Rattle.std.specs.List.{AllByRecursion, list_all, list_any}
use Rattle.std.proofs.lemmas.Bool.{and_parts, and_from, eq-eqb, cases_eq, leb-true, le-leb, false_from_ne_true, or_right, or_parts}
use Rattle.std.specs.Cmp.{both_ways as same_bools}
use Rattle.vx_record.specs.Types.{Answer, Attention, Effect, End, Event, Id, Phase, Pid, ProcDecl, Rec, Request, System, Timer}
use Rattle.vx_base.specs.declared.effects.Effect.TheVariants as effect
use Rattle.vx_base.specs.declared.frame.Phase.TheVariants as phase
use Rattle.vx_base.specs.declared.record.End.TheVariants.{Done, Hung, Limit}
use Rattle.vx_base.specs.declared.record.Event.TheVariants as event
use Rattle.vx_record.specs.Charges.{is_same}
use Rattle.vx_record.specs.Control.{is_deleted, is_deleted_phase}
use Rattle.vx_record.specs.Events.{step, enabled, can_step_down}
use Rattle.vx_record.specs.Rundown.{gone_part, in_phase, entering, handler_frame, this_handler, release}
use Rattle.vx_record.specs.Runs.{born_of, born_from, first, after, after_from, are_deleted, end_with, end_after, AreSteps, IsRun}
use Rattle.vx_record.specs.State.{Process, State, IsProcess, process_at, nobody}
use Rattle.vx_record.proofs.Base.{Base}
use Rattle.vx_record.proofs.Fits.{field_same}
use Rattle.vx_record.proofs.Freeing.{phase_at}
use Rattle.vx_record.proofs.Lists.{either, all_weaker, all_both}
use Rattle.vx_record.proofs.Allowed.{enabled_there}
use Rattle.vx_record.proofs.Along.{first_base}
use Rattle.vx_laws.specs.Items.{Item, Head, Did, flat, later, past_of}
use Rattle.vx_laws.specs.Leftovers.{fins, is_open_of}
use Rattle.vx_laws.specs.Lives.{Life, life, is_open, is_request}
use Rattle.vx_laws.specs.RundownLaw.{is_gone}
use Rattle.vx_laws.proofs.Calm.{Tags}
use Rattle.vx_laws.proofs.Drained.{seat_phase}
use Rattle.vx_laws.proofs.Listed.{holds, holds_in, Listed, this_ast}
use Rattle.vx_laws.proofs.Lowers.{IsLowering, Low, Lowers, stops, goes, others_change, rundown_lowers, cancelled_phase, low_release}
use Rattle.vx_laws.proofs.Newest.{Further, step_further, first_further}
use Rattle.vx_laws.proofs.Opens.{any_told}
use Rattle.vx_laws.proofs.Phases.{Passes}
use Rattle.vx_laws.proofs.Untouched.{phase_in, release_shifts}
use Rattle.vx_laws.proofs.Rests.{enabled_awake, is_rundown, phase_made, step_ages, both_later, AllGone, step_rests}
use Rattle.vx_laws.proofs.Right.{lives_more}
use Rattle.vx_laws.proofs.Runs.{step_right, first_stands, every_run_ends_right}
use Rattle.vx_laws.proofs.Seats.{seat, request_life, timer_life, attention_life, RequestLives, TimerLives, AttentionLives}
use Rattle.vx_laws.proofs.Settled.{IsOwnedLife, owned_after}
use Rattle.vx_laws.proofs.Shares.{records_whole, told_fins, gone_leave_nothing}
use Rattle.vx_laws.proofs.Stands.{Stands}
use Rattle.vx_laws.proofs.Steps.{step_tags, first_tags}
use Rattle.vx_laws.proofs.Turns.{later_items}
use Rattle.vx_laws.proofs.Unowned.{open_seated, pid_of}
use Rattle.vx_laws.proofs.Vacant.{every_run_down}
use Rattle.vx_base.specs.Lists.{is_some_and}

-- Who is deleted is gone in the records.

abbrev pub GoneTold : State → List Item → Type 0
GoneTold s past = (q : Pid) → IsProcess s q → (process_at s q).phase ≡ phase.Deleted → is_gone past q ≡ true

gone_item : (x : Item) (past : List Item) (q : Pid) → is_gone past q ≡ true → is_gone (x ∷ past) q ≡ true
gone_item (Did (effect.Gone r)) past q e = or_right (is_same r q) (is_gone past q) e
gone_item x past q e = e

gone_items : (xs past : List Item) (q : Pid) → is_gone past q ≡ true → is_gone (later past xs) q ≡ true
gone_items [] past q e = e
gone_items (x ∷ xs) past q e = gone_items xs (x ∷ past) q (gone_item x past q e)

deleted_within : (l : List Process) (i : ℕ) → phase_in l i ≡ phase.Deleted → i < length l
deleted_within [] i e = absurd (let never : phase.Alive ≡ phase.Deleted = e in cc)
deleted_within (x ∷ xs) zero e = omega arith
deleted_within (x ∷ xs) (suc i) e = let k = deleted_within xs i e in omega (arith, k)

deleted_back : (x : Phase) → Passes x phase.Deleted → x ≡ phase.Deleted
deleted_back phase.Alive h = absurd h
deleted_back (phase.Handlers n) h = absurd (let never : phase.Deleted ≡ phase.Handlers n = h in cc)
deleted_back (phase.Draining n) h = absurd (let never : phase.Deleted ≡ phase.Draining n = h in cc)
deleted_back phase.Deleted h = refl

-- one that was deleted before
told_before : (s : State) (past : List Item) (q : Pid) → 1 ≤ q.0 → phase_in s.procs (q.0 - 1) ≡ phase.Deleted → GoneTold s past → is_gone past q ≡ true
told_before s past q above e h =
    let within = deleted_within s.procs (q.0 - 1) e in
    let here : IsProcess s q = record { above = above; within = omega (arith, within, above) } in
    h q here (sym (phase_made s q here) ∙ e)

other_told : (s : State) (past : List Item) (e : Event) (xs : List Item) → is_rundown e ≡ false → GoneTold s past → GoneTold (step s e).after (later past xs)
other_told s past e xs other h q there at =
    let t = (step s e).after in
    let then : phase_in t.procs (q.0 - 1) ≡ phase.Deleted = phase_made t q there ∙ at in
    let before = deleted_back (phase_in s.procs (q.0 - 1)) (subst (λ (x : Phase). Passes (phase_in s.procs (q.0 - 1)) x) then ((step_ages s e other).phases (q.0 - 1))) in
    gone_items xs past q (told_before s past q there.above before h)

-- A step of rundown deletes at GONE alone.

abbrev Any : State → Type 0
Any s = Unit {0}

abbrev IsUndeleted : Pid → State → Type 0
IsUndeleted p s = (process_at s p).phase ≢ phase.Deleted

staying : (p : Pid) → IsLowering p (IsUndeleted p) (λ m. Any) Any Any
staying p = record {
  handles = λ s m h j e. let never : phase.Handlers m ≡ phase.Deleted = sym (phase_at s p (phase.Handlers m) h.here.made) ∙ e in cc;
  cancels = λ s m h j e. let never : phase.Draining m ≡ phase.Deleted = sym (cancelled_phase s p m h) ∙ e in cc;
  enters = λ s d j e. j (sym (field_same (λ (pr : Process). pr.phase) (entering (handler_frame s p d) d.id) s p p refl) ∙ e);
  cancelled = λ s m h j. tt;
  releases = λ s m h j r e. let t = (release s p m).after in j (sym (phase_made s p h.here.made) ∙ (sym ((release_shifts s p m).phases (p.0 - 1)) ∙ (phase_made t p (low_release s p m h).here.made ∙ e)));
  released = λ s h j r f. tt;
  clears = λ s h j d. tt;
}

lowers_told : (s : State) (past : List Item) (p : Pid) (a : Answer) (es : List Effect) (t : State) → Lowers (IsUndeleted p) (λ m. Any) Any p s es t → IsProcess s p → GoneTold s past → GoneTold t (later (Head (event.Rdn p) a ∷ past) (map Did es))
lowers_told s past p a es t (stops gs u f o j undeleted settled) made h q there at =
    let head = Head (event.Rdn p) a ∷ past in
    ⊎_elim
    (λ (e : p.0 ≡ q.0). let is : q ≡ p = ap (λ (n : ℕ). let x : Pid = record { 0 = n } in x) (sym e) in absurd (undeleted (subst (λ (r : Pid). (process_at u r).phase ≡ phase.Deleted) is at)))
    (λ (n : p.0 ≡ q.0 → ⊥).
    let off : p.0 - 1 ≡ q.0 - 1 → ⊥ = λ e. let x = made.above in let y = there.above in n (omega (arith, e, x, y)) in
    gone_items (map Did gs) head q (told_before s past q there.above (sym (seat_phase s u p q o off) ∙ (phase_made u q there ∙ at)) h))
    (cases_eq p.0 q.0)
lowers_told s past p a es t (goes gs u f o j w c) made h q there at =
    let head = Head (event.Rdn p) a ∷ past in
    let v = (gone_part p u).after in
    both_later head gs p q f.all
    ∙ ⊎_elim
    (λ (e : p.0 ≡ q.0). let yes : is_same p q ≡ true = eq-eqb p.0 q.0 e in rw yes refl)
    (λ (n : p.0 ≡ q.0 → ⊥).
    let off : p.0 - 1 ≡ q.0 - 1 → ⊥ = λ e. let x = made.above in let y = there.above in n (omega (arith, e, x, y)) in
    or_right (is_same p q) (is_gone past q) (told_before s past q there.above (sym (seat_phase s u p q o off) ∙ (sym (seat_phase u v p q (others_change u p (in_phase phase.Deleted)) off) ∙ (phase_made v q there ∙ at))) h))
    (cases_eq p.0 q.0)

rdn_told : (s : State) (past : List Item) (p : Pid) → Contains (enabled s) (event.Rdn p) → Base s → Tags s → GoneTold s past → GoneTold (step s (event.Rdn p)).after (later (Head (event.Rdn p) (step s (event.Rdn p)).answer ∷ past) (map Did (step s (event.Rdn p)).effects))
rdn_told s past p c b tags h =
    let awake = enabled_awake s (event.Rdn p) c in
    let made = enabled_there s (event.Rdn p) c in
    let o = step s (event.Rdn p) in
    let low : Low s p = record { here = record { base = b; made = made }; tags = tags; none = awake.0 } in
    let undeleted : IsUndeleted p s = λ e. let no : can_step_down s p phase.Deleted ≡ true = subst (λ (x : Phase). can_step_down s p x ≡ true) e awake.1 in let never : false ≡ true = no in cc in
    lowers_told s past p o.answer o.effects o.after (rundown_lowers (IsUndeleted p) (λ m. Any) Any Any s p (process_at s p).phase refl (staying p) low undeleted (λ m e. tt)) made h

step_told : (s : State) (past : List Item) (e : Event) → Contains (enabled s) e → Base s → Tags s → GoneTold s past → GoneTold (step s e).after (later (Head e (step s e).answer ∷ past) (map Did (step s e).effects))
step_told s past (event.Rdn p) c b tags h = rdn_told s past p c b tags h
step_told s past e c b tags h = other_told s past e (Head e (step s e).answer ∷ map Did (step s e).effects) refl h

-- At first all that are there are alive.

born_alive : (place : ℕ) (ds : List ProcDecl) → AllByRecursion (λ x. x.phase ≡ phase.Alive) (born_from place ds)
born_alive place [] = tt
born_alive place (d ∷ ds) = either (AllByRecursion (λ (x : Process). x.phase ≡ phase.Alive)) d.start (born_of place d ∷ born_from (place + 1) ds) (born_from (place + 1) ds) (refl, born_alive (place + 1) ds) (born_alive (place + 1) ds)

alive_in : (l : List Process) (i : ℕ) → i < length l → AllByRecursion (λ x. x.phase ≡ phase.Alive) l → (get_or l i nobody).phase ≡ phase.Alive
alive_in [] i k h = absurd (omega (arith, k))
alive_in (x ∷ xs) zero k h = h.0
alive_in (x ∷ xs) (suc i) k h = alive_in xs i (omega (arith, k)) h.1

first_told : (system : System) → GoneTold (first system) []
first_told system q there at =
    let a = there.above in
    let b = there.within in
    let alive : (process_at (first system) q).phase ≡ phase.Alive = alive_in (born_from 0 system.decls) (q.0 - 1) (omega (arith, a, b)) (born_alive 0 system.decls) in
    let never : phase.Alive ≡ phase.Deleted = sym alive ∙ at in
    absurd (cc)

-- Who owns an open id is there.

abbrev is_within : State → Life → Bool
is_within s l = nat_le l.p.0 (length s.procs)

owner_within : (s : State) (l : Life) (q : Pid) → IsProcess s q → is_same l.p q ≡ true → is_within s l ≡ true
owner_within s l q made e = subst (λ (r : Pid). nat_le r.0 (length s.procs) ≡ true) (sym (pid_of l.p q e)) (le-leb q.0 (length s.procs) made.within)

requests_within : (s : State) (past : List Item) → Base s → Stands s None past → AllByRecursion (λ r. is_some_and (is_within s) (life past r.req.id) ≡ true) s.requests
requests_within s past b g = all_weaker (λ (r : Request). RequestLives past r × IsProcess s r.req.p) (λ r. is_some_and (is_within s) (life past r.req.id) ≡ true) (λ r k. lives_more 1 (request_life r) (is_within s) (life past r.req.id) (λ l x y. owner_within s l r.req.p k.1 (and_parts (is_same l.p r.req.p) _ y).0) k.0) s.requests (all_both (RequestLives past) (λ r. IsProcess s r.req.p) s.requests g.requests b.request_owners)

timers_within : (s : State) (past : List Item) → Base s → Stands s None past → AllByRecursion (λ t. is_some_and (is_within s) (life past t.id) ≡ true) s.timers
timers_within s past b g = all_weaker (λ (t : Timer). TimerLives past t × (IsProcess s t.p × Rattle.vx_record.proofs.Moves.IsAlarmMade s t.what)) (λ t. is_some_and (is_within s) (life past t.id) ≡ true) (λ t k. lives_more 2 (timer_life t) (is_within s) (life past t.id) (λ l x y. owner_within s l t.p k.1.0 (and_parts (is_same l.p t.p) _ y).0) k.0) s.timers (all_both (TimerLives past) (λ t. IsProcess s t.p × Rattle.vx_record.proofs.Moves.IsAlarmMade s t.what) s.timers g.timers b.timer_owners)

attention_within : (s : State) (past : List Item) → Base s → Stands s None past → AllByRecursion (λ a. is_some_and (is_within s) (life past a.id) ≡ true) s.attention
attention_within s past b g = all_weaker (λ (a : Attention). AttentionLives past a × IsProcess s a.p) (λ a. is_some_and (is_within s) (life past a.id) ≡ true) (λ a k. lives_more 3 (attention_life a) (is_within s) (life past a.id) (λ l x y. owner_within s l a.p k.1 (and_parts (is_same l.p a.p) _ y).0) k.0) s.attention (all_both (AttentionLives past) (λ a. IsProcess s a.p) s.attention g.attention b.attention_owners)

handler_within : (l : List Process) (i : ℕ) (id : Id) → list_any (this_handler id) (get_or l i nobody).handlers ≡ true → i < length l
handler_within [] i id e = absurd (let never : false ≡ true = e in cc)
handler_within (x ∷ xs) zero id e = omega arith
handler_within (x ∷ xs) (suc i) id e = let k = handler_within xs i id e in omega (arith, k)

ast_within : (l : List Process) (i : ℕ) (id : Id) → list_any (this_ast id) (get_or l i nobody).asts ≡ true → i < length l
ast_within [] i id e = absurd (let never : false ≡ true = e in cc)
ast_within (x ∷ xs) zero id e = omega arith
ast_within (x ∷ xs) (suc i) id e = let k = ast_within xs i id e in omega (arith, k)

seat_within : (s : State) (past : List Item) (id : Id) (l : Life) (n : ℕ) → Base s → Stands s None past → life past id ≡ Some l → 1 ≤ l.p.0 → (n == 0) ≡ false → holds_in s None id l.p n ≡ true → l.p.0 ≤ length s.procs
seat_within s past id l n b g is above some h =
    by_cond (n == 1) _ _ (λ e. told (any_told (λ (r : Request). r.req.id) (is_within s) past id s.requests (requests_within s past b g) e))
    (by_cond (n == 2) _ _ (λ e. told (any_told (λ (t : Timer). t.id) (is_within s) past id s.timers (timers_within s past b g) e))
    (by_cond (n == 3) _ _ (λ e. told (any_told (λ (a : Attention). a.id) (is_within s) past id s.attention (attention_within s past b g) e))
    (by_cond (n == 4) _ _ (λ e. let k = handler_within s.procs (l.p.0 - 1) id e in omega (arith, k, above))
    (by_cond (n == 5) _ _ (λ e. let k = ast_within s.procs (l.p.0 - 1) id e in omega (arith, k, above))
    (by_cond (n == 6) _ _ (λ e. let never : false ≡ true = e in absurd (cc)) (λ e. let never : false ≡ true = sym some ∙ e in absurd (cc))))))) h
  where
    by_cond : (c x y : Bool) → (x ≡ true → l.p.0 ≤ length s.procs) → (y ≡ true → l.p.0 ≤ length s.procs) → cond c x y ≡ true → l.p.0 ≤ length s.procs
    by_cond true x y f k e = f e
    by_cond false x y f k e = k e

    told : is_some_and (is_within s) (life past id) ≡ true → l.p.0 ≤ length s.procs
    told e = leb-true l.p.0 (length s.procs) (sym (ap (is_some_and (is_within s)) is) ∙ e)

owner_made : (s : State) (past : List Item) (id : Id) (l : Life) → Base s → Stands s None past → Listed s None past → life past id ≡ Some l → 1 ≤ l.p.0 → is_open l ≡ true → IsProcess s l.p
owner_made s past id l b g k is above e = record {
  above = above;
  within = seat_within s past id l (seat l) b g is above (open_seated l.body l.routine l.queued l.kind e) (subst (λ (o : Option Life). holds s None id o ≡ true) is (k id));
}

-- Runs.

record Over (s : State) (past : List Item) : Type 0 where
  pub base : Base s
  pub stands : Stands s None past
  pub listed : Listed s None past
  pub told : GoneTold s past
  pub gone : AllGone s past

run_over : (s : State) (past : List Item) (rs : List Rec) → AreSteps s rs → Base s → Stands s None past → Tags s → Further s past → GoneTold s past → AllGone s past → Over (after_from s rs) (later past (flat rs))
run_over s past [] j b g tags f h k = record { base = b; stands = g; listed = f.listed; told = h; gone = k }
run_over s past (r ∷ rs) j b g tags f h k =
    let e = r.event in
    let c = j.0.enabled in
    let one = step_right s past e c b g in
    let es = (step s e).effects in
    let x = Head e (step s e).answer in
    rw (j.0.answer, j.0.effects, later_items (x ∷ past) (map Did es) (flat rs))
    (run_over (step s e).after (later (x ∷ past) (map Did es)) rs j.1 one.base one.stands (step_tags s past e (enabled_there s e c) b tags) (step_further s past e c b g f) (step_told s past e c b tags h) (step_rests s past e c b tags k).gone)

every_run_over : (system : System) (recs : List Rec) → IsRun system recs → Over (after system recs) (past_of recs)
every_run_over system recs run = run_over (first system) [] recs run.steps (first_base system) (first_stands system) (first_tags system) (first_further system) (first_told system) (λ p k. absurd (let never : false ≡ true = k in cc))

phase_deleted : (x : Phase) → is_deleted_phase x ≡ true → x ≡ phase.Deleted
phase_deleted phase.Deleted e = refl
phase_deleted x e = absurd (let never : false ≡ true = e in cc)

-- a process is deleted exactly if it is gone in the records
pub every_gone : (system : System) (recs : List Rec) (p : Pid) → IsRun system recs → IsProcess (after system recs) p → is_deleted (process_at (after system recs) p) ≡ is_gone (past_of recs) p
every_gone system recs p run made =
    let s = after system recs in
    let k = every_run_over system recs run in
    same_bools (is_deleted (process_at s p)) (is_gone (past_of recs) p) (λ e. k.told p made (phase_deleted (process_at s p).phase e)) (λ e. ap is_deleted_phase (k.gone p e).deleted)

-- At the end.

done_deleted : (limit taken : ℕ) (d : Bool) (es : List Event) → end_with limit taken d es ≡ Some Done → d ≡ true
done_deleted limit taken true es e = refl
done_deleted limit taken false [] e = absurd (let never : Some Hung ≡ Some Done = e in cc)
done_deleted limit taken false (x ∷ es) e = absurd (either (λ (o : Option End). o ≡ Some Done → ⊥) (nat_le limit taken) (Some Limit) None (λ k. cc) (λ k. cc) e)

deleted_at : (l : List Process) (i : ℕ) → list_all is_deleted l ≡ true → (get_or l i nobody).phase ≡ phase.Deleted
deleted_at [] i e = refl
deleted_at (x ∷ xs) zero e = phase_deleted x.phase (and_parts (is_deleted x) (list_all is_deleted xs) e).0
deleted_at (x ∷ xs) (suc i) e = deleted_at xs i (and_parts (is_deleted x) (list_all is_deleted xs) e).1

pub done_open : (system : System) (recs : List Rec) (limit : ℕ) (id : Id) → IsRun system recs → end_after system recs limit ≡ Some Done → is_some_and is_open (life (past_of recs) id) ≡ false
done_open system recs limit id run end = by_life (life (past_of recs) id) refl (owned_after system recs run id)
  where
    by_life : (o : Option Life) → life (past_of recs) id ≡ o → IsOwnedLife o → is_some_and is_open o ≡ false
    by_life None is above = refl
    by_life (Some l) is above =
        false_from_ne_true (is_open l) (λ e.
        let s = after system recs in
        let k = every_run_over system recs run in
        let made = owner_made s (past_of recs) id l k.base k.stands k.listed is above e in
        let all = done_deleted limit (length recs) (are_deleted s) (enabled s) end in
        let gone = k.told l.p made (deleted_at s.procs (l.p.0 - 1) all) in
        let none : (is_open l && is_same l.p l.p) ≡ false = sym (ap (is_some_and (is_open_of l.p)) is) ∙ gone_leave_nothing recs l.p id (every_run_ends_right system recs run) (every_run_down system recs run) gone in
        let never : true ≡ false = sym (and_from (is_open l) (is_same l.p l.p) e (eq-eqb l.p.0 l.p.0 refl)) ∙ none in
        cc)

closed_fins : (o : Option Life) → is_some_and is_open o ≡ false → is_some_and (λ l. is_request l.kind) o ≡ true → told_fins o ≡ 1
closed_fins None h r = absurd (let never : false ≡ true = r in cc)
closed_fins (Some l) h r = rw (r, (or_parts l.body l.routine h).0) refl

pub done_finished : (system : System) (recs : List Rec) (limit : ℕ) (id : Id) → IsRun system recs → end_after system recs limit ≡ Some Done → is_some_and (λ l. is_request l.kind) (life (past_of recs) id) ≡ true → fins (past_of recs) id ≡ 1
done_finished system recs limit id run end request = (records_whole recs (every_run_ends_right system recs run)).finished id ∙ closed_fins (life (past_of recs) id) (done_open system recs limit id run end) request
