-- What is known of the records of a transcript, a line at a time.
use Rattle.std.proofs.Common.{◌≡◌, ◌⊎◌, inl, inr, ℕ, suc, ◌+◌, ◌==◌, ◌<◌, ◌≤◌, Bool, true, false, cond, nat_lt, List, [], ◌∷◌, ◌++◌, length, take, length-append, Option, Some, None, Result, Ok, Err, IfOk, Contains, refl, sym, ap, subst, ◌∙◌, arith, append_assoc}
use Rattle.std.proofs.lemmas.Bool.{lt-ltb, ltb-true, ltb-false}
use Rattle.std.proofs.lemmas.Bool.Decides.{nat_tests}
use Rattle.std.proofs.lemmas.List.{length-take-le, take-append-le, take_all}
use Rattle.std.specs.Prelude.{option_to_list}
use Rattle.vx_record.specs.Types.{Answer, Effect, Event, NoMemory, Rec}
use Rattle.vx_lines.specs.ReadRecords.{read_so_far, with_effect as read_with_effect}
use Rattle.vx_lines.specs.Words.{◌>>=◌}
use Rattle.vx_lines.specs.declared.read.Reading.{Reading}
use Rattle.vx_record.specs.State.{State}
use Rattle.vx_record.specs.Events.{enabled, step}
use Rattle.vx_record.specs.Runs.{IsStep, after_from, record_of}
use Rattle.vx_exec.specs.Taken.{TakesRun}
use Rattle.vx_exec.specs.View.{Executive, Plan, after_step, plan}
use Rattle.vx_check.proofs.Judging.{front_steps, last_step, no_such_step, one_too_many, run_more, step_if}
use Rattle.vx_check.specs.Following.{Ends, Follows, FollowsLine, IsFollowing, IsLost, IsOpen, IsRight, IsWrong, Opens, at_last, before_last, course_with, fresh, with_effect, with_more}
use Rattle.vx_check.specs.Judging.{AreRun, IsWrongFrom}
use Rattle.vx_check.specs.declared.course.Course.{Course}
use Rattle.vx_check.specs.declared.course.Course.TheVariants.{Begun, Open, Wrong}
use Rattle.vx_check.specs.declared.course.Progress.{Progress}

-- Fronts of effects.

abbrev with_effects : Rec → List Effect → Rec
with_effects r es = record r { effects = es }

-- a front that is one longer than a list can be, and is that list, is the whole
all_taken : {A : Type 0} (ys xs : List A) → ys ≡ take (suc (length ys)) xs → xs ≡ ys
all_taken [] [] h = refl
all_taken [] (x ∷ xs) h = absurd (cc)
all_taken (y ∷ ys) [] h = absurd (cc)
all_taken (y ∷ ys) (x ∷ xs) h =
    let heads : x ≡ y = cc in
    let tails : ys ≡ take (suc (length ys)) xs = cc in
    ap (λ z. z ∷ xs) heads ∙ ap (λ l. y ∷ l) (all_taken ys xs tails)

more_by : (m : ℕ) (xs : List Effect) (e : Effect) (t : Bool) → nat_lt m (length xs) ≡ t → cond (nat_lt m (length (take (suc m) xs))) (take (suc m) xs) (take (suc m) xs ++ e ∷ []) ≡ take (suc m) (xs ++ e ∷ [])
more_by m xs e true is =
    let long : m < length xs = ltb-true m (length xs) is in
    let size : length (take (suc m) xs) ≡ suc m = length-take-le (suc m) xs (omega (arith, long)) in
    let full : nat_lt m (length (take (suc m) xs)) ≡ true = lt-ltb m (length (take (suc m) xs)) (omega (arith, size)) in
    rw full (sym (take-append-le (suc m) xs (e ∷ []) (omega (arith, long))))
more_by m xs e false is =
    let short : length xs ≤ m = ltb-false m (length xs) is in
    let front : take (suc m) xs ≡ xs = take_all (suc m) xs (omega (arith, short)) in
    let all : take (suc m) (xs ++ e ∷ []) ≡ xs ++ e ∷ [] = take_all (suc m) (xs ++ e ∷ []) (omega (arith, short, length-append xs (e ∷ []))) in
    ap (λ l. cond (nat_lt m (length l)) l (l ++ e ∷ [])) front ∙ ap (λ t. cond t xs (xs ++ e ∷ [])) is ∙ sym all

kept_by : (kept : Rec) (e : Effect) (t : Bool) → cond t kept (with_effects kept (kept.effects ++ e ∷ [])) ≡ with_effects kept (cond t kept.effects (kept.effects ++ e ∷ []))
kept_by kept e true = refl
kept_by kept e false = refl

-- a front with one effect more is the front of what has one effect more
kept_more : (m : ℕ) (last kept : Rec) (e : Effect) → kept ≡ with_effects last (take (suc m) last.effects) → with_more kept m e ≡ with_effects last (take (suc m) (last.effects ++ e ∷ []))
kept_more m last kept e front =
    ap (λ z. with_more z m e) front
    ∙ kept_by (with_effects last (take (suc m) last.effects)) e (nat_lt m (length (take (suc m) last.effects)))
    ∙ ap (with_effects last) (more_by m last.effects e (nat_lt m (length last.effects)) refl)

-- The last record is the machine's exactly where what is kept of it is.

last_made : (made last kept : Rec) → kept ≡ with_effects last (take (suc (length made.effects)) last.effects) → made ≡ kept → last ≡ made
last_made made last kept front same =
    let fronts : List Effect = take (suc (length made.effects)) last.effects in
    let own : made ≡ with_effects last fronts = same ∙ front in
    let part : made.effects ≡ fronts = ap (λ (z : Rec). z.effects) own in
    let full : last.effects ≡ fronts = all_taken made.effects last.effects part ∙ part in
    ap (with_effects last) full ∙ sym own

kept_made : (made last kept : Rec) → kept ≡ with_effects last (take (suc (length made.effects)) last.effects) → made ≡ last → made ≡ kept
kept_made made last kept front same =
    let all : take (suc (length made.effects)) made.effects ≡ made.effects = take_all (suc (length made.effects)) made.effects (omega arith) in
    let own : with_effects last (take (suc (length made.effects)) last.effects) ≡ with_effects made (take (suc (length made.effects)) made.effects) = ap (λ (z : Rec). with_effects z (take (suc (length made.effects)) z.effects)) (sym same) in
    sym (front ∙ own ∙ ap (with_effects made) all)

-- two records of one event are not both steps
one_step : (s : State) (a b : Rec) → a.event ≡ b.event → IsStep s a → IsStep s b → a ≡ b
one_step s a b same h k =
    let answers : a.answer ≡ b.answer = h.answer ∙ ap (λ (e : Event). (step s e).answer) same ∙ sym k.answer in
    let effects : a.effects ≡ b.effects = h.effects ∙ ap (λ (e : Event). (step s e).effects) same ∙ sym k.effects in
    let with_event : Event → Rec = λ e. record { event = e; answer = a.answer; effects = a.effects } in
    let with_answer : Answer → Rec = λ x. record { event = b.event; answer = x; effects = a.effects } in
    ap with_event same ∙ ap with_answer answers ∙ ap (with_effects b) effects

-- What a course says.

pub follows_plan : (s : State) (now : Executive) (course : Course) (r : Reading) → Follows s now course r → plan now ≡ plan (fresh s)
follows_plan s now Begun r h = ap (λ (e : Executive). plan e) h.1
follows_plan s now (Open made kept) r h = h.takes.planned
follows_plan s now (Wrong n) r h = h.0

so_far : (r : Reading) (last : Rec) → r.current ≡ Some last → read_so_far r ≡ r.recs ++ last ∷ []
so_far r last is = ap (λ (o : Option Rec). r.recs ++ option_to_list o) is

pub all_right : (s : State) (now : Executive) (course : Course) (r : Reading) → Follows s now course r → IsRight course → TakesRun (fresh s) now (read_so_far r) × (length (read_so_far r) ≤ 100000)
all_right s now Begun r h right =
    let takes : TakesRun (fresh s) now [] = record {
      steps = tt;
      now = ap (λ (e : Executive). e.state) h.1;
      counted = omega (arith, ap (λ (e : Executive). e.taken) h.1);
      planned = ap (λ (e : Executive). plan e) h.1;
    } in
    subst (λ (q : Reading). TakesRun (fresh s) now (read_so_far q) × (length (read_so_far q) ≤ 100000)) (sym h.0) (takes, omega arith)
all_right s now (Open made kept) r h right =
    let all : read_so_far r ≡ r.recs ++ made ∷ [] = so_far r h.last h.current ∙ ap (λ (z : Rec). r.recs ++ z ∷ []) (last_made made h.last kept h.front right) in
    subst (λ (l : List Rec). TakesRun (fresh s) now l × (length l ≤ 100000)) (sym all) (h.takes, omega (arith, h.few, length-append r.recs (made ∷ [])))
all_right s now (Wrong n) r h right = absurd right

wrong_more : (s : State) (xs ys : List Rec) (n : ℕ) → IsWrongFrom s xs n → IsWrongFrom s (xs ++ ys) n
wrong_more s xs ys n w = record {
  before = w.before;
  rec = w.rec;
  rest = w.rest ++ ys;
  split = ap (λ l. l ++ ys) w.split ∙ append_assoc w.before (w.rec ∷ w.rest) ys;
  place = w.place;
  run = w.run;
  wrong = w.wrong;
}

last_wrong : (s : State) (recs : List Rec) (last : Rec) (n : ℕ) → n ≡ length recs + 1 → AreRun s recs → (AreRun s (recs ++ last ∷ []) → ⊥) → IsWrongFrom s (recs ++ last ∷ []) n
last_wrong s recs last n place run wrong = record { before = recs; rec = last; rest = []; split = refl; place = place; run = run; wrong = wrong }

open_wrong : (s : State) (now : Executive) (made kept : Rec) (r : Reading) (n : ℕ) (h : IsOpen s now made kept r) → n ≡ now.taken → (made ≡ kept → ⊥) → IsWrongFrom s (r.recs ++ h.last ∷ []) n
open_wrong s now made kept r n h place other =
    let run : AreRun s r.recs = record { few = omega (arith, h.few); steps = front_steps s r.recs (made ∷ []) h.takes.steps } in
    let own = last_step s r.recs made h.takes.steps in
    last_wrong s r.recs h.last n (omega (arith, place, h.takes.counted, length-append r.recs (made ∷ []))) run (λ (more : AreRun s (r.recs ++ h.last ∷ [])). other (kept_made made h.last kept h.front (one_step (after_from s r.recs) made h.last h.event own (last_step s r.recs h.last more.steps))))

lost : (s : State) (r : Reading) (n : ℕ) → IsLost s r n → IsWrongFrom s (read_so_far r) n
lost s r n (before_last last current w) = wrong_more s r.recs (option_to_list r.current) n w
lost s r n (at_last last current place run wrong) = subst (λ (l : List Rec). IsWrongFrom s l n) (sym (so_far r last current)) (last_wrong s r.recs last n place run (wrong last.effects))

pub some_wrong : (s : State) (now : Executive) (course : Course) (r : Reading) (n : ℕ) → Follows s now course r → IsWrong now.taken course n → IsWrongFrom s (read_so_far r) n
some_wrong s now Begun r n h wrong = absurd wrong
some_wrong s now (Open made kept) r n h wrong = subst (λ (l : List Rec). IsWrongFrom s l n) (sym (so_far r h.last h.current)) (open_wrong s now made kept r n h wrong.0 wrong.1)
some_wrong s now (Wrong m) r n h wrong = subst (λ (k : ℕ). IsWrongFrom s (read_so_far r) k) (sym wrong) (lost s r m h.1)

-- what it says at the end
pub ends_by : (s : State) (now : Executive) (course : Course) (r : Reading) (o : Option ℕ) → Follows s now course r → (o ≡ None → IsRight course) → ((n : ℕ) → o ≡ Some n → IsWrong now.taken course n) → Ends s now (read_so_far r) o
ends_by s now course r None h right wrong = all_right s now course r h (right refl)
ends_by s now course r (Some n) h right wrong = (follows_plan s now course r h, some_wrong s now course r n h (wrong n refl))

-- A head.

abbrev headed : Reading → Rec → Reading
headed r head = record { recs = read_so_far r; current = Some head }

-- behind a record that is wrong
pub head_lost : (s : State) (now : Executive) (course : Course) (r : Reading) (n : ℕ) (head : Rec) → Follows s now course r → IsWrong now.taken course n → Follows s now (Wrong n) (headed r head)
head_lost s now course r n head h wrong = (follows_plan s now course r h, before_last head refl (some_wrong s now course r n h wrong))

refused_wrong : (s : State) (now : Executive) (recs : List Rec) (r : Rec) (event : Event) → TakesRun (fresh s) now recs → length recs ≤ 100000 → r.event ≡ event → (now.limit ≤ now.taken) ⊎ (Contains (enabled now.state) event → ⊥) → AreRun s (recs ++ r ∷ []) → ⊥
refused_wrong s now recs r event takes few same (inl full) =
    let limit : now.limit ≡ 100000 = ap (λ (p : Plan). p.limit) takes.planned in
    one_too_many s recs r (omega (arith, takes.counted, full, few, limit))
refused_wrong s now recs r event takes few same (inr none) = no_such_step s recs r now takes.now (λ (is : IsStep now.state r). none (subst (λ (e : Event). Contains (enabled now.state) e) same is.enabled))

pub head_taken : (s : State) (before after : Executive) (course next : Course) (r : Reading) (number : ℕ) (head : Rec) → Follows s before course r → IsRight course → head.effects ≡ [] → number ≡ length (read_so_far r) + 1 → Opens before after number head next → Follows s after next (headed r head)
head_taken s before after course Begun r number head h right bare place opens = absurd opens
head_taken s before after course (Open made kept) r number head h right bare place opens =
    let so_far = all_right s before course r h right in
    let limit : before.limit ≡ 100000 = ap (λ (p : Plan). p.limit) so_far.0.planned in
    let own : made.event ≡ head.event = ap (λ (z : Rec). z.event) opens.made_is in
    let there : Contains (enabled before.state) made.event = subst (λ (e : Event). Contains (enabled before.state) e) (sym own) opens.there in
    let made_is : made ≡ record_of before.state made.event = opens.made_is ∙ ap (record_of before.state) (sym own) in
    let goes : after ≡ after_step before made.event = subst (λ (e : Event). after ≡ after_step before e) (sym own) opens.goes in
    let none : head.effects ≡ take (suc (length made.effects)) head.effects = bare ∙ ap (take (suc (length made.effects))) (sym bare) in
    record {
      last = head;
      current = refl;
      few = omega (arith, so_far.0.counted, opens.going, limit);
      takes = run_more (fresh s) before after (read_so_far r) made so_far.0 (step_if before.state made made there made_is refl) goes opens.planned;
      event = own;
      front = opens.kept_is ∙ ap (with_effects head) none;
    }
head_taken s before after course (Wrong n) r number head h right bare place opens =
    let so_far = all_right s before course r h right in
    let takes = so_far.0 in
    let run : AreRun s (read_so_far r) = record { few = so_far.1; steps = takes.steps } in
    (ap (λ (e : Executive). plan e) opens.stays ∙ takes.planned, at_last head refl (opens.place ∙ place) run (λ (es : List Effect). refused_wrong s before (read_so_far r) (with_effects head es) head.event takes so_far.1 refl opens.why))

pub course_opened : (before after : Executive) (course : Course) (number : ℕ) (head : Rec) (o : Result Course NoMemory) → IsRight course → IfOk o (λ next. Opens before after number head next) → IfOk o (λ next. (s : State) (r : Reading) → Follows s before course r → head.effects ≡ [] → number ≡ length (read_so_far r) + 1 → Follows s after next (headed r head))
course_opened before after course number head (Ok next) right opens = λ s r h bare place. head_taken s before after course next r number head h right bare place opens
course_opened before after course number head (Err e) right opens = tt

-- An effect.

abbrev effected : Reading → Rec → Effect → Reading
effected r last e = record r { current = Some (with_effects last (last.effects ++ e ∷ [])) }

lost_with : (s : State) (r : Reading) (n : ℕ) (last : Rec) (e : Effect) → r.current ≡ Some last → IsLost s r n → IsLost s (effected r last e) n
lost_with s r n last e is (before_last other current w) = before_last (with_effects last (last.effects ++ e ∷ [])) refl w
lost_with s r n last e is (at_last other current place run wrong) =
    let same : other ≡ last = cc in
    at_last (with_effects last (last.effects ++ e ∷ [])) refl place run (λ (es : List Effect). subst (λ (z : Rec). AreRun s (r.recs ++ with_effects z es ∷ []) → ⊥) same (wrong es))

effect_taken : (s : State) (now : Executive) (course : Course) (r : Reading) (last : Rec) (e : Effect) → Follows s now course r → r.current ≡ Some last → Follows s now (course_with course e) (effected r last e)
effect_taken s now Begun r last e h is = absurd (let none : r.current ≡ None = ap (λ (q : Reading). q.current) h.0 in cc)
effect_taken s now (Open made kept) r last e h is =
    let same : h.last ≡ last = (let both : Some h.last ≡ Some last = sym h.current ∙ is in cc) in
    record {
      last = with_effects last (last.effects ++ e ∷ []);
      current = refl;
      few = h.few;
      takes = h.takes;
      event = h.event ∙ ap (λ (z : Rec). z.event) same;
      front = kept_more (length made.effects) last kept e (h.front ∙ ap (λ (z : Rec). with_effects z (take (suc (length made.effects)) z.effects)) same);
    }
effect_taken s now (Wrong n) r last e h is = (h.0, lost_with s r n last e is h.1)

none_read : (s : State) (now : Executive) (course : Course) (r : Reading) → Follows s now course r → r.current ≡ None → length (read_so_far r) ≡ 0
none_read s now Begun r h is = ap (λ (q : Reading). length (read_so_far q)) h.0
none_read s now (Open made kept) r h is = absurd (let some = h.current in cc)
none_read s now (Wrong n) r h is = none_lost s r n h.1 is where
  none_lost : (s : State) (r : Reading) (n : ℕ) → IsLost s r n → r.current ≡ None → length (read_so_far r) ≡ 0
  none_lost s r n (before_last last current w) is = absurd (cc)
  none_lost s r n (at_last last current place run wrong) is = absurd (cc)

no_count : (n : ℕ) → n ≡ 0 → (n == 0) ≡ true
no_count n h = grind (arith, nat_tests, h)

some_count : (n : ℕ) → 0 < n → (n == 0) ≡ false
some_count n h = grind (arith, nat_tests, h)

effect_by : (s : State) (now : Executive) (p : Progress) (r : Reading) (e : Effect) (current : Option Rec) → r.current ≡ current → IsFollowing s now p r → FollowsLine s now (with_effect p (Some e)) (current >>= λ last. Some (effected r last e))
effect_by s now p r e None is h =
    let none : (p.count == 0) ≡ true = no_count p.count (h.count ∙ none_read s now p.course r h.course is) in
    rw none refl
effect_by s now p r e (Some last) is h =
    let size : length (read_so_far r) ≡ length (r.recs ++ last ∷ []) = ap length (so_far r last is) in
    let some : (p.count == 0) ≡ false = some_count p.count (omega (arith, h.count, size, length-append r.recs (last ∷ []))) in
    let next = with_effects last (last.effects ++ e ∷ []) in
    rw some (effected r last e, (refl, record { count = omega (arith, h.count, size, length-append r.recs (last ∷ []), length-append r.recs (next ∷ [])); course = effect_taken s now p.course r last e h.course is }))

no_effect : (r : Reading) (current : Option Rec) → (current >>= λ last. None >>= λ (e : Effect). Some (effected r last e)) ≡ None
no_effect r None = refl
no_effect r (Some last) = refl

-- what follows the line of an effect
pub effect_followed : (s : State) (now : Executive) (p : Progress) (r : Reading) (o : Option Effect) → IsFollowing s now p r → FollowsLine s now (with_effect p o) (read_with_effect r o)
effect_followed s now p r None h = no_effect r r.current
effect_followed s now p r (Some e) h = effect_by s now p r e r.current refl h
