-- Records that an executive takes, and the verdict on them.
use Rattle.std.proofs.Common.{◌≡◌, ℕ, zero, suc, ◌+◌, ◌<◌, ◌≤◌, Bool, true, false, List, [], ◌∷◌, ◌++◌, length, take, drop, slice_index_or, length-append, Some, Result, Ok, Err, IfOk, Contains, IsTrue, refl, sym, ap, subst, ◌∙◌, arith}
use Rattle.std.proofs.Math.Seq.{drop-cons}
use Rattle.std.proofs.lemmas.List.{length-take-le, take-append-drop, take_more}
use Rattle.std.proofs.lemmas.Bool.Decides.{nat_tests}
use Rattle.vx_record.specs.Types.{NoMemory, Rec}
use Rattle.vx_record.specs.State.{State}
use Rattle.vx_record.specs.Events.{enabled, step}
use Rattle.vx_record.specs.Runs.{AreSteps, IsRun, IsStep, after, after_from, end_of, first, record_of}
use Rattle.vx_exec.proofs.Runs.{after_more, steps_more}
use Rattle.vx_exec.specs.Taken.{TakesRun}
use Rattle.vx_exec.specs.View.{Executive, Plan, after_step, plan}
use Rattle.vx_journal.specs.declared.journal.Journal.{Journal}
use Rattle.vx_journal.specs.declared.journal.Part.{Part}
use Rattle.vx_check.specs.Judging.{AreRun, JudgesRecords, IsWrongFrom, at_record, by_run, most_for}
use Rattle.vx_check.specs.Verdict.{IsVerdict, limit_for, of_record, of_run, part_verdict}
use Rattle.vx_check.specs.declared.verdict.Verdict.{Verdict}
use Rattle.vx_check.specs.declared.verdict.Verdict.TheVariants.{Bad}

-- One record.

-- what the machine makes of an enabled event is a step, and no other record of the event is
pub step_if : (s : State) (r made : Rec) → Contains (enabled s) r.event → made ≡ record_of s r.event → made ≡ r → IsStep s r
step_if s r made there is same =
    let own : r ≡ record_of s r.event = sym same ∙ is in
    record { enabled = there; answer = ap (λ (z : Rec). z.answer) own; effects = ap (λ (z : Rec). z.effects) own }

-- Records behind one another.

pub last_step : (s : State) (rs : List Rec) (r : Rec) → AreSteps s (rs ++ r ∷ []) → IsStep (after_from s rs) r
last_step s [] r h = h.0
last_step s (x ∷ rs) r h = last_step (step s x.event).after rs r h.1

pub run_more : (before now next : Executive) (rs : List Rec) (r : Rec) → TakesRun before now rs → IsStep now.state r → next ≡ after_step now r.event → plan next ≡ plan now → TakesRun before next (rs ++ r ∷ [])
run_more before now next rs r so_far is goes planned =
    let here : IsStep (after_from before.state rs) r = subst (λ (s : State). IsStep s r) so_far.now is in
    record {
      steps = steps_more before.state rs r so_far.steps here;
      now = ap (λ (e : Executive). e.state) goes ∙ ap (λ (s : State). (step s r.event).after) so_far.now ∙ sym (after_more before.state rs r);
      counted = omega (arith, ap (λ (e : Executive). e.taken) goes, so_far.counted, length-append rs (r ∷ []));
      planned = planned ∙ so_far.planned;
    }

pub front_steps : (s : State) (xs ys : List Rec) → AreSteps s (xs ++ ys) → AreSteps s xs
front_steps s [] ys h = tt
front_steps s (x ∷ xs) ys h = (h.0, front_steps (step s x.event).after xs ys h.1)

-- The verdict.

pub no_such_step : (s : State) (rs : List Rec) (r : Rec) (now : Executive) → now.state ≡ after_from s rs → (IsStep now.state r → ⊥) → AreRun s (rs ++ r ∷ []) → ⊥
no_such_step s rs r now is none run = none (subst (λ (t : State). IsStep t r) (sym is) (last_step s rs r run.steps))

pub one_too_many : (s : State) (rs : List Rec) (r : Rec) → length rs ≡ 100000 → AreRun s (rs ++ r ∷ []) → ⊥
one_too_many s rs r full run =
    let few : length (rs ++ r ∷ []) ≤ 100000 = run.few in
    absurd (omega (arith, few, full, length-append rs (r ∷ [])))

pub most_is : (n : ℕ) → n ≤ 100000 → most_for n ≡ limit_for n
most_is zero h = refl
most_is (suc n) h = grind (arith, nat_tests, h)

pub wrong_verdict : (j : Journal) (n : ℕ) → IsWrongFrom (first j.system) j.recs n → IsVerdict j (Bad n)
wrong_verdict j n w = of_record n (record {
  before = w.before;
  rec = w.rec;
  rest = w.rest;
  split = w.split;
  place = w.place;
  run = record { few = w.run.few; steps = w.run.steps };
  wrong = λ (r : IsRun j.system (w.before ++ w.rec ∷ [])). w.wrong (record { few = r.few; steps = r.steps });
}) refl

pub run_is_judged : (j : Journal) (before now : Executive) (v : Verdict) → before ≡ record { state = first j.system; limit = most_for (length j.recs); taken = 0 } → TakesRun before now j.recs → length j.recs ≤ 100000 → v ≡ part_verdict now.state now.taken j.part j.trailer (end_of now.limit now.taken now.state) → IsVerdict j v
run_is_judged j before now v begun takes few is =
    let n : ℕ = length j.recs in
    let run : TakesRun (record { state = first j.system; limit = most_for n; taken = 0 }) now j.recs = subst (λ (e : Executive). TakesRun e now j.recs) begun takes in
    let taken : now.taken ≡ n = omega (arith, run.counted) in
    let limit : now.limit ≡ limit_for n = ap (λ (p : Plan). p.limit) run.planned ∙ most_is n few in
    let by_state : v ≡ part_verdict (after j.system j.recs) now.taken j.part j.trailer (end_of now.limit now.taken (after j.system j.recs)) = is ∙ ap (λ (s : State). part_verdict s now.taken j.part j.trailer (end_of now.limit now.taken s)) run.now in
    let by_count : v ≡ part_verdict (after j.system j.recs) n j.part j.trailer (end_of now.limit n (after j.system j.recs)) = by_state ∙ ap (λ (k : ℕ). part_verdict (after j.system j.recs) k j.part j.trailer (end_of now.limit k (after j.system j.recs))) taken in
    of_run (record { few = few; steps = run.steps }) (by_count ∙ ap (λ (k : ℕ). part_verdict (after j.system j.recs) n j.part j.trailer (end_of k n (after j.system j.recs))) limit)

-- Where a loop over records stands.

-- the first of them are taken, and there are no more than the limit
pub record Taking (before now : Executive) (recs : List Rec) (most : ℕ) : Type 0 where
  pub takes : TakesRun before now recs
  pub few : length recs ≤ most

within : (n k : ℕ) → k ≤ most_for n → k ≤ 100000
within n k h = grind (arith, nat_tests, h)

full_most : (n k m : ℕ) → k ≡ most_for n → n ≡ k + suc m → k ≡ 100000
full_most n k m h e = grind (arith, nat_tests, h, e)

pub wrong_step : (before now : Executive) (recs rs rest : List Rec) (r : Rec) → Taking before now rs (most_for (length recs)) → before.taken ≡ 0 → recs ≡ rs ++ r ∷ rest → (IsStep now.state r → ⊥) → IsWrongFrom before.state recs (now.taken + 1)
wrong_step before now recs rs rest r so_far begun split none = record {
  before = rs;
  rec = r;
  rest = rest;
  split = split;
  place = omega (arith, so_far.takes.counted, begun);
  run = record { few = within (length recs) (length rs) so_far.few; steps = so_far.takes.steps };
  wrong = no_such_step before.state rs r now so_far.takes.now none;
}

pub wrong_count : (before now : Executive) (recs rs rest : List Rec) (r : Rec) → Taking before now rs (most_for (length recs)) → before.taken ≡ 0 → recs ≡ rs ++ r ∷ rest → now.taken ≡ most_for (length recs) → IsWrongFrom before.state recs (now.taken + 1)
wrong_count before now recs rs rest r so_far begun split full =
    let count : length rs ≡ most_for (length recs) = omega (arith, so_far.takes.counted, begun, full) in
    let more : length recs ≡ length rs + suc (length rest) = ap length split ∙ length-append rs (r ∷ rest) in
    record {
      before = rs;
      rec = r;
      rest = rest;
      split = split;
      place = omega (arith, so_far.takes.counted, begun);
      run = record { few = within (length recs) (length rs) so_far.few; steps = so_far.takes.steps };
      wrong = one_too_many before.state rs r (full_most (length recs) (length rs) (length rest) count more);
    }

-- the limit is as it was
pub limit_kept : (before now : Executive) (rs : List Rec) (most : ℕ) → Taking before now rs most → before.limit ≡ most → now.limit ≡ most
limit_kept before now rs most so_far is = ap (λ (p : Plan). p.limit) so_far.takes.planned ∙ is

pub no_step : (s : State) (r : Rec) (same : Bool) → same ≡ false → (IsTrue same → IsStep s r) × (IsStep s r → IsTrue same) → IsStep s r → ⊥
no_step s r true is h k = absurd (cc)
no_step s r false is h k = absurd (cc (h.1 k))

pub split_at : (recs : List Rec) (i : ℕ) (r : Rec) → i < length recs → r ≡ slice_index_or recs i r → recs ≡ take i recs ++ r ∷ drop (i + 1) recs
split_at recs i r h is =
    let one : suc i ≡ i + 1 = omega arith in
    sym (take-append-drop i recs) ∙ ap (λ z. take i recs ++ z) (drop-cons recs i r h ∙ ap (λ (z : Rec). z ∷ drop (suc i) recs) (sym is) ∙ ap (λ (n : ℕ). r ∷ drop n recs) one)

-- the number that is told is this one
pub found_at : (s : State) (recs : List Rec) (taken told n : ℕ) → told ≡ taken → Some (told + 1) ≡ Some n → IsWrongFrom s recs (taken + 1) → IsWrongFrom s recs n
found_at s recs taken told n same is h =
    let number : taken + 1 ≡ n = sym (ap (λ (k : ℕ). k + 1) same) ∙ cc in
    subst (λ (k : ℕ). IsWrongFrom s recs k) number h

apart_below : (i most : ℕ) → i ≤ most → (i ≡ most → ⊥) → i < most
apart_below i most h k = omega (arith, h, k)

below_most : (taken limit i most : ℕ) → taken ≡ i → limit ≡ most → i ≤ most → (taken ≡ limit → ⊥) → i < most
below_most taken limit i most count is within going = apart_below i most within (λ same. going (count ∙ same ∙ sym is))

-- one more is taken
pub one_taken : (before now next : Executive) (recs : List Rec) (i : ℕ) (r : Rec) (most : ℕ) → Taking before now (take i recs) most → i < length recs → r ≡ slice_index_or recs i r → before.taken ≡ 0 → before.limit ≡ most → (now.taken ≡ now.limit → ⊥) → IsStep now.state r → next ≡ after_step now r.event → plan next ≡ plan now → Taking before next (take (i + 1) recs) most
one_taken before now next recs i r most so_far h is begun limited going step_is goes planned =
    let front : length (take i recs) ≡ i = length-take-le i recs (omega (arith, h)) in
    let limit : now.limit ≡ most = limit_kept before now (take i recs) most so_far limited in
    let count : now.taken ≡ i = omega (arith, so_far.takes.counted, begun, front) in
    let below : i < most = below_most now.taken now.limit i most count limit (omega (arith, so_far.few, front)) going in
    let more : take (i + 1) recs ≡ take i recs ++ r ∷ [] = take_more recs i r h ∙ ap (λ (z : Rec). take i recs ++ z ∷ []) (sym is) in
    record {
      takes = subst (λ l. TakesRun before next l) (sym more) (run_more before now next (take i recs) r so_far.takes step_is goes planned);
      few = omega (arith, below, length-take-le (i + 1) recs (omega (arith, h)));
    }

-- The whole.

verdict_of : (j : Journal) (v : Verdict) → JudgesRecords (first j.system) j.recs j.part j.trailer v → IsVerdict j v
verdict_of j v (at_record n w is) = subst (IsVerdict j) (sym is) (wrong_verdict j n w)
verdict_of j v (by_run now takes few is) = run_is_judged j (record { state = first j.system; limit = most_for (length j.recs); taken = 0 }) now v refl takes few is

judged_verdict : (j : Journal) (r : Result Verdict NoMemory) → IfOk r (λ v. JudgesRecords (first j.system) j.recs j.part j.trailer v) → IfOk r (λ v. IsVerdict j v)
judged_verdict j (Ok v) h = verdict_of j v h
judged_verdict j (Err e) h = h

-- by the executive that has taken the records
pub run_judged : (before now : Executive) (recs : List Rec) (part : Part) (trailer : List ℕ) (r : Result Verdict NoMemory) → before.taken ≡ 0 → before.limit ≡ most_for (length recs) → TakesRun before now recs → length recs ≤ 100000 → IfOk r (λ v. v ≡ part_verdict now.state now.taken part trailer (end_of now.limit now.taken now.state)) → IfOk r (λ v. JudgesRecords before.state recs part trailer v)
run_judged before now recs part trailer (Ok v) begun limited takes few is =
    let first_of : before ≡ record { state = before.state; limit = most_for (length recs); taken = 0 } = ap (λ n. let e : Executive = record { state = before.state; limit = n; taken = before.taken } in e) limited ∙ ap (λ n. let e : Executive = record { state = before.state; limit = most_for (length recs); taken = n } in e) begun in
    by_run now (subst (λ (e : Executive). TakesRun e now recs) first_of takes) few is
run_judged before now recs part trailer (Err e) begun limited takes few is = is

-- by an executive at its first state, over the journal's records and trailer
pub checked : (j : Journal) (r : Result Verdict NoMemory) (s : State) (recs : List Rec) (trailer : List ℕ) → s ≡ first j.system → recs ≡ j.recs → trailer ≡ j.trailer → IfOk r (λ v. JudgesRecords s recs j.part trailer v) → IfOk r (λ v. IsVerdict j v)
checked j r s recs trailer begun same behind h =
    let one = subst (λ (x : State). IfOk r (λ v. JudgesRecords x recs j.part trailer v)) begun h in
    let two = subst (λ (xs : List Rec). IfOk r (λ v. JudgesRecords (first j.system) xs j.part trailer v)) same one in
    judged_verdict j r (subst (λ (bs : List ℕ). IfOk r (λ v. JudgesRecords (first j.system) j.recs j.part bs v)) behind two)
