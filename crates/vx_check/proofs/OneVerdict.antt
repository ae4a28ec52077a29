-- No journal has two verdicts.
use Rattle.std.proofs.Common.{◌≡◌, ℕ, zero, suc, ◌<◌, ◌≤◌, List, [], ◌∷◌, ◌++◌, length, length-append, refl, sym, ap, subst, ◌∙◌, arith, append_assoc}
use Rattle.vx_record.specs.Types.{Rec, System}
use Rattle.vx_record.specs.Runs.{IsRun, first}
use Rattle.vx_journal.specs.declared.journal.Journal.{Journal}
use Rattle.vx_check.proofs.Judging.{front_steps}
use Rattle.vx_check.specs.Verdict.{IsFirstWrong, IsVerdict, of_record, of_run}
use Rattle.vx_check.specs.declared.verdict.Verdict.{Verdict}
use Rattle.vx_check.specs.declared.verdict.Verdict.TheVariants.{Bad}

-- the front of a run is a run
front_run : (system : System) (xs ys : List Rec) → IsRun system (xs ++ ys) → IsRun system xs
front_run system xs ys run =
    let few : length (xs ++ ys) ≤ 100000 = run.few in
    record { few = omega (arith, few, length-append xs ys); steps = front_steps (first system) xs ys run.steps }

-- of two fronts that differ in length the longer begins with the shorter and what follows it
longer : (xs ys : List Rec) (x y : Rec) (us vs : List Rec) → xs ++ x ∷ us ≡ ys ++ y ∷ vs → length xs < length ys → (zs : List Rec) × (ys ≡ xs ++ x ∷ zs)
longer [] [] x y us vs h k = absurd (omega (arith, k))
longer [] (z ∷ ys) x y us vs h k = (ys, cc)
longer (w ∷ xs) [] x y us vs h k = absurd (omega (arith, k))
longer (w ∷ xs) (z ∷ ys) x y us vs h k =
    let tails : xs ++ x ∷ us ≡ ys ++ y ∷ vs = cc in
    let rest = longer xs ys x y us vs tails (omega (arith, k)) in
    let heads : z ≡ w = cc in
    (rest.0, ap (λ (r : Rec). r ∷ ys) heads ∙ ap (λ l. w ∷ l) rest.1)

not_before : (system : System) (recs : List Rec) (n m : ℕ) (a : IsFirstWrong system recs n) (b : IsFirstWrong system recs m) → length a.before < length b.before → ⊥
not_before system recs n m a b less =
    let more = longer a.before b.before a.rec b.rec a.rest b.rest (sym a.split ∙ b.split) less in
    let run : IsRun system (a.before ++ a.rec ∷ more.0) = subst (λ l. IsRun system l) more.1 b.run in
    let same : a.before ++ a.rec ∷ more.0 ≡ (a.before ++ a.rec ∷ []) ++ more.0 = sym (append_assoc a.before (a.rec ∷ []) more.0) in
    a.wrong (front_run system (a.before ++ a.rec ∷ []) more.0 (subst (λ l. IsRun system l) same run))

apart : (m n : ℕ) → (m < n → ⊥) → (n < m → ⊥) → m ≡ n
apart zero zero h k = refl
apart zero (suc n) h k = absurd (h (omega arith))
apart (suc m) zero h k = absurd (k (omega arith))
apart (suc m) (suc n) h k = ap suc (apart m n (λ l. h (omega (arith, l))) (λ l. k (omega (arith, l))))

one_place : (system : System) (recs : List Rec) (n m : ℕ) → IsFirstWrong system recs n → IsFirstWrong system recs m → n ≡ m
one_place system recs n m a b =
    let same : length a.before ≡ length b.before = apart (length a.before) (length b.before) (not_before system recs n m a b) (not_before system recs m n b a) in
    omega (arith, a.place, b.place, same)

not_both : (system : System) (recs : List Rec) (n : ℕ) → IsFirstWrong system recs n → IsRun system recs → ⊥
not_both system recs n a run =
    let same : recs ≡ (a.before ++ a.rec ∷ []) ++ a.rest = a.split ∙ sym (append_assoc a.before (a.rec ∷ []) a.rest) in
    a.wrong (front_run system (a.before ++ a.rec ∷ []) a.rest (subst (λ l. IsRun system l) same run))

pub one_verdict : (j : Journal) (v w : Verdict) → IsVerdict j v → IsVerdict j w → v ≡ w
one_verdict j v w (of_run r e) (of_run s f) = e ∙ sym f
one_verdict j v w (of_run r e) (of_record n a f) = absurd (not_both j.system j.recs n a r)
one_verdict j v w (of_record n a e) (of_run r f) = absurd (not_both j.system j.recs n a r)
one_verdict j v w (of_record n a e) (of_record m b f) = e ∙ ap Bad (one_place j.system j.recs n m a b) ∙ sym f
