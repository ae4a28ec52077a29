-- The rows of a summary are those of its runs: each run has a row, and each row is of a run.
use Rattle.std.proofs.Common.{◌≡◌, ℕ, zero, suc, ◌<◌, ◌≤◌, List, [], ◌∷◌, length, Bool, true, false, cond, refl, sym, ap, subst, ◌∙◌, map, arith, inl, inr, ◌⊎◌, slice_index_or, Contains, eq-eqb}
use Rattle.std.specs.Prelude.{◌==◌, filter}
use Rattle.std.specs.List.{AllByRecursion, list_any}
use Rattle.std.proofs.lemmas.Bool.{or_cases, cases_eq}
use Rattle.std.proofs.lemmas.List.Elements.{Contains-append_left, Contains-append_right}
use Rattle.vx_explore.specs.declared.found.Found.{Found}
use Rattle.vx_explore.specs.Runs.{Run, firsts, of_length, row_of, shortest_first, summary}
use Rattle.vx_record.proofs.Lists.{all_append, all_filter}

-- Lists.

pub contains_first : {A : Type 0} (x : A) (xs : List A) → Contains (x ∷ xs) x
contains_first x xs = (0, omega arith, refl)

pub contains_more : {A : Type 0} (y : A) (xs : List A) (x : A) → Contains xs x → Contains (y ∷ xs) x
contains_more y xs x h = (suc h.0, let within = h.1 in omega arith, h.2)

contains_filter : {A : Type 0} (test : A → Bool) (xs : List A) (x : A) → test x ≡ true → (k : ℕ) → k < length xs → slice_index_or xs k x ≡ x → Contains (filter test xs) x
contains_filter test [] x passes k within here = absurd (omega arith)
contains_filter test (y ∷ xs) x passes zero within here = subst (λ z. Contains (cond (test z) (z ∷ filter test xs) (filter test xs)) x) (sym here) (rw passes (contains_first x (filter test xs)))
contains_filter test (y ∷ xs) x passes (suc k) within here = at (test y) (contains_filter test xs x passes k (omega arith) here)
  where
    at : (b : Bool) → Contains (filter test xs) x → Contains (cond b (y ∷ filter test xs) (filter test xs)) x
    at true rest = contains_more y (filter test xs) x rest
    at false rest = rest

-- Runs, the shortest first.

module _ {S : Type 0} where
  pub contains_shortest : (n : ℕ) (rs : List (Run S)) (r : Run S) → length r.picks ≤ n → Contains rs r → Contains (shortest_first n rs) r
  contains_shortest zero rs r within h = contains_filter (λ r. length r.picks == 0) rs r (eq-eqb (length r.picks) 0 (omega arith)) h.0 h.1 h.2
  contains_shortest (suc n) rs r within h =
      elim (cases_eq (length r.picks) (suc n)) [
        | inl same ↦ Contains-append_right (shortest_first n rs) (of_length (suc n) rs) r
            (contains_filter (λ r. length r.picks == suc n) rs r (eq-eqb (length r.picks) (suc n) same) h.0 h.1 h.2)
        | inr other ↦ Contains-append_left (shortest_first n rs) (of_length (suc n) rs) r (contains_shortest n rs r (omega arith) h)
      ]

  pub all_shortest : (P : Run S → Type 0) (n : ℕ) (rs : List (Run S)) → AllByRecursion P rs → AllByRecursion P (shortest_first n rs)
  all_shortest P zero rs a = all_filter P (λ r. length r.picks == 0) rs a
  all_shortest P (suc n) rs a =
      all_append P (shortest_first n rs) (of_length (suc n) rs) (all_shortest P n rs a) (all_filter P (λ r. length r.picks == suc n) rs a)

-- Rows.

module _ {S E : Type 0} (ending_of : S → E) (same : E → E → Bool) where
  all_firsts : (P : Run S → Type 0) (seen : List E) (rs : List (Run S)) → AllByRecursion P rs → AllByRecursion P (firsts ending_of same seen rs)
  all_firsts P seen [] a = tt
  all_firsts P seen (r ∷ rs) a = at (list_any (same (ending_of r.last)) seen) (all_firsts P seen rs a.1) (all_firsts P (ending_of r.last ∷ seen) rs a.1)
    where
      at : (b : Bool) → AllByRecursion P (firsts ending_of same seen rs) → AllByRecursion P (firsts ending_of same (ending_of r.last ∷ seen) rs)
          → AllByRecursion P (cond b (firsts ending_of same seen rs) (r ∷ firsts ending_of same (ending_of r.last ∷ seen) rs))
      at true here more = here
      at false here more = (a.0, more)

  pub all_rows : (Q : Found E → Type 0) (all rs : List (Run S)) → AllByRecursion (λ r. Q (row_of ending_of same all r)) rs → AllByRecursion Q (map (row_of ending_of same all) rs)
  all_rows Q all [] a = tt
  all_rows Q all (r ∷ rs) a = (a.0, all_rows Q all rs a.1)

  -- what holds of the row of each run holds of each row
  pub all_summary : (Q : Found E → Type 0) (rs : List (Run S)) → AllByRecursion (λ r. Q (row_of ending_of same rs r)) rs → AllByRecursion Q (summary ending_of same rs)
  all_summary Q rs a = all_rows Q rs (firsts ending_of same [] rs) (all_firsts (λ r. Q (row_of ending_of same rs r)) [] rs a)

  module _ (equal : (d e : E) → same d e ≡ true → d ≡ e) where
    abbrev what : Found E → E
    what row = row.what

    abbrev rows_of : List (Run S) → List (Run S) → List E
    rows_of all rs = map what (map (row_of ending_of same all) rs)

    -- a run's ending was seen before, or has a row
    found : (all : List (Run S)) (seen : List E) (rs : List (Run S)) (e : E) (k : ℕ) (r : Run S) → k < length rs → slice_index_or rs k r ≡ r → ending_of r.last ≡ e
        → (list_any (same e) seen ≡ true) ⊎ Contains (rows_of all (firsts ending_of same seen rs)) e
    found all seen [] e k r within here is_e = absurd (omega arith)
    found all seen (x ∷ rs) e zero r within here is_e = at (list_any (same (ending_of x.last)) seen) refl
      where
        is_it : ending_of x.last ≡ e
        is_it = ap (λ (y : Run S). ending_of y.last) here ∙ is_e

        at : (b : Bool) → list_any (same (ending_of x.last)) seen ≡ b
            → (list_any (same e) seen ≡ true) ⊎ Contains (rows_of all (cond b (firsts ending_of same seen rs) (x ∷ firsts ending_of same (ending_of x.last ∷ seen) rs))) e
        at true before = inl (ap (λ y. list_any (same y) seen) (sym is_it) ∙ before)
        at false new = inr (subst (λ y. Contains (ending_of x.last ∷ rows_of all (firsts ending_of same (ending_of x.last ∷ seen) rs)) y) is_it (contains_first (ending_of x.last) (rows_of all (firsts ending_of same (ending_of x.last ∷ seen) rs))))
    found all seen (x ∷ rs) e (suc k) r within here is_e =
        at (list_any (same (ending_of x.last)) seen) (found all seen rs e k r (omega arith) here is_e) (found all (ending_of x.last ∷ seen) rs e k r (omega arith) here is_e)
      where
        at : (b : Bool) → (list_any (same e) seen ≡ true) ⊎ Contains (rows_of all (firsts ending_of same seen rs)) e
            → (list_any (same e) (ending_of x.last ∷ seen) ≡ true) ⊎ Contains (rows_of all (firsts ending_of same (ending_of x.last ∷ seen) rs)) e
            → (list_any (same e) seen ≡ true) ⊎ Contains (rows_of all (cond b (firsts ending_of same seen rs) (x ∷ firsts ending_of same (ending_of x.last ∷ seen) rs))) e
        at true old new = old
        at false old new =
            elim new [
              | inl before ↦ elim (or_cases (same e (ending_of x.last)) (list_any (same e) seen) before) [
                | inl is_x ↦ inr (subst (λ y. Contains (ending_of x.last ∷ rows_of all (firsts ending_of same (ending_of x.last ∷ seen) rs)) y) (sym (equal e (ending_of x.last) is_x)) (contains_first (ending_of x.last) (rows_of all (firsts ending_of same (ending_of x.last ∷ seen) rs))))
                | inr earlier ↦ inl earlier
              ]
              | inr there ↦ inr (contains_more (ending_of x.last) (rows_of all (firsts ending_of same (ending_of x.last ∷ seen) rs)) e there)
            ]

    -- the ending of each run has a row
    pub contains_summary : (rs : List (Run S)) (r : Run S) → Contains rs r → Contains (map what (summary ending_of same rs)) (ending_of r.last)
    contains_summary rs r h =
        elim (found rs [] rs (ending_of r.last) h.0 r h.1 h.2 refl) [
          | inl none ↦ absurd (cc)
          | inr there ↦ there
        ]
