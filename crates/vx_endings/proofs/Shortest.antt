-- A row's places are as few as the records of any run that ends so.
use Rattle.std.proofs.Common.{◌≡◌, ℕ, zero, suc, ◌≤◌, List, [], ◌∷◌, ◌++◌, length, Bool, true, false, cond, refl, sym, ap, subst, ◌∙◌, arith, eqb-true, inl, inr, ◌⊎◌, ◌<◌, slice_index_or}
use Rattle.std.specs.Prelude.{◌==◌, Contains}
use Rattle.std.specs.List.{AllByRecursion, list_any}
use Rattle.std.proofs.lemmas.Bool.{or_left, or_right}
use Rattle.vx_record.specs.Types.{Rec, System}
use Rattle.vx_record.specs.State.{State}
use Rattle.vx_explore.specs.declared.found.Found.{Found}
use Rattle.vx_explore.specs.Runs.{Run, firsts, of_length, row_of, shortest_first}
use Rattle.vx_endings.specs.declared.ending.RunEnding.{RunEnding}
use Rattle.vx_endings.specs.Endings.{ending_at, endings, is_same}
use Rattle.vx_endings.specs.EndsSo.{EndsSo}
use Rattle.vx_endings.specs.Interleavings.{all_runs}
use Rattle.vx_endings.specs.Same.{same_as_itself}
use Rattle.vx_endings.proofs.Rows.{all_rows, contains_first, contains_more}
use Rattle.vx_endings.proofs.Told.{run_of}
use Rattle.vx_record.proofs.Lists.{all_weaker, all_append}

module _ {S : Type 0} where
  -- each run is as short as those behind it
  abbrev Rises : List (Run S) → Type 0
  Rises [] = Unit {0}
  Rises (r ∷ rs) = AllByRecursion (λ t. length r.picks ≤ length t.picks) rs × Rises rs

  rises_append : (n : ℕ) (rs ts : List (Run S)) → AllByRecursion (λ r. length r.picks ≤ n) rs → AllByRecursion (λ t. n ≤ length t.picks) ts
      → Rises rs → Rises ts → Rises (rs ++ ts)
  rises_append n [] ts below above a b = b
  rises_append n (r ∷ rs) ts below above a b = (
    all_append (λ t. length r.picks ≤ length t.picks) rs ts a.0
        (all_weaker (λ t. n ≤ length t.picks) (λ t. length r.picks ≤ length t.picks) (λ t h. let few = below.0 in omega arith) ts above),
    rises_append n rs ts below.1 above a.1 b,
  )

  all_of_length : (k : ℕ) (rs : List (Run S)) → AllByRecursion (λ r. length r.picks ≡ k) (of_length k rs)
  all_of_length k [] = tt
  all_of_length k (r ∷ rs) = at (length r.picks == k) refl (all_of_length k rs)
    where
      at : (b : Bool) → (length r.picks == k) ≡ b → AllByRecursion (λ r. length r.picks ≡ k) (of_length k rs)
          → AllByRecursion (λ r. length r.picks ≡ k) (cond b (r ∷ of_length k rs) (of_length k rs))
      at true same rest = (eqb-true (length r.picks) k same, rest)
      at false other rest = rest

  rises_equal : (k : ℕ) (rs : List (Run S)) → AllByRecursion (λ r. length r.picks ≡ k) rs → Rises rs
  rises_equal k [] a = tt
  rises_equal k (r ∷ rs) a = (
    all_weaker (λ t. length t.picks ≡ k) (λ t. length r.picks ≤ length t.picks) (λ t h. let here = a.0 in omega arith) rs a.1,
    rises_equal k rs a.1,
  )

  all_short : (n : ℕ) (rs : List (Run S)) → AllByRecursion (λ r. length r.picks ≤ n) (shortest_first n rs)
  all_short zero rs = all_weaker (λ r. length r.picks ≡ 0) (λ r. length r.picks ≤ 0) (λ r h. omega arith) (of_length 0 rs) (all_of_length 0 rs)
  all_short (suc n) rs =
      all_append (λ r. length r.picks ≤ suc n) (shortest_first n rs) (of_length (suc n) rs)
      (all_weaker (λ r. length r.picks ≤ n) (λ r. length r.picks ≤ suc n) (λ r h. omega arith) (shortest_first n rs) (all_short n rs))
      (all_weaker (λ r. length r.picks ≡ suc n) (λ r. length r.picks ≤ suc n) (λ r h. omega arith) (of_length (suc n) rs) (all_of_length (suc n) rs))

  rises_shortest : (n : ℕ) (rs : List (Run S)) → Rises (shortest_first n rs)
  rises_shortest zero rs = rises_equal 0 (of_length 0 rs) (all_of_length 0 rs)
  rises_shortest (suc n) rs =
      rises_append n (shortest_first n rs) (of_length (suc n) rs) (all_short n rs)
      (all_weaker (λ r. length r.picks ≡ suc n) (λ r. n ≤ length r.picks) (λ r h. omega arith) (of_length (suc n) rs) (all_of_length (suc n) rs))
      (rises_shortest n rs) (rises_equal (suc n) (of_length (suc n) rs) (all_of_length (suc n) rs))

-- Lists.

all_at : {A : Type 0} (P : A → Type 0) (xs : List A) (x : A) (k : ℕ) → AllByRecursion P xs → k < length xs → slice_index_or xs k x ≡ x → P x
all_at P [] x k a within here = absurd (omega arith)
all_at P (y ∷ xs) x zero a within here = subst P here a.0
all_at P (y ∷ xs) x (suc k) a within here = all_at P xs x k a.1 (omega arith) here

all_contained : {A : Type 0} (xs : List A) → AllByRecursion (Contains xs) xs
all_contained [] = tt
all_contained (x ∷ xs) = (contains_first x xs, all_weaker (Contains xs) (Contains (x ∷ xs)) (λ y h. contains_more x xs y h) xs (all_contained xs))

first_or_more : {A : Type 0} (y : A) (xs : List A) (x : A) (k : ℕ) → k < length (y ∷ xs) → slice_index_or (y ∷ xs) k x ≡ x → (y ≡ x) ⊎ Contains xs x
first_or_more y xs x zero within here = inl here
first_or_more y xs x (suc k) within here = inr (k, (omega arith), here)

module _ {S E : Type 0} (ending_of : S → E) (same : E → E → Bool) (itself : (e : E) → same e e ≡ true) where
  -- no run of these that ends as r does is shorter
  abbrev IsLeast : List (Run S) → Run S → Type 0
  IsLeast all r = AllByRecursion (λ t. ending_of t.last ≡ ending_of r.last → length r.picks ≤ length t.picks) all

  -- its ending was seen, or it is still to come
  abbrev IsSeenOr : List E → List (Run S) → Run S → Type 0
  IsSeenOr seen rs t = (list_any (same (ending_of t.last)) seen ≡ true) ⊎ Contains rs t

  least : (all : List (Run S)) (seen : List E) (rs : List (Run S)) → Rises rs → AllByRecursion (IsSeenOr seen rs) all → AllByRecursion (IsLeast all) (firsts ending_of same seen rs)
  least all seen [] rises known = tt
  least all seen (r ∷ rs) rises known =
      at (list_any (same (ending_of r.last)) seen) refl
      (λ k. least all seen rs rises.1 k) (λ k. least all (ending_of r.last ∷ seen) rs rises.1 k)
    where
      -- r's ending was seen
      still : list_any (same (ending_of r.last)) seen ≡ true → (t : Run S) → IsSeenOr seen (r ∷ rs) t → IsSeenOr seen rs t
      still yes' t (inl before) = inl before
      still yes' t (inr h) =
          elim (first_or_more r rs t h.0 h.1 h.2) [
            | inl is_t ↦ inl (ap (λ (x : Run S). list_any (same (ending_of x.last)) seen) (sym is_t) ∙ yes')
            | inr later ↦ inr later
          ]

      -- r's ending is seen now
      now : (t : Run S) → IsSeenOr seen (r ∷ rs) t → IsSeenOr (ending_of r.last ∷ seen) rs t
      now t (inl before) = inl (or_right (same (ending_of t.last) (ending_of r.last)) (list_any (same (ending_of t.last)) seen) before)
      now t (inr h) =
          elim (first_or_more r rs t h.0 h.1 h.2) [
            | inl is_t ↦ inl (or_left (same (ending_of t.last) (ending_of r.last)) (list_any (same (ending_of t.last)) seen)
                (ap (λ (x : Run S). same (ending_of x.last) (ending_of r.last)) (sym is_t) ∙ itself (ending_of r.last)))
            | inr later ↦ inr later
          ]

      -- r is the first that ends so
      here : list_any (same (ending_of r.last)) seen ≡ false → (t : Run S) → IsSeenOr seen (r ∷ rs) t → ending_of t.last ≡ ending_of r.last → length r.picks ≤ length t.picks
      here new t (inl before) is = absurd (let twice : false ≡ true = sym new ∙ ap (λ e. list_any (same e) seen) (sym is) ∙ before in cc)
      here new t (inr h) is =
          elim (first_or_more r rs t h.0 h.1 h.2) [
            | inl is_t ↦ let len : length r.picks ≡ length t.picks = ap (λ (x : Run S). length x.picks) is_t in omega arith
            | inr later ↦ all_at (λ t. length r.picks ≤ length t.picks) rs t later.0 rises.0 later.1 later.2
          ]

      at : (b : Bool) → list_any (same (ending_of r.last)) seen ≡ b
          → (AllByRecursion (IsSeenOr seen rs) all → AllByRecursion (IsLeast all) (firsts ending_of same seen rs))
          → (AllByRecursion (IsSeenOr (ending_of r.last ∷ seen) rs) all → AllByRecursion (IsLeast all) (firsts ending_of same (ending_of r.last ∷ seen) rs))
          → AllByRecursion (IsLeast all) (cond b (firsts ending_of same seen rs) (r ∷ firsts ending_of same (ending_of r.last ∷ seen) rs))
      at true old rest more = rest (all_weaker (IsSeenOr seen (r ∷ rs)) (IsSeenOr seen rs) (still old) all known)
      at false new rest more = (
        all_weaker (IsSeenOr seen (r ∷ rs)) (λ t. ending_of t.last ≡ ending_of r.last → length r.picks ≤ length t.picks) (here new) all known,
        more (all_weaker (IsSeenOr seen (r ∷ rs)) (IsSeenOr (ending_of r.last ∷ seen) rs) now all known),
      )

  pub least_first : (all : List (Run S)) → Rises all → AllByRecursion (IsLeast all) (firsts ending_of same [] all)
  least_first all rises = least all [] all rises (all_weaker (Contains all) (IsSeenOr [] all) (λ t h. inr h) all (all_contained all))

pub no_shorter_run : (system : System) (limit : ℕ)
    → AllByRecursion (λ row. (recs : List Rec) → EndsSo system limit recs row.what → length row.picks ≤ length recs) (endings system limit)
no_shorter_run system limit =
    all_rows ending_at is_same Q all (firsts ending_at is_same [] all)
    (all_weaker (IsLeast ending_at is_same same_as_itself all) (λ r. Q (row_of ending_at is_same all r)) shorter (firsts ending_at is_same [] all)
    (least_first ending_at is_same same_as_itself all (rises_shortest limit (all_runs system limit))))
  where
    all : List (Run State)
    all = shortest_first limit (all_runs system limit)

    Q : Found RunEnding → Type 0
    Q row = (recs : List Rec) → EndsSo system limit recs row.what → length row.picks ≤ length recs

    shorter : (r : Run State) → IsLeast ending_at is_same same_as_itself all r → (recs : List Rec) → EndsSo system limit recs (ending_at r.last) → length r.picks ≤ length recs
    shorter r few recs e =
        let run = run_of system limit recs (ending_at r.last) e in
        let count = run.1.count in
        let there = run.1.there in
        let less = all_at (λ t. ending_at t.last ≡ ending_at r.last → length r.picks ≤ length t.picks) all run.0 there.0 few there.1 there.2 run.1.ends in
        omega arith
