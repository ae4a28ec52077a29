-- What the rows of a summary are (`Tells`). It determines them, and each change of the code keeps it.
use mathlib.Core.Bool.{and-true}
use Rattle.std.proofs.Common.{◌≡◌, ℕ, zero, suc, ◌+◌, ◌*◌, ◌<◌, ◌≤◌, min, List, [], ◌∷◌, ◌++◌, length, get_or, set, Bool, true, false, cond, not, Option, Some, None, refl, sym, ap, ◌∙◌, arith}
use Rattle.std.specs.Prelude.{◌||◌, ◌&&◌, map, count_by}
use Rattle.std.specs.List.{list_any}
use Rattle.std.proofs.lemmas.List.Sums.{sum_by-cons}
use Rattle.vx_explore.specs.declared.found.Found.{Found}
use Rattle.vx_explore.specs.Runs.{Run, firsts, row_of, summary}
use Rattle.vx_explore.specs.Alike.{total, first, Like, raised, is, Counted, AreApart, Tells}
use Rattle.vx_explore.proofs.Finding.{total-push, first-append, raised-first}
use Rattle.vx_explore.proofs.Walks.{endings}
use Rattle.std.specs.Option.{option_or}

module _ {E : Type 0} (same : E → E → Bool) where
  Counted-Like : {m : ℕ} {xs ys : List (Found E)} → Like m xs ys → (rows : List (Found E)) → Counted same m xs rows → Counted same m ys rows
  Counted-Like l [] c = tt
  Counted-Like l (r ∷ rows) c = (c.0 ∙ l.totals (is same r.what), Counted-Like l rows c.1)

  pub Tells-Like : {m : ℕ} {rows xs ys : List (Found E)} → Tells same m rows xs → Like m xs ys → Tells same m rows ys
  Tells-Like {m} {rows} t l = record {
    firsts = λ q. t.firsts q ∙ l.firsts q;
    counted = Counted-Like l rows t.counted;
    apart = t.apart;
  }

  first-same : (q p : E → Bool) → ((d : E) → q d ≡ p d) → (xs : List (Found E)) → first q xs ≡ first p xs
  first-same q p e [] = refl
  first-same q p e (x ∷ xs) = ap (λ b. cond b (Some (x.what, x.picks)) (first q xs)) (e x.what) ∙ ap (λ o. cond (p x.what) (Some (x.what, x.picks)) o) (first-same q p e xs)

  module _ (itself : (e : E) → same e e ≡ true) (equal : (d e : E) → same d e ≡ true → d ≡ e) where
    -- if no row has this ending, a test that leaves it out finds the same
    first-others : (q : E → Bool) (e : E) (rows : List (Found E)) → first (λ d. same d e) rows ≡ None → first (λ d. q d && not (same d e)) rows ≡ first q rows
    first-others q e [] none = refl
    first-others q e (r ∷ rows) none = at_head (first-others q e rows) (same r.what e) (q r.what) none
      where
        at_head : (first (λ d. same d e) rows ≡ None → first (λ d. q d && not (same d e)) rows ≡ first q rows)
            → (b c : Bool) → cond b (Some (r.what, r.picks)) (first (λ d. same d e) rows) ≡ None
            → cond (c && not b) (Some (r.what, r.picks)) (first (λ d. q d && not (same d e)) rows) ≡ cond c (Some (r.what, r.picks)) (first q rows)
        at_head others true c e' = absurd (cc)
        at_head others false true e' = refl
        at_head others false false e' = others e'

    -- the same facts give the same rows
    same_rows : (m : ℕ) (xs rows others : List (Found E)) → AreApart same rows → AreApart same others → Counted same m xs rows → Counted same m xs others
        → ((q : E → Bool) → first q rows ≡ first q others) → rows ≡ others
    same_rows m xs [] [] a b c d e = refl
    same_rows m xs [] (o ∷ others) a b c d e = absurd (let h = e (λ _. true) in cc)
    same_rows m xs (r ∷ rows) [] a b c d e = absurd (let h = e (λ _. true) in cc)
    same_rows m xs (r ∷ rows) (o ∷ others) a b c d e =
        let fronts : ◌≡◌ {A = Option (E × List ℕ)} (Some (r.what, r.picks)) (Some (o.what, o.picks)) = e (λ _. true) in
        let pair : ◌≡◌ {A = E × List ℕ} (r.what, r.picks) (o.what, o.picks) = cc in
        let what : r.what ≡ o.what = ap (λ a. a.0) pair in
        let picks : r.picks ≡ o.picks = ap (λ a. a.1) pair in
        let ways : r.ways ≡ o.ways = c.0 ∙ ap (λ w. min (total (is same w) xs) m) what ∙ sym d.0 in
        let front : r ≡ o =
        ap (λ w. record { what = w; ways = r.ways; picks = r.picks }) what
        ∙ ap (λ n. record { what = o.what; ways = n; picks = r.picks }) ways
        ∙ ap (λ ps. record { what = o.what; ways = o.ways; picks = ps }) picks in
        let apart : first (λ t. same t r.what) others ≡ None = ap (λ w. first (λ t. same t w) others) what ∙ b.0 in
        let is_it : same o.what r.what ≡ true = ap (λ w. same o.what w) what ∙ itself o.what in
        ap (λ x. x ∷ rows) front
        ∙ ap (λ xs. o ∷ xs) (same_rows m xs rows others a.1 b.1 c.1 d.1 (λ q.
        sym (first-others q r.what rows a.0)
        ∙ sym (first-skipped q r rows (itself r.what))
        ∙ e (λ t. q t && not (same t r.what))
        ∙ first-skipped q o others is_it
        ∙ first-others q r.what others apart))
      where
        first-skipped : (q : E → Bool) (x : Found E) (xs : List (Found E)) → same x.what r.what ≡ true
            → first (λ t. q t && not (same t r.what)) (x ∷ xs) ≡ first (λ t. q t && not (same t r.what)) xs
        first-skipped q x xs h = rw h (at_test (q x.what) (x.what, x.picks) (first (λ t. q t && not (same t r.what)) xs))
          where
            at_test : (b : Bool) (a : E × List ℕ) (o : Option (E × List ℕ)) → cond (b && false) (Some a) o ≡ o
            at_test true a o = refl
            at_test false a o = refl

    pub Tells-same : {m : ℕ} {rows others xs : List (Found E)} → Tells same m rows xs → Tells same m others xs → rows ≡ others
    Tells-same {m} {rows} {others} {xs} a b = same_rows m xs rows others a.apart b.apart a.counted b.counted (λ q. a.firsts q ∙ sym (b.firsts q))

    -- One more.

    differ : (d e : E) → same d e ≡ false → same e d ≡ false
    differ d e h = at (same e d) refl
      where
        at : (b : Bool) → same e d ≡ b → b ≡ false
        at true t = absurd (let back : d ≡ e = sym (equal e d t) in let yes : same d e ≡ true = ap (λ w. same w e) back ∙ itself e in cc)
        at false t = refl

    none_head : (b : Bool) (a : E × List ℕ) (o : Option (E × List ℕ)) → cond b (Some a) o ≡ None → (b ≡ false) × (o ≡ None)
    none_head true a o h = absurd (cc)
    none_head false a o h = (refl, h)

    none_at : (q : E → Bool) (ys : List (Found E)) (i : ℕ) (d : Found E) → i < length ys → first q ys ≡ None → q (get_or ys i d).what ≡ false
    none_at q [] i d within none = absurd (omega arith)
    none_at q (y ∷ ys) zero d within none = (none_head (q y.what) _ _ none).0
    none_at q (y ∷ ys) (suc i) d within none = none_at q ys i d (omega arith) (none_head (q y.what) _ _ none).1

    none_total : (q : E → Bool) (xs : List (Found E)) → first q xs ≡ None → total (λ d. cond (q d) 1 0) xs ≡ 0
    none_total q [] none = refl
    none_total q (x ∷ xs) none =
        let parts = none_head (q x.what) (x.what, x.picks) (first q xs) none in
        rw parts.0 (omega (arith, none_total q xs parts.1))

    Counted-other : (m : ℕ) (xs : List (Found E)) (x : Found E) (rows : List (Found E)) → first (λ d. same d x.what) rows ≡ None → Counted same m xs rows → Counted same m (xs ++ x ∷ []) rows
    Counted-other m xs x [] none c = tt
    Counted-other m xs x (r ∷ rows) none c =
        let parts = none_head (same r.what x.what) (r.what, r.picks) (first (λ d. same d x.what) rows) none in
        let no : same x.what r.what ≡ false = differ r.what x.what parts.0 in (
          c.0 ∙ ap (λ n. min n m) (sym (total-push (is same r.what) xs x ∙ ap (λ b. total (is same r.what) xs + x.ways * cond b 1 0) no ∙ omega arith)),
          Counted-other m xs x rows parts.1 c.1,
        )

    Counted-push : (m : ℕ) (xs rows : List (Found E)) (x : Found E) → Counted same m xs rows → x.ways ≡ min (total (is same x.what) xs) m → Counted same m xs (rows ++ x ∷ [])
    Counted-push m xs [] x c e = (e, tt)
    Counted-push m xs (r ∷ rows) x c e = (c.0, Counted-push m xs rows x c.1 e)

    none-push : (q : E → Bool) (rows : List (Found E)) (x : Found E) → first q rows ≡ None → q x.what ≡ false → first q (rows ++ x ∷ []) ≡ None
    none-push q [] x none fails = rw fails refl
    none-push q (r ∷ rows) x none fails =
        let parts = none_head (q r.what) (r.what, r.picks) (first q rows) none in
        rw parts.0 (none-push q rows x parts.1 fails)

    AreApart-push : (rows : List (Found E)) (x : Found E) → AreApart same rows → first (λ d. same d x.what) rows ≡ None → AreApart same (rows ++ x ∷ [])
    AreApart-push [] x a none = (refl, tt)
    AreApart-push (r ∷ rows) x a none =
        let parts = none_head (same r.what x.what) (r.what, r.picks) (first (λ d. same d x.what) rows) none in
        (none-push (λ d. same d r.what) rows x a.0 (differ r.what x.what parts.0), AreApart-push rows x a.1 parts.1)

    firsts-push : (rows xs : List (Found E)) (x : Found E) → ((q : E → Bool) → first q rows ≡ first q xs) → (q : E → Bool) → first q (rows ++ x ∷ []) ≡ first q (xs ++ x ∷ [])
    firsts-push rows xs x e q = first-append q rows (x ∷ []) ∙ ap (λ o. option_or o (first q (x ∷ []))) (e q) ∙ sym (first-append q xs (x ∷ []))

    -- an ending that is new
    pub Tells-pushed : {m : ℕ} {rows xs : List (Found E)} (x : Found E) → x.ways ≤ m → first (λ d. same d x.what) rows ≡ None → Tells same m rows xs → Tells same m (rows ++ x ∷ []) (xs ++ x ∷ [])
    Tells-pushed {m} {rows} {xs} x fits none t =
        let zero_ways : total (is same x.what) xs ≡ 0 = none_total (λ d. same d x.what) xs (sym (t.firsts (λ d. same d x.what)) ∙ none) in
        let all : total (is same x.what) (xs ++ x ∷ []) ≡ x.ways =
        total-push (is same x.what) xs x ∙ ap (λ b. total (is same x.what) xs + x.ways * cond b 1 0) (itself x.what) ∙ omega arith in
        record {
          firsts = firsts-push rows xs x t.firsts;
          counted = Counted-push m (xs ++ x ∷ []) rows x (Counted-other m xs x rows none t.counted) (omega arith);
          apart = AreApart-push rows x t.apart none;
        }

    first-raised : (m : ℕ) (q : E → Bool) (x : Found E) (ys : List (Found E)) (i : ℕ) (d : Found E) → i < length ys → first q (set ys i (raised m x (get_or ys i d))) ≡ first q ys
    first-raised m q x [] i d within = absurd (omega arith)
    first-raised m q x (y ∷ ys) zero d within = refl
    first-raised m q x (y ∷ ys) (suc i) d within = ap (λ o. cond (q y.what) (Some (y.what, y.picks)) o) (first-raised m q x ys i d (omega arith))

    AreApart-raised : (m : ℕ) (x : Found E) (ys : List (Found E)) (i : ℕ) (d : Found E) → i < length ys → AreApart same ys → AreApart same (set ys i (raised m x (get_or ys i d)))
    AreApart-raised m x [] i d within a = absurd (omega arith)
    AreApart-raised m x (y ∷ ys) zero d within a = a
    AreApart-raised m x (y ∷ ys) (suc i) d within a =
        (first-raised m (λ t. same t y.what) x ys i d (omega arith) ∙ a.0, AreApart-raised m x ys i d (omega arith) a.1)

    Counted-raised : (m : ℕ) (xs : List (Found E)) (x : Found E) (ys : List (Found E)) (i : ℕ) (d : Found E) → i < length ys → (get_or ys i d).what ≡ x.what
        → AreApart same ys → Counted same m xs ys → Counted same m (xs ++ x ∷ []) (set ys i (raised m x (get_or ys i d)))
    Counted-raised m xs x [] i d within is_it a c = absurd (omega arith)
    Counted-raised m xs x (y ∷ ys) zero d within is_it a c =
        let all : total (is same y.what) (xs ++ x ∷ []) ≡ total (is same y.what) xs + x.ways =
        total-push (is same y.what) xs x ∙ ap (λ b. total (is same y.what) xs + x.ways * cond b 1 0) (ap (λ w. same x.what w) is_it ∙ itself x.what) ∙ omega arith in
        (omega (arith, c.0), Counted-other m xs x ys (ap (λ w. first (λ t. same t w) ys) (sym is_it) ∙ a.0) c.1)
    Counted-raised m xs x (y ∷ ys) (suc i) d within is_it a c =
        let no : same x.what y.what ≡ false = ap (λ w. same w y.what) (sym is_it) ∙ none_at (λ t. same t y.what) ys i d (omega arith) a.0 in (
          c.0 ∙ ap (λ n. min n m) (sym (total-push (is same y.what) xs x ∙ ap (λ b. total (is same y.what) xs + x.ways * cond b 1 0) no ∙ omega arith)),
          Counted-raised m xs x ys i d (omega arith) is_it a.1 c.1,
        )

    -- an ending that is there
    pub Tells-raised : {m : ℕ} {rows xs : List (Found E)} (x : Found E) (i : ℕ) (d : Found E) → i < length rows → (get_or rows i d).what ≡ x.what
        → Tells same m rows xs → Tells same m (set rows i (raised m x (get_or rows i d))) (xs ++ x ∷ [])
    Tells-raised {m} {rows} {xs} x i d within is_it t = record {
      firsts = λ q. raised-first m q x rows i d within is_it ∙ firsts-push rows xs x t.firsts q;
      counted = Counted-raised m xs x rows i d within is_it t.apart t.counted;
      apart = AreApart-raised m x rows i d within t.apart;
    }

    -- the same, as the code has it
    pub Tells-counted : {m : ℕ} {rows xs : List (Found E)} (x : Found E) (i : ℕ) (r : Found E) (n : ℕ) → i < length rows → r ≡ get_or rows i r → (get_or rows i r).what ≡ x.what
        → n ≡ min (r.ways + x.ways) m → Tells same m rows xs → Tells same m (set rows i (record { what = r.what; ways = n; picks = r.picks })) (xs ++ x ∷ [])
    Tells-counted {m} {rows} {xs} x i r n within read is_it ways t =
        let is_raised : ◌≡◌ {A = Found E} (raised m x (get_or rows i r)) (record { what = r.what; ways = n; picks = r.picks }) =
        ap (raised m x) (sym read) ∙ ap (λ k. record { what = r.what; ways = k; picks = r.picks }) (sym ways) in
        rw is_raised at (Tells-raised x i r within is_it t)

    -- The summary of runs has these rows.

    module _ {S : Type 0} (enabled : S → ℕ) (after : S → ℕ → S) (ending_of : S → E) where
      -- an entry for each run
      abbrev as_endings : List (Run S) → List (Found E)
      as_endings rs = endings enabled after ending_of rs

      total-endings : (e : E) (rs : List (Run S)) → count_by (λ r. same (ending_of r.last) e) rs ≡ total (is same e) (as_endings rs)
      total-endings e [] = refl
      total-endings e (r ∷ rs) = sum_by-cons (λ t. cond (same (ending_of t.last) e) 1 0) r rs ∙ omega (arith, total-endings e rs)

      Counted-told : (all rs : List (Run S)) → Counted same 18446744073709551615 (as_endings all) (map (row_of ending_of same all) rs)
      Counted-told all [] = tt
      Counted-told all (r ∷ rs) = (ap (λ n. min n 18446744073709551615) (total-endings (ending_of r.last) all), Counted-told all rs)

      -- the test, of endings that are not among these
      abbrev unseen : List E → (E → Bool) → E → Bool
      unseen seen q d = q d && not (list_any (same d) seen)

      abbrev rows_of : List (Run S) → List E → List (Run S) → List (Found E)
      rows_of all seen rs = map (row_of ending_of same all) (firsts ending_of same seen rs)

      first-rows_of : (all rs : List (Run S)) (seen : List E) (q : E → Bool) → first q (rows_of all seen rs) ≡ first (unseen seen q) (as_endings rs)
      first-rows_of all [] seen q = refl
      first-rows_of all (r ∷ rs) seen q =
          at_seen (list_any (same (ending_of r.last)) seen) (q (ending_of r.last)) refl (first-rows_of all rs seen q) (first-rows_of all rs (ending_of r.last ∷ seen) q)
        where
          one_more : q (ending_of r.last) ≡ false → (d : E) → unseen (ending_of r.last ∷ seen) q d ≡ unseen seen q d
          one_more fails d = at (same d (ending_of r.last)) refl
            where
              at : (b : Bool) → same d (ending_of r.last) ≡ b → (q d && not (b || list_any (same d) seen)) ≡ (q d && not (list_any (same d) seen))
              at true e = let no : q d ≡ false = ap q (equal d (ending_of r.last) e) ∙ fails in rw no refl
              at false e = refl

          at_seen : (b c : Bool) → q (ending_of r.last) ≡ c
              → first q (rows_of all seen rs) ≡ first (unseen seen q) (as_endings rs)
              → first q (rows_of all (ending_of r.last ∷ seen) rs) ≡ first (unseen (ending_of r.last ∷ seen) q) (as_endings rs)
              → first q (map (row_of ending_of same all) (cond b (firsts ending_of same seen rs) (r ∷ firsts ending_of same (ending_of r.last ∷ seen) rs)))
              ≡ cond (c && not b) (Some (ending_of r.last, r.picks)) (first (unseen seen q) (as_endings rs))
          at_seen true true e here more = here
          at_seen true false e here more = here
          at_seen false true e here more = rw e refl
          at_seen false false e here more = rw e (more ∙ first-same (unseen (ending_of r.last ∷ seen) q) (unseen seen q) (one_more e) (as_endings rs))

      first-never : (xs : List (Found E)) → first (λ d. false) xs ≡ None
      first-never [] = refl
      first-never (x ∷ xs) = first-never xs

      AreApart-rows_of : (all rs : List (Run S)) (seen : List E) → AreApart same (rows_of all seen rs)
      AreApart-rows_of all [] seen = tt
      AreApart-rows_of all (r ∷ rs) seen =
          at_seen (list_any (same (ending_of r.last)) seen) (AreApart-rows_of all rs seen) (AreApart-rows_of all rs (ending_of r.last ∷ seen))
        where
          never : (d : E) → unseen (ending_of r.last ∷ seen) (λ t. same t (ending_of r.last)) d ≡ false
          never d = at (same d (ending_of r.last))
            where
              at : (b : Bool) → (b && not (b || list_any (same d) seen)) ≡ false
              at true = refl
              at false = refl

          at_seen : (b : Bool) → AreApart same (rows_of all seen rs) → AreApart same (rows_of all (ending_of r.last ∷ seen) rs)
              → AreApart same (map (row_of ending_of same all) (cond b (firsts ending_of same seen rs) (r ∷ firsts ending_of same (ending_of r.last ∷ seen) rs)))
          at_seen true here more = here
          at_seen false here more = (
            first-rows_of all rs (ending_of r.last ∷ seen) (λ t. same t (ending_of r.last))
                ∙ first-same (unseen (ending_of r.last ∷ seen) (λ t. same t (ending_of r.last))) (λ d. false) never (as_endings rs)
                ∙ first-never (as_endings rs),
            more,
          )

      pub Tells-told : (rs : List (Run S)) → Tells same 18446744073709551615 (summary ending_of same rs) (as_endings rs)
      Tells-told rs = record {
        firsts = λ q. first-rows_of rs rs [] q ∙ first-same (unseen [] q) q (λ d. and-true (q d)) (as_endings rs);
        counted = Counted-told rs (firsts ending_of same [] rs);
        apart = AreApart-rows_of rs rs [];
      }
