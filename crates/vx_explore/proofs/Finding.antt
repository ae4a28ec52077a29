-- Lists that no measure, capped, and no test tells apart: `Like`, and what keeps it.
use Rattle.std.proofs.Common.{◌≡◌, ℕ, zero, suc, ◌+◌, ◌*◌, ◌<◌, min, List, [], ◌∷◌, ◌++◌, length, get_or, set, Bool, true, false, cond, Option, Some, None, refl, sym, ap, ◌∙◌, arith}
use Rattle.std.specs.Prelude.{◌&&◌, map, filter, find, is_some, option_map, option_and_then}
use Rattle.vx_explore.specs.declared.found.Found.{Found}
use Rattle.std.proofs.Common.{append_assoc, take}
use Rattle.std.proofs.lemmas.List.{map-append, take_more}
use Rattle.std.proofs.lemmas.List.Elements.{filter-append}
use Rattle.vx_explore.specs.Alike.{total, first, Like, raised, one_after, open_to, all_after, stops, end_at, ends}
use Rattle.std.specs.Option.{option_or}

pub Like-refl : {K : Type 0} {m : ℕ} (xs : List (Found K)) → Like m xs xs
Like-refl xs = record { totals = λ f. refl; firsts = λ q. refl }

pub Like-trans : {K : Type 0} {m : ℕ} {xs ys zs : List (Found K)} → Like m xs ys → Like m ys zs → Like m xs zs
Like-trans a b = record { totals = λ f. a.totals f ∙ b.totals f; firsts = λ q. a.firsts q ∙ b.firsts q }

-- One list after another.

pub total-push : {K : Type 0} (f : K → ℕ) (xs : List (Found K)) (x : Found K) → total f (xs ++ x ∷ []) ≡ total f xs + x.ways * f x.what
total-push f [] x = omega arith
total-push f (y ∷ xs) x = omega (arith, total-push f xs x)

pub total-append : {K : Type 0} (f : K → ℕ) (xs ys : List (Found K)) → total f (xs ++ ys) ≡ total f xs + total f ys
total-append f [] ys = omega arith
total-append f (x ∷ xs) ys = omega (arith, total-append f xs ys)

or_none : {A : Type 0} (o : Option A) → o ≡ option_or o None
or_none None = refl
or_none (Some a) = refl

option_or-cond : {A : Type 0} (b : Bool) (a : A) (o p : Option A) → cond b (Some a) (option_or o p) ≡ option_or (cond b (Some a) o) p
option_or-cond true a o p = refl
option_or-cond false a o p = refl

pub first-append : {K : Type 0} (q : K → Bool) (xs ys : List (Found K)) → first q (xs ++ ys) ≡ option_or (first q xs) (first q ys)
first-append q [] ys = refl
first-append q (x ∷ xs) ys =
    ap (λ o. cond (q x.what) (Some (x.what, x.picks)) o) (first-append q xs ys)
    ∙ option_or-cond (q x.what) (x.what, x.picks) (first q xs) (first q ys)

capped-add : (m a b c d : ℕ) → min a m ≡ min b m → min c m ≡ min d m → min (a + c) m ≡ min (b + d) m
capped-add m a b c d e h = omega arith

pub Like-append : {K : Type 0} {m : ℕ} {xs xs' ys ys' : List (Found K)} → Like m xs xs' → Like m ys ys' → Like m (xs ++ ys) (xs' ++ ys')
Like-append {K} {m} {xs} {xs'} {ys} {ys'} a b = record {
  totals = λ f. rw (total-append f xs ys, total-append f xs' ys') (capped-add m _ _ _ _ (a.totals f) (b.totals f));
  firsts = λ q. rw (first-append q xs ys, first-append q xs' ys') (ap (λ o. option_or o (first q ys)) (a.firsts q) ∙ ap (λ o. option_or (first q xs') o) (b.firsts q));
}

-- What is found again adds its runs to the entry.

capped-mul : (m a k r : ℕ) → min (min a m * k + r) m ≡ min (a * k + r) m
capped-mul m a zero r = omega arith
capped-mul m a (suc k) r = grind arith

raised-total : {K : Type 0} (m : ℕ) (f : K → ℕ) (x : Found K) (ys : List (Found K)) (i : ℕ) (d : Found K)
    → i < length ys → (get_or ys i d).what ≡ x.what
    → min (total f (set ys i (raised m x (get_or ys i d)))) m ≡ min (total f ys + x.ways * f x.what) m
raised-total m f x [] i d within same = absurd (omega arith)
raised-total m f x (y ∷ ys) zero d within same =
    capped-mul m (y.ways + x.ways) (f y.what) (total f ys)
    ∙ ap (λ n. min n m) (regroup y.ways x.ways (f y.what) (f x.what) (total f ys) (ap f same))
  where
    regroup : (a b k l r : ℕ) → k ≡ l → (a + b) * k + r ≡ a * k + r + b * l
    regroup a b k l r e = rw e (omega arith)
raised-total m f x (y ∷ ys) (suc i) d within same =
    omega (arith, raised-total m f x ys i d (omega arith) same)

pub raised-first : {K : Type 0} (m : ℕ) (q : K → Bool) (x : Found K) (ys : List (Found K)) (i : ℕ) (d : Found K)
    → i < length ys → (get_or ys i d).what ≡ x.what
    → first q (set ys i (raised m x (get_or ys i d))) ≡ first q (ys ++ x ∷ [])
raised-first m q x [] i d within same = absurd (omega arith)
raised-first m q x (y ∷ ys) zero d within same =
    in_front (q y.what) (ap q same)
  where
    rest : q x.what ≡ false → first q ys ≡ first q (ys ++ x ∷ [])
    rest fails = rw (first-append q ys (x ∷ []), fails) (or_none (first q ys))

    in_front : (b : Bool) → b ≡ q x.what → cond b (Some (y.what, y.picks)) (first q ys) ≡ cond b (Some (y.what, y.picks)) (first q (ys ++ x ∷ []))
    in_front true e = refl
    in_front false e = rest (sym e)
raised-first m q x (y ∷ ys) (suc i) d within same =
    ap (λ o. cond (q y.what) (Some (y.what, y.picks)) o) (raised-first m q x ys i d (omega arith) same)

pub Like-raised : {K : Type 0} (m : ℕ) (x : Found K) (ys : List (Found K)) (i : ℕ) (d : Found K)
    → i < length ys → (get_or ys i d).what ≡ x.what
    → Like m (set ys i (raised m x (get_or ys i d))) (ys ++ x ∷ [])
Like-raised m x ys i d within same = record {
  totals = λ f. raised-total m f x ys i d within same ∙ ap (λ n. min n m) (sym (total-push f ys x));
  firsts = λ q. raised-first m q x ys i d within same;
}

-- the same, as the code has it
pub Like-counted : {K : Type 0} (m : ℕ) (x : Found K) (ys : List (Found K)) (i : ℕ) (r : Found K) (n : ℕ)
    → i < length ys → r ≡ get_or ys i r → (get_or ys i r).what ≡ x.what → n ≡ min (r.ways + x.ways) m
    → Like m (set ys i (record { what = r.what; ways = n; picks = r.picks })) (ys ++ x ∷ [])
Like-counted {K} m x ys i r n within read is_it ways =
    let is_raised : ◌≡◌ {A = Found K} (raised m x (get_or ys i r)) (record { what = r.what; ways = n; picks = r.picks }) =
    ap (raised m x) (sym read) ∙ ap (λ k. record { what = r.what; ways = k; picks = r.picks }) (sym ways) in
    rw is_raised at (Like-raised m x ys i r within is_it)

-- The states stay as they are.
pub map-counted : {K A : Type 0} (f : K → A) (ys : List (Found K)) (i : ℕ) (r : Found K) (n : ℕ) → i < length ys → r ≡ get_or ys i r
    → map (λ x. f x.what) (set ys i (record { what = r.what; ways = n; picks = r.picks })) ≡ map (λ x. f x.what) ys
map-counted f [] i r n within read = absurd (omega arith)
map-counted f (y ∷ ys) zero r n within read = ap (λ x. f x.what ∷ map (λ z. f z.what) ys) read
map-counted f (y ∷ ys) (suc i) r n within read = ap (λ others. f y.what ∷ others) (map-counted f ys i r n (omega arith) read)

-- One step of the machine.

module _ {S : Type 0} (enabled : S → ℕ) (after : S → ℕ → S) where
  abbrev pub sum_after : (S → ℕ) → S → List ℕ → ℕ
  sum_after f s [] = 0
  sum_after f s (i ∷ is) = f (after s i) + sum_after f s is

  total-one_after : (f : S → ℕ) (x : Found S) (is : List ℕ) → total f (map (one_after enabled after x) is) ≡ x.ways * sum_after f x.what is
  total-one_after f x [] = omega arith
  total-one_after f x (i ∷ is) = omega (arith, total-one_after f x is)

  total-all_after : (f : S → ℕ) (xs : List (Found S)) → total f (all_after enabled after xs) ≡ total (λ s. sum_after f s (open_to enabled after s)) xs
  total-all_after f [] = refl
  total-all_after f (x ∷ xs) =
      total-append f (map (one_after enabled after x) (open_to enabled after x.what)) (all_after enabled after xs)
      ∙ omega (arith, total-one_after f x (open_to enabled after x.what), total-all_after f xs)

  -- the first successor that passes, with its picks
  abbrev pub pick_for : (S → Bool) → S → List ℕ → Option ℕ
  pick_for q s is = find (λ i. q (after s i)) is

  abbrev pub behind_first : (S → Bool) → S × List ℕ → Option (S × List ℕ)
  behind_first q a = option_map (λ i. (after a.0 i, a.1 ++ i ∷ [])) (pick_for q a.0 (open_to enabled after a.0))

  first-one_after : (q : S → Bool) (x : Found S) (is : List ℕ) → first q (map (one_after enabled after x) is) ≡ option_map (λ i. (after x.what i, x.picks ++ i ∷ [])) (pick_for q x.what is)
  first-one_after q x [] = refl
  first-one_after q x (i ∷ is) = at_head (first-one_after q x is) (q (after x.what i))
    where
      at_head : first q (map (one_after enabled after x) is) ≡ option_map (λ j. (after x.what j, x.picks ++ j ∷ [])) (pick_for q x.what is) → (b : Bool) → cond b (Some (after x.what i, x.picks ++ i ∷ [])) (first q (map (one_after enabled after x) is)) ≡ option_map (λ i. (after x.what i, x.picks ++ i ∷ [])) (cond b (Some i) (pick_for q x.what is))
      at_head others true = refl
      at_head others false = others

  first-all_after : (q : S → Bool) (xs : List (Found S)) → first q (all_after enabled after xs) ≡ option_and_then (behind_first q) (first (λ s. is_some (pick_for q s (open_to enabled after s))) xs)
  first-all_after q [] = refl
  first-all_after q (x ∷ xs) =
      first-append q (map (one_after enabled after x) (open_to enabled after x.what)) (all_after enabled after xs)
      ∙ ap (λ o. option_or o (first q (all_after enabled after xs))) (first-one_after q x (open_to enabled after x.what))
      ∙ ap (λ o. option_or (behind_first q (x.what, x.picks)) o) (first-all_after q xs)
      ∙ at_head (pick_for q x.what (open_to enabled after x.what)) refl
    where
      rest : Option (S × List ℕ)
      rest = first (λ s. is_some (pick_for q s (open_to enabled after s))) xs

      at_head : (o : Option ℕ) → pick_for q x.what (open_to enabled after x.what) ≡ o
          → option_or (option_map (λ i. (after x.what i, x.picks ++ i ∷ [])) o) (option_and_then (behind_first q) rest)
          ≡ option_and_then (behind_first q) (cond (is_some o) (Some (x.what, x.picks)) rest)
      at_head None e = refl
      at_head (Some i) e = rw e refl

  pub Like-all_after : {m : ℕ} {xs ys : List (Found S)} → Like m xs ys → Like m (all_after enabled after xs) (all_after enabled after ys)
  Like-all_after {m} {xs} {ys} l = record {
    totals = λ f. rw (total-all_after f xs, total-all_after f ys) (l.totals _);
    firsts = λ q. first-all_after q xs ∙ ap (option_and_then (behind_first q)) (l.firsts _) ∙ sym (first-all_after q ys);
  }

-- How the runs end that stop here.

module _ {S E : Type 0} (enabled : S → ℕ) (ending_of : S → E) where
  total-ends : (f : E → ℕ) (last : Bool) (xs : List (Found S)) → total f (ends enabled ending_of last xs) ≡ total (λ s. cond (stops enabled last s) (f (ending_of s)) 0) xs
  total-ends f last [] = refl
  total-ends f last (x ∷ xs) = at_head (total-ends f last xs) (stops enabled last x.what)
    where
      at_head : total f (ends enabled ending_of last xs) ≡ total (λ s. cond (stops enabled last s) (f (ending_of s)) 0) xs → (b : Bool) → total f (map (end_at ending_of) (cond b (x ∷ filter (λ y. stops enabled last y.what) xs) (filter (λ y. stops enabled last y.what) xs))) ≡ x.ways * cond b (f (ending_of x.what)) 0 + total (λ s. cond (stops enabled last s) (f (ending_of s)) 0) xs
      at_head others true = omega arith
      at_head others false = omega arith

  abbrev pub end_of : S × List ℕ → E × List ℕ
  end_of a = (ending_of a.0, a.1)

  first-ends : (q : E → Bool) (last : Bool) (xs : List (Found S)) → first q (ends enabled ending_of last xs) ≡ option_map end_of (first (λ s. stops enabled last s && q (ending_of s)) xs)
  first-ends q last [] = refl
  first-ends q last (x ∷ xs) = at_head (first-ends q last xs) (stops enabled last x.what) (q (ending_of x.what)) refl
    where
      at_head : first q (ends enabled ending_of last xs) ≡ option_map end_of (first (λ s. stops enabled last s && q (ending_of s)) xs) → (b c : Bool) → q (ending_of x.what) ≡ c → first q (map (end_at ending_of) (cond b (x ∷ filter (λ y. stops enabled last y.what) xs) (filter (λ y. stops enabled last y.what) xs))) ≡ option_map end_of (cond (b && c) (Some (x.what, x.picks)) (first (λ s. stops enabled last s && q (ending_of s)) xs))
      at_head others true true e = rw e refl
      at_head others true false e = rw e others
      at_head others false c e = others

  pub Like-ends : {m : ℕ} {xs ys : List (Found S)} (last : Bool) → Like m xs ys → Like m (ends enabled ending_of last xs) (ends enabled ending_of last ys)
  Like-ends {m} {xs} {ys} last l = record {
    totals = λ f. rw (total-ends f last xs, total-ends f last ys) (l.totals _);
    firsts = λ q. first-ends q last xs ∙ ap (option_map end_of) (l.firsts _) ∙ sym (first-ends q last ys);
  }

  ends-append : (last : Bool) (xs ys : List (Found S)) → ends enabled ending_of last (xs ++ ys) ≡ ends enabled ending_of last xs ++ ends enabled ending_of last ys
  ends-append last xs ys =
      ap (map (end_at ending_of)) (filter-append (λ x. stops enabled last x.what) xs ys)
      ∙ map-append (end_at ending_of) (filter (λ x. stops enabled last x.what) xs) (filter (λ x. stops enabled last x.what) ys)

  -- one more state of the level was counted
  pub ends_more : (before : List (Found E)) (last : Bool) (xs : List (Found S)) (i : ℕ) (x : Found S) → i < length xs → x ≡ get_or xs i x
      → (before ++ ends enabled ending_of last (take i xs)) ++ ends enabled ending_of last (x ∷ []) ≡ before ++ ends enabled ending_of last (take (i + 1) xs)
  ends_more before last xs i x within read =
      append_assoc before (ends enabled ending_of last (take i xs)) (ends enabled ending_of last (x ∷ []))
      ∙ ap (λ ys. before ++ ys) (sym (ap (ends enabled ending_of last) (take_more xs i x within ∙ ap (λ y. take i xs ++ y ∷ []) (sym read))
      ∙ ends-append last (take i xs) (x ∷ [])))
