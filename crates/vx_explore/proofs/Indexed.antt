-- What an index of digests finds.
use Rattle.std.proofs.Common.{◌≡◌, ◌≢◌, ℕ, zero, suc, ◌+◌, ◌<◌, ◌≤◌, List, [], ◌∷◌, ◌++◌, length, get_or, Bool, true, false, cond, eqb, Option, Some, None, refl, sym, ap, ◌∙◌, subst, arith, add-one, eqb-true, inl, inr}
use Rattle.std.specs.Prelude.{All, AllPairs, Contains}
use Rattle.std.proofs.lemmas.Bool.{cases_eq, eqb-false}
use Rattle.std.proofs.lemmas.List.{get_or_default, length-map, map-append, get_or_append_left, get_or_push, length_push}
use Rattle.std.proofs.lemmas.List.Elements.{Contains-append_right}
use Rattle.vx_explore.specs.declared.found.Found.{Found}
use Rattle.vx_explore.specs.Index.{HaveSame, IsIndex, IsLevel, StartAs, digests, last_of, whats}

-- a place not above the one that is found
abbrev pub IsUpTo : ℕ → Option ℕ → Type 0
IsUpTo j None = ⊥
IsUpTo j (Some i) = j ≤ i

-- the place that is found is below the bound, and has the digest
abbrev pub IsFound : ℕ → List ℕ → ℕ → Option ℕ → Type 0
IsFound d ds n None = Unit {0}
IsFound d ds n (Some i) = (i < n) × (get_or ds i 0 ≡ d)

pub last_of-found : (d : ℕ) (ds : List ℕ) (n : ℕ) → IsFound d ds n (last_of d ds n)
last_of-found d ds zero = tt
last_of-found d ds (suc n) = at (eqb (get_or ds n 0) d) refl (last_of d ds n) (last_of-found d ds n)
  where
    at : (b : Bool) → eqb (get_or ds n 0) d ≡ b → (o : Option ℕ) → IsFound d ds n o → IsFound d ds (suc n) (cond b (Some n) o)
    at true e o h = (omega arith, eqb-true (get_or ds n 0) d e)
    at false e None h = tt
    at false e (Some i) h = (omega (arith, h.0), h.1)

-- no place between has the digest
pub last_of-last : (d : ℕ) (ds : List ℕ) (n j : ℕ) → j < n → get_or ds j 0 ≡ d → IsUpTo j (last_of d ds n)
last_of-last d ds zero j below is_it = absurd (omega arith)
last_of-last d ds (suc n) j below is_it = at (eqb (get_or ds n 0) d) refl (λ h. last_of-last d ds n j h is_it)
  where
    at : (b : Bool) → eqb (get_or ds n 0) d ≡ b → (j < n → IsUpTo j (last_of d ds n)) → IsUpTo j (cond b (Some n) (last_of d ds n))
    at true e here = omega arith
    at false e here =
        elim (cases_eq j n) [
          | inl same ↦ absurd (eqb-false (get_or ds n 0) d e (ap (λ k. get_or ds k 0) (sym same) ∙ is_it))
          | inr other ↦ here (omega arith)
        ]

get_or-digests : {S : Type 0} (digest_of : S → ℕ) (xs : List (Found S)) (i : ℕ) (d : Found S) → i < length xs → get_or (digests digest_of xs) i 0 ≡ digest_of (get_or xs i d).what
get_or-digests digest_of [] i d within = absurd (omega arith)
get_or-digests digest_of (x ∷ xs) zero d within = refl
get_or-digests digest_of (x ∷ xs) (suc i) d within = get_or-digests digest_of xs i d (omega arith)

-- where the search for a state stands: each equal state is at a place up to the next
pub record Seeks {S : Type 0} (digest_of : S → ℕ) (xs : List (Found S)) (what : S) (next : Option ℕ) : Type 0 where
  pub found : IsFound (digest_of what) (digests digest_of xs) (length xs) next
  pub rest : (j : ℕ) (d : Found S) → j < length xs → (get_or xs j d).what ≡ what → IsUpTo j next

module _ {S : Type 0} (digest_of : S → ℕ) (xs : List (Found S)) (what : S) where
  digest_at : (j : ℕ) (d : Found S) → j < length xs → (get_or xs j d).what ≡ what → get_or (digests digest_of xs) j 0 ≡ digest_of what
  digest_at j d within same = get_or-digests digest_of xs j d within ∙ ap digest_of same

  pub Seeks-first : (n : ℕ) → n ≡ length xs → Seeks digest_of xs what (last_of (digest_of what) (digests digest_of xs) n)
  Seeks-first n e = record {
    found = rw e (last_of-found (digest_of what) (digests digest_of xs) (length xs));
    rest = λ j d within same. last_of-last (digest_of what) (digests digest_of xs) n j (omega arith) (digest_at j d within same);
  }

  -- a state with the digest that is another
  pub Seeks-next : (i : ℕ) (d : Found S) → Seeks digest_of xs what (Some i) → ((get_or xs i d).what ≡ what → ⊥) → (next : Option ℕ)
      → next ≡ last_of (get_or (digests digest_of xs) i 0) (digests digest_of xs) i → Seeks digest_of xs what next
  Seeks-next i d s other next e =
      let below : last_of (get_or (digests digest_of xs) i 0) (digests digest_of xs) i ≡ last_of (digest_of what) (digests digest_of xs) i = ap (λ k. last_of k (digests digest_of xs) i) s.found.1 in
      let is_it : last_of (digest_of what) (digests digest_of xs) i ≡ next = sym (e ∙ below) in
      record {
        found = subst (IsFound (digest_of what) (digests digest_of xs) (length xs)) is_it (wider (last_of (digest_of what) (digests digest_of xs) i) (last_of-found (digest_of what) (digests digest_of xs) i));
        rest = λ j t within same. subst (IsUpTo j) is_it (last_of-last (digest_of what) (digests digest_of xs) i j (lower j t within same) (digest_at j t within same));
      }
    where
      lower : (j : ℕ) (t : Found S) → j < length xs → (get_or xs j t).what ≡ what → j < i
      lower j t within same =
          let upto : j ≤ i = s.rest j t within same in
          let inside : i < length xs = s.found.0 in
          let apart : j ≡ i → ⊥ = λ at_i. other (ap (λ x. x.what) (get_or_default xs i d t inside) ∙ ap (λ k. (get_or xs k t).what) (sym at_i) ∙ same) in
          omega arith

      wider : (o : Option ℕ) → IsFound (digest_of what) (digests digest_of xs) i o → IsFound (digest_of what) (digests digest_of xs) (length xs) o
      wider None h = tt
      wider (Some k) h = (omega (arith, h.0, s.found.0), h.1)

-- how far down the search has to go
abbrev pub height : Option ℕ → ℕ
height None = 0
height (Some i) = suc i

pub height_below : (d : ℕ) (ds : List ℕ) (i : ℕ) (o : Option ℕ) → IsFound d ds i o → height o < suc i
height_below d ds i None h = omega arith
height_below d ds i (Some j) h = omega (arith, h.0)

pub length-digests : {S : Type 0} (digest_of : S → ℕ) (xs : List (Found S)) → length (digests digest_of xs) ≡ length xs
length-digests digest_of xs = length-map xs (λ x. digest_of x.what)

module _ {S : Type 0} (digest_of : S → ℕ) (xs : List (Found S)) (what : S) (older : List (Option ℕ)) (latest : ℕ → Option ℕ) (index : IsIndex (digests digest_of xs) older latest) where
  pub Seeks-start : (d : ℕ) (next : Option ℕ) → d ≡ digest_of what → next ≡ latest d → Seeks digest_of xs what next
  Seeks-start d next is_digest e =
      let is_last : last_of (digest_of what) (digests digest_of xs) (length (digests digest_of xs)) ≡ next = sym (e ∙ index.last d ∙ ap (λ k. last_of k (digests digest_of xs) (length (digests digest_of xs))) is_digest) in
      subst (Seeks digest_of xs what) is_last (Seeks-first digest_of xs what (length (digests digest_of xs)) (length-digests digest_of xs))

  pub Seeks-step : (i : ℕ) (d : Found S) → Seeks digest_of xs what (Some i) → ((get_or xs i d).what ≡ what → ⊥) → (next : Option ℕ) → next ≡ get_or older i None
      → Seeks digest_of xs what next × (height next < suc i)
  Seeks-step i d s other next e =
      let within : i < length (digests digest_of xs) = rw (length-digests digest_of xs) s.found.0 in
      let is_last : next ≡ last_of (get_or (digests digest_of xs) i 0) (digests digest_of xs) i = e ∙ index.behind i within in (
        Seeks-next digest_of xs what i d s other next is_last,
        height_below (get_or (digests digest_of xs) i 0) (digests digest_of xs) i next
            (subst (IsFound (get_or (digests digest_of xs) i 0) (digests digest_of xs) i) (sym is_last) (last_of-found (get_or (digests digest_of xs) i 0) (digests digest_of xs) i)),
      )

-- One more.

last_of-push : (d e n : ℕ) (ds : List ℕ) → n ≤ length ds → last_of d (ds ++ e ∷ []) n ≡ last_of d ds n
last_of-push d e zero ds within = refl
last_of-push d e (suc n) ds within =
    ap (λ k. cond (eqb k d) (Some n) (last_of d (ds ++ e ∷ []) n)) (get_or_append_left ds (e ∷ []) 0 n (omega arith))
    ∙ ap (λ o. cond (eqb (get_or ds n 0) d) (Some n) o) (last_of-push d e n ds (omega arith))

pub IsIndex-push : (ds : List ℕ) (older : List (Option ℕ)) (latest latest' : ℕ → Option ℕ) (d : ℕ) (before : Option ℕ) → IsIndex ds older latest
    → before ≡ latest d → ((k : ℕ) → latest' k ≡ cond (eqb d k) (Some (length ds)) (latest k))
    → IsIndex (ds ++ d ∷ []) (older ++ before ∷ []) latest'
IsIndex-push ds older latest latest' d before index is_before updates = record {
  len = rw (length_push older before, length_push ds d, index.len) refl;
  behind = λ i within. behind_at i (rw (length_push ds d) at within);
  last = last_at;
}
  where
    behind_at : (i : ℕ) → i < length ds + 1 → get_or (older ++ before ∷ []) i None ≡ last_of (get_or (ds ++ d ∷ []) i 0) (ds ++ d ∷ []) i
    behind_at i within =
        elim (cases_eq i (length ds)) [
          | inl at_end ↦
              let at_older : length older ≡ i = index.len ∙ sym at_end in
              let at_ds : length ds ≡ i = sym at_end in
              get_or_push older before None i at_older ∙ is_before ∙ index.last d
              ∙ ap (λ n. last_of d ds n) at_ds
              ∙ sym (ap (λ k. last_of k (ds ++ d ∷ []) i) (get_or_push ds d 0 i at_ds) ∙ last_of-push d d i ds (omega arith))
          | inr other ↦
              let below : i < length ds = omega arith in
              let inside : i < length older = omega (arith, index.len) in
              get_or_append_left older (before ∷ []) None i inside ∙ index.behind i below
              ∙ sym (ap (λ k. last_of k (ds ++ d ∷ []) i) (get_or_append_left ds (d ∷ []) 0 i below) ∙ last_of-push (get_or ds i 0) d i ds (omega arith))
        ]

    last_at : (k : ℕ) → latest' k ≡ last_of k (ds ++ d ∷ []) (length (ds ++ d ∷ []))
    last_at k =
        updates k
        ∙ ap (λ o. cond (eqb d k) (Some (length ds)) o) (index.last k ∙ sym (last_of-push k d (length ds) ds (omega arith)))
        ∙ sym (ap (λ n. last_of k (ds ++ d ∷ []) n) (length_push ds d ∙ add-one (length ds))
        ∙ ap (λ e. cond (eqb e k) (Some (length ds)) (last_of k (ds ++ d ∷ []) (length ds))) (get_or_push ds d 0 (length ds) refl))

pub digests-push : {S : Type 0} (digest_of : S → ℕ) (xs : List (Found S)) (x : Found S) → digests digest_of (xs ++ x ∷ []) ≡ digests digest_of xs ++ digest_of x.what ∷ []
digests-push digest_of xs x = map-append (λ y. digest_of y.what) xs (x ∷ [])

-- The states.

pub length-whats : {S : Type 0} (xs : List (Found S)) → length (whats xs) ≡ length xs
length-whats xs = length-map xs (λ x. x.what)

pub get_or-whats : {S : Type 0} (xs : List (Found S)) (i : ℕ) (d : Found S) → get_or (whats xs) i d.what ≡ (get_or xs i d).what
get_or-whats [] i d = refl
get_or-whats (x ∷ xs) zero d = refl
get_or-whats (x ∷ xs) (suc i) d = get_or-whats xs i d

-- P holds of the state at a place
pub All-whats : {S : Type 0} (P : S → Type 0) (xs : List (Found S)) (i : ℕ) (d : Found S) → i < length xs → All P (whats xs) → P (get_or xs i d).what
All-whats P xs i d within all = subst P (get_or-whats xs i d) (all i d.what (rw (length-whats xs) within))

pub whats-push : {S : Type 0} (xs : List (Found S)) (x : Found S) → whats (xs ++ x ∷ []) ≡ whats xs ++ x.what ∷ []
whats-push xs x = map-append (λ y. y.what) xs (x ∷ [])

different-push : {S : Type 0} (ss : List S) (s : S) → AllPairs (λ a b. a ≢ b) ss → ((i : ℕ) (d : S) → i < length ss → get_or ss i d ≢ s) → AllPairs (λ a b. a ≢ b) (ss ++ s ∷ [])
different-push ss s apart new i j d below within =
    let inside : j < length ss + 1 = rw (length_push ss s) at within in
    elim (cases_eq j (length ss)) [
      | inl at_end ↦
          let under : i < length ss = omega arith in
          λ same. new i d under (sym (get_or_append_left ss (s ∷ []) d i under) ∙ same ∙ get_or_push ss s d j (sym at_end))
      | inr other ↦
          let under : j < length ss = omega arith in
          let lower : i < length ss = omega arith in
          λ same. apart i j d below under (sym (get_or_append_left ss (s ∷ []) d i lower) ∙ same ∙ get_or_append_left ss (s ∷ []) d j under)
    ]

pub whats-different : {S : Type 0} (xs : List (Found S)) (x : Found S) → AllPairs (λ a b. a ≢ b) (whats xs)
    → ((i : ℕ) (d : Found S) → i < length xs → (get_or xs i d).what ≢ x.what) → AllPairs (λ a b. a ≢ b) (whats (xs ++ x ∷ []))
whats-different {S} xs x apart new = rw (whats-push xs x) (different-push (whats xs) x.what apart
    (λ i d within same. new i (as_found d) (rw (length-whats xs) at within) (sym (get_or-whats xs i (as_found d)) ∙ same)))
  where
    as_found : S → Found S
    as_found d = record { what = d; ways = 0; picks = [] }

pub Contains-whats : {S : Type 0} (xs : List (Found S)) (i : ℕ) (s : S) → i < length xs → ((d : Found S) → (get_or xs i d).what ≡ s) → Contains (whats xs) s
Contains-whats xs i s within is_it = (i, rw (length-whats xs) within, get_or-whats xs i (record { what = s; ways = 0; picks = [] }) ∙ is_it (record { what = s; ways = 0; picks = [] }))

-- A level with one more state.

pub IsLevel-push : {S : Type 0} (digest_of : S → ℕ) (xs : List (Found S)) (x : Found S) (older : List (Option ℕ)) (latest latest' : ℕ → Option ℕ) (d n : ℕ) (before : Option ℕ)
    → IsLevel digest_of xs older latest → HaveSame xs x.what None → d ≡ digest_of x.what → n ≡ length xs → before ≡ latest d
    → ((k : ℕ) → latest' k ≡ cond (eqb d k) (Some n) (latest k))
    → IsLevel digest_of (xs ++ x ∷ []) (older ++ before ∷ []) latest'
IsLevel-push digest_of xs x older latest latest' d n before level new is_digest is_len is_before updates = record {
  index =
      rw (digests-push digest_of xs x, ← is_digest) (IsIndex-push (digests digest_of xs) older latest latest' d before level.index is_before
      (λ k. updates k ∙ ap (λ l. cond (eqb d k) (Some l) (latest k)) (is_len ∙ sym (length-digests digest_of xs))));
  different = whats-different xs x level.different new;
}

pub Contains-middle : {S : Type 0} (xs ys zs : List (Found S)) (y : Found S) → xs ≡ ys ++ y ∷ zs → Contains (whats xs) y.what
Contains-middle xs ys zs y is_xs = rw (is_xs, map-append (λ x. x.what) ys (y ∷ zs)) (Contains-append_right (whats ys) (y.what ∷ whats zs) y.what (0, omega arith, refl))

-- another state with that origin
pub StartAs-other : {S : Type 0} (origin : S → S) (o p : S) (xs : List S) → origin o ≡ origin p → StartAs origin o xs → StartAs origin p xs
StartAs-other origin o p xs same all i d within = all i d within ∙ same
