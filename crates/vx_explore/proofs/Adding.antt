-- How a level is made from the one before.
use Rattle.std.proofs.Common.{Bool, Contains, inl, inr, ◌≡◌, ℕ, zero, suc, ◌+◌, ◌<◌, List, [], ◌∷◌, ◌++◌, get_or, map, sym, ap, ◌∙◌, subst, arith, add-one, append_assoc, append-nil}
use Rattle.std.specs.Prelude.{All, IsTrue, ◌⊎◌, false}
use Rattle.std.specs.List.{range_with_len}
use Rattle.std.proofs.lemmas.List.{map-append}
use Rattle.std.proofs.lemmas.List.Elements.{All-contains, Contains-append_left, Contains-get_or, Contains-push, Contains-push_cases}
use Rattle.std.proofs.lemmas.List.Concat.{flat_map-append}
use Rattle.std.proofs.lemmas.Bool.{cases_eq}
use Rattle.vx_explore.specs.declared.found.Found.{Found}
use Rattle.vx_explore.specs.Alike.{Like, one_after, open_to, all_after}
use Rattle.vx_explore.specs.Index.{AreMore, AreNext, IsNext, Spreads, StartAs, whats}
use Rattle.vx_explore.specs.Runs.{Leads}
use Rattle.vx_explore.proofs.Indexed.{Contains-middle, StartAs-other, whats-push}
use Rattle.vx_explore.proofs.Finding.{Like-refl, Like-trans, Like-append}

pub All-from : {X : Type 0} (P : X → Type 0) (xs : List X) → ((x : X) → Contains xs x → P x) → All P xs
All-from P xs all i d within = all (get_or xs i d) (Contains-get_or xs i d within)

-- One state more.

pub AreMore-same : {S : Type 0} (ss : List S) (s : S) → Contains ss s → AreMore ss s ss
AreMore-same ss s there = record { kept = λ t h. h; there = there; only = λ t h. inl h }

pub AreMore-push : {S : Type 0} (xs : List (Found S)) (x : Found S) → AreMore (whats xs) x.what (whats (xs ++ x ∷ []))
AreMore-push xs x = rw (whats-push xs x) (record {
  kept = λ t h. Contains-append_left (whats xs) (x.what ∷ []) t h;
  there = Contains-push (whats xs) x.what;
  only = λ t h. Contains-push_cases (whats xs) x.what t h;
})

-- what holds of the old ones and of this one holds of all
pub All-more : {S : Type 0} {old : List S} {s : S} {new : List S} (P : S → Type 0) → AreMore old s new → All P old → P s → All P new
All-more {S} {old} {s} {new} P a all here = All-from P new (λ t h. elim (a.only t h) [
  | inl before ↦ All-contains P old t all before
  | inr is_it ↦ subst P is_it here
])

range_from-more : (a n : ℕ) → range_with_len a (suc n) ≡ range_with_len a n ++ (a + n) ∷ []
range_from-more a zero = ap (λ k. k ∷ []) (omega arith)
range_from-more a (suc n) =
    ap (λ ks. a ∷ ks) (range_from-more (a + 1) n ∙ ap (λ k. range_with_len (a + 1) n ++ k ∷ []) (omega arith))

range_with_len-more : (n : ℕ) → range_with_len 0 (n + 1) ≡ range_with_len 0 n ++ n ∷ []
range_with_len-more n = ap (range_with_len 0) (add-one n) ∙ range_from-more 0 n ∙ ap (λ k. range_with_len 0 n ++ k ∷ []) (omega arith)

module _ {S : Type 0} (enabled : S → ℕ) (after : S → ℕ → S) (origin : S → S) where
  -- if k steps lead to all of a level, one more leads to all of the next
  pub led_next : {now next : List S} → AreNext enabled after origin now next
      → (k : ℕ) (s : S) → All (Leads enabled after k s) now → All (Leads enabled after (suc k) s) next
  led_next {now} {next} a k s all = All-from (Leads enabled after (suc k) s) next (λ t h.
      let (u, here, next) = a.only t h in
      (u, next.0, All-contains (Leads enabled after k s) now u all here, next.1, next.2))

module _ {S : Type 0} (enabled : S → ℕ) (after : S → ℕ → S) (origin : S → S) (m : ℕ) where
  -- the successors of one state by its first n picks were added
  pub record Adding (old : List (Found S)) (there : Found S) (new : List (Found S)) (n : ℕ) : Type 0 where
    pub like : Like m new (old ++ map (one_after enabled after there) (range_with_len 0 n))
    pub kept : (t : S) → Contains (whats old) t → Contains (whats new) t
    pub added : (i : ℕ) → i < n → Contains (whats new) (after there.what i)
    pub only : (t : S) → Contains (whats new) t → Contains (whats old) t ⊎ IsNext enabled after there.what t
    pub alike : StartAs origin there.what (whats new)

  pub Adding-more : (old : List (Found S)) (there : Found S) (mid new : List (Found S)) (n : ℕ) (what : S)
      → Adding old there mid n
      → n < enabled there.what
      → what ≡ after there.what n
      → origin what ≡ origin there.what
      → Like m new (mid ++ record { what = what; ways = there.ways; picks = there.picks ++ n ∷ [] } ∷ [])
      → AreMore (whats mid) what (whats new)
      → Adding old there new (n + 1)
  Adding-more old there mid new n what a within is_next same like more = record {
    like =
        let one : Found S = one_after enabled after there n in
        let so_far : List (Found S) = map (one_after enabled after there) (range_with_len 0 n) in
        let added : Like m new (mid ++ one ∷ []) =
        subst (λ w. Like m new (mid ++ record { what = w; ways = there.ways; picks = there.picks ++ n ∷ [] } ∷ [])) is_next like in
        let joined : Like m (mid ++ one ∷ []) ((old ++ so_far) ++ one ∷ []) = Like-append a.like (Like-refl (one ∷ [])) in
        let regrouped : (old ++ so_far) ++ one ∷ [] ≡ old ++ map (one_after enabled after there) (range_with_len 0 (n + 1)) =
        append_assoc old so_far (one ∷ [])
        ∙ ap (λ xs. old ++ xs) (sym (map-append (one_after enabled after there) (range_with_len 0 n) (n ∷ [])))
        ∙ ap (λ ks. old ++ map (one_after enabled after there) ks) (sym (range_with_len-more n)) in
        subst (Like m new) regrouped (Like-trans added joined);
    kept = λ t h. more.kept t (a.kept t h);
    added = added;
    only = only;
    alike = All-more (λ t. origin t ≡ origin there.what) more a.alike same;
  }
    where
      added : (i : ℕ) → i < n + 1 → Contains (whats new) (after there.what i)
      added i h =
          elim (cases_eq i n) [
            | inl at_end ↦ subst (Contains (whats new)) (is_next ∙ ap (after there.what) (sym at_end)) more.there
            | inr other ↦ more.kept (after there.what i) (a.added i (omega arith))
          ]

      only : (t : S) → Contains (whats new) t → Contains (whats old) t ⊎ IsNext enabled after there.what t
      only t h =
          elim (more.only t h) [
            | inl before ↦ a.only t before
            | inr is_it ↦ inr (n, within, sym is_next ∙ is_it)
          ]

  pub Spreads-some : (old : List (Found S)) (there : Found S) (new : List (Found S)) (n : ℕ) → Adding old there new n
      → Spreads enabled after origin there.what false (whats old) (whats new)
  Spreads-some old there new n a = record {
    kept = a.kept;
    there = λ never i h. absurd (cc);
    only = a.only;
    alike = a.alike;
  }

  -- the successors of the states that are done were added, and the rest is left
  pub record Rising (reached done rest new : List (Found S)) : Type 0 where
    pub parts : reached ≡ done ++ rest
    pub like : Like m new (all_after enabled after done)
    pub states : AreNext enabled after origin (whats done) (whats new)

  module _ (reached done left rest mid : List (Found S)) (there : Found S) (is_left : left ≡ there ∷ rest) (a : Rising reached done left mid) where
    -- what holds of each state that was reached holds of those that are done and of the next
    on_done : (P : S → Type 0) → All P (whats reached) → All P (whats done)
    on_done P all = All-from P (whats done) (λ t h. All-contains P (whats reached) t all
        (rw (a.parts, map-append (λ x. x.what) done left) (Contains-append_left (whats done) (whats left) t h)))

    on_next : (P : S → Type 0) → All P (whats reached) → P there.what
    on_next P all = All-contains P (whats reached) there.what all (Contains-middle reached done rest there (a.parts ∙ ap (λ xs. done ++ xs) is_left))

    -- those that were added start as the next does
    pub alike_next : (o : S) → StartAs origin o (whats reached) → StartAs origin there.what (whats mid)
    alike_next o all =
        let is_start : S → Type 0 = λ t. origin t ≡ origin o in
        StartAs-other origin o there.what (whats mid) (sym (on_next is_start all)) (a.states.alike o (on_done is_start all))

    -- one step leads to those that were added, even if not all were
    pub led_some : (new : List (Found S)) (all : Bool) → Spreads enabled after origin there.what all (whats mid) (whats new)
        → (k : ℕ) (s : S) → All (Leads enabled after k s) (whats reached) → All (Leads enabled after (suc k) s) (whats new)
    led_some new all spread k s led =
        let before = led_next enabled after origin a.states k s (on_done (Leads enabled after k s) led) in
        All-from (Leads enabled after (suc k) s) (whats new) (λ t h. elim (spread.only t h) [
          | inl old ↦ All-contains (Leads enabled after (suc k) s) (whats mid) t before old
          | inr next ↦ (there.what, next.0, on_next (Leads enabled after k s) led, next.1, next.2)
        ])

    pub Rising-more : (new : List (Found S)) (all : Bool) → IsTrue all
        → Like m new (mid ++ map (one_after enabled after there) (open_to enabled after there.what))
        → Spreads enabled after origin there.what all (whats mid) (whats new)
        → Rising reached (done ++ there ∷ []) rest new
    Rising-more new all whole like spread = record {
      parts = a.parts ∙ ap (λ xs. done ++ xs) is_left ∙ sym (append_assoc done (there ∷ []) rest);
      like =
          let one : List (Found S) = map (one_after enabled after there) (open_to enabled after there.what) in
          let joined : Like m (mid ++ one) (all_after enabled after done ++ one) = Like-append a.like (Like-refl one) in
          let regrouped : all_after enabled after done ++ one ≡ all_after enabled after (done ++ there ∷ []) =
          sym (flat_map-append (λ x. map (one_after enabled after x) (open_to enabled after x.what)) done (there ∷ [])
          ∙ ap (λ xs. all_after enabled after done ++ xs) (append-nil one)) in
          subst (Like m new) regrouped (Like-trans like joined);
      states = record {
        there = added;
        only = only;
        alike = λ o same. StartAs-other origin there.what o (whats new)
            (All-contains (λ t. origin t ≡ origin o) (whats (done ++ there ∷ [])) there.what same more.there) spread.alike;
      };
    }
      where
        more : AreMore (whats done) there.what (whats (done ++ there ∷ []))
        more = AreMore-push done there

        added : (s : S) (i : ℕ) → Contains (whats (done ++ there ∷ [])) s → i < enabled s → Contains (whats new) (after s i)
        added s i h within =
            elim (more.only s h) [
              | inl before ↦ spread.kept (after s i) (a.states.there s i before within)
              | inr is_it ↦ subst (λ t. Contains (whats new) (after t i)) is_it (spread.there whole i (rw is_it within))
            ]

        only : (t : S) → Contains (whats new) t → (s : S) × Contains (whats (done ++ there ∷ [])) s × IsNext enabled after s t
        only t h =
            elim (spread.only t h) [
              | inl before ↦ let (s, here, next) = a.states.only t before in (s, more.kept s here, next)
              | inr next ↦ (there.what, more.there, next)
            ]
