use Rattle.std.proofs.Common.{◌≡◌, ◌≢◌, ◌⊎◌, ℕ, zero, suc, ◌+◌, ◌%◌, ◌^◌, ◌<◌, ◌≤◌, ◌==◌, List, [], ◌∷◌, ◌++◌, length, set, cond, Some, refl, sym, ap, ◌∙◌, subst, ⊎_elim, inl, inr, append_assoc, append-nil, arith, length-append, slice_index, slice_set}
use Rattle.std.proofs.Math.Nat.{mod-add-mod}
use Rattle.std.specs.Prelude.{slice_get}
use Rattle.std.proofs.lemmas.Bool.Decides.{nat_tests}
use mathlib.Core.Option.{some, some-ne-none, some-injective}
use lib.ListN.{get_elem?}
use Rattle.atomic_table.proofs.Lists.{at_set, one_turn}
use Rattle.std.specs.Prelude.{All, IfSome, Option, option_to_list}
use Rattle.std.proofs.lemmas.List.Elements.{All-pop}
use Rattle.vx_base.proofs.Lists.{get_front, total_append, total_push}
use Rattle.vx_turn.specs.declared.view.View.{View}
use Rattle.vx_turn.specs.Rule.{once_below, StartsWith, numbered, times, Stands, owned, glued}
use Rattle.vx_base.specs.Lists.{total}

module _ {A : Type 0} where
  pub total_set : (f : A → ℕ) (xs : List A) (i : ℕ) (v w : A) → get_elem? xs i ≡ some v → total f (set xs i w) + f v ≡ total f xs + f w
  total_set f [] i v w e = absurd (some-ne-none v (sym e))
  total_set f (x ∷ xs) zero v w e = let same : f x ≡ f v = ap f (some-injective x v e) in omega arith
  total_set f (x ∷ xs) (suc i) v w e = let more = total_set f xs i v w e in omega arith

  pub total_le : (f g : A → ℕ) (xs : List A) → ((i : ℕ) (v : A) → get_elem? xs i ≡ some v → f v ≤ g v) → total f xs ≤ total g xs
  total_le f g [] h = omega arith
  total_le f g (x ∷ xs) h = let here = h 0 x refl in let more = total_le f g xs (λ i v e. h (suc i) v e) in omega arith

  pub at_below : (xs : List A) (k : ℕ) (a : A) → get_elem? xs k ≡ some a → k < length xs
  at_below [] k a e = absurd (some-ne-none a (sym e))
  at_below (x ∷ xs) zero a e = omega arith
  at_below (x ∷ xs) (suc k) a e = let more = at_below xs k a e in omega arith

  -- the first element, and the rest
  pub head_is : (xs : List A) (a : A) → get_elem? xs 0 ≡ some a → (ys : List A) × (xs ≡ a ∷ ys)
  head_is [] a e = absurd (some-ne-none a (sym e))
  head_is (x ∷ xs) a e = (xs, ap (λ (y : A). y ∷ xs) (some-injective x a e))

  -- a fact of each element, after one was changed
  pub each_set : (P : ℕ → A → Type 0) (xs : List A) (id : ℕ) (w : A) → P id w → ((i : ℕ) (u : A) → i ≢ id → get_elem? xs i ≡ some u → P i u) → (i : ℕ) (u : A) → get_elem? (set xs id w) i ≡ some u → P i u
  each_set P xs id w mine others i u e =
      ⊎_elim
      (λ (x : (i ≡ id) × (w ≡ u)). subst (λ (y : ℕ × A). P y.0 y.1) (λ k. (sym x.0 k, x.1 k)) mine)
      (λ (x : (i ≢ id) × (get_elem? xs i ≡ some u)). others i u x.0 x.1)
      (at_set xs id i w u e)

  pub starts_further : (log seen more : List A) → StartsWith log seen → StartsWith (log ++ more) seen
  starts_further log seen more s = (s.0 ++ more, ap (λ (l : List A). l ++ more) s.1 ∙ append_assoc seen s.0 more)

  pub starts_here : (log : List A) → StartsWith log log
  starts_here log = ([], sym (append-nil log))

-- the words once a ticket was drawn
pub words_drawn : (ws : List ℕ) (base : ℕ) (queue : List ℕ) (i : ℕ) → ws ≡ ((base + length queue) % 2 ^ 64) ∷ (base % 2 ^ 64) ∷ []
    → slice_set ws 0 ((slice_index ws 0 + 1) % 2 ^ 64) ≡ ((base + length (queue ++ i ∷ [])) % 2 ^ 64) ∷ (base % 2 ^ 64) ∷ []
words_drawn ws base queue i e =
    let longer : base + length queue + 1 ≡ base + length (queue ++ i ∷ []) = omega (arith, length-append queue (i ∷ [])) in
    ap (λ (l : List ℕ). slice_set l 0 ((slice_index l 0 + 1) % 2 ^ 64)) e ∙ ap (λ (m : ℕ). m ∷ (base % 2 ^ 64) ∷ []) (mod-add-mod (base + length queue) (2 ^ 64) 1 ∙ ap (λ (k : ℕ). k % 2 ^ 64) longer)

pub words_passed : (ws : List ℕ) (base i : ℕ) (queue : List ℕ) → ws ≡ ((base + length (i ∷ queue)) % 2 ^ 64) ∷ (base % 2 ^ 64) ∷ []
    → slice_set ws 1 ((slice_index ws 1 + 1) % 2 ^ 64) ≡ ((base + 1 + length queue) % 2 ^ 64) ∷ ((base + 1) % 2 ^ 64) ∷ []
words_passed ws base i queue e =
    let longer : base + length (i ∷ queue) ≡ base + 1 + length queue = omega arith in
    ap (λ (l : List ℕ). slice_set l 1 ((slice_index l 1 + 1) % 2 ^ 64)) e
    ∙ (ap (λ (m : ℕ). ((base + length (i ∷ queue)) % 2 ^ 64) ∷ m ∷ []) (mod-add-mod base (2 ^ 64) 1) ∙ ap (λ (k : ℕ). (k % 2 ^ 64) ∷ ((base + 1) % 2 ^ 64) ∷ []) longer)

pub words_same : (ws : List ℕ) (a b : ℕ) → ws ≡ a ∷ b ∷ [] → slice_set ws 1 (slice_index ws 1) ≡ a ∷ b ∷ []
words_same ws a b e = ap (λ (l : List ℕ). slice_set l 1 (slice_index l 1)) e

-- of fewer than 2^64 tickets one has the serving number
pub first_served : (base k : ℕ) → k < 17 → base % 2 ^ 64 ≡ (base + k) % 2 ^ 64 → k ≡ 0
first_served base k few e = let same : base ≡ base + k = one_turn base (base + k) (2 ^ 64) (omega arith) (omega arith) e in omega arith

one_more : (m k : ℕ) → cond (m == k) 1 0 + once_below k m ≡ once_below k (m + 1)
one_more m k = grind (arith, nat_tests)

module _ {E : Type 0} where
  pub times_append : (k : ℕ) (ps qs : List (ℕ × E)) → times k (ps ++ qs) ≡ times k ps + times k qs
  times_append k ps qs = total_append (λ (p : ℕ × E). cond (p.0 == k) 1 0) ps qs

  pub times_numbered : (k m : ℕ) (es : List E) → times k (numbered m es) + once_below k m ≡ once_below k (m + length es)
  times_numbered k m [] = let z : m ≡ m + 0 = omega arith in let e : once_below k m ≡ once_below k (m + 0) = ap (once_below k) z in omega arith
  times_numbered k m (e ∷ es) =
      let more = times_numbered k (m + 1) es in
      let one = one_more m k in
      let same : once_below k (m + 1 + length es) ≡ once_below k (m + length (e ∷ es)) = ap (once_below k) (omega arith) in
      omega arith

module _ {A : Type 0} where
  at_append : (ps qs : List A) (i : ℕ) (p : A) → get_elem? (ps ++ qs) i ≡ some p → (get_elem? ps i ≡ some p) ⊎ ((j : ℕ) × (get_elem? qs j ≡ some p))
  at_append [] qs i p e = inr (i, e)
  at_append (x ∷ xs) qs zero p e = inl e
  at_append (x ∷ xs) qs (suc i) p e = at_append xs qs i p e

  get_mid : (front es : List A) (e : A) → slice_get (front ++ e ∷ es) (length front) ≡ Some e
  get_mid [] es e = refl
  get_mid (x ∷ xs) es e = get_mid xs es e

module _ {E : Type 0} where
  pub stands_further : (log more : List E) (ps : List (ℕ × E)) → Stands log ps → Stands (log ++ more) ps
  stands_further log more ps h i p e = get_front log more p.0 p.1 (h i p e)

  pub stands_append : (log : List E) (ps qs : List (ℕ × E)) → Stands log ps → Stands log qs → Stands log (ps ++ qs)
  stands_append log ps qs h k i p e = ⊎_elim (λ (x : get_elem? ps i ≡ some p). h i p x) (λ (x : (j : ℕ) × (get_elem? qs j ≡ some p)). k x.0 p x.1) (at_append ps qs i p e)

  pub stands_numbered : (front es : List E) → Stands (front ++ es) (numbered (length front) es)
  stands_numbered front [] i p e = absurd (some-ne-none p (sym e))
  stands_numbered front (x ∷ es) zero p e =
      let P : ℕ × E → Type 0 = λ q. slice_get (front ++ x ∷ es) q.0 ≡ Some q.1 in
      subst P (some-injective (length front, x) p e) (get_mid front es x)
  stands_numbered front (x ∷ es) (suc i) p e =
      let P : List E → Type 0 = λ l. slice_get l p.0 ≡ Some p.1 in
      let longer : length front + 1 ≡ length (front ++ x ∷ []) = omega (arith, length-append front (x ∷ [])) in
      let e' : get_elem? (numbered (length (front ++ x ∷ [])) es) i ≡ some p = subst (λ (m : ℕ). get_elem? (numbered m es) i ≡ some p) longer e in
      subst P (append_assoc front (x ∷ []) es) (stands_numbered (front ++ x ∷ []) es i p e')

module _ {A : Type 0} where
  pub total_none : (f : A → ℕ) (xs : List A) (i : ℕ) (v : A) → total f xs ≡ 0 → get_elem? xs i ≡ some v → f v ≡ 0
  total_none f [] i v t e = absurd (some-ne-none v (sym e))
  total_none f (x ∷ xs) zero v t e = let same : f x ≡ f v = ap f (some-injective x v e) in omega arith
  total_none f (x ∷ xs) (suc i) v t e = total_none f xs i v (omega arith) e

  pub total_zero : (f : A → ℕ) (xs : List A) → ((i : ℕ) (v : A) → get_elem? xs i ≡ some v → f v ≡ 0) → total f xs ≡ 0
  total_zero f [] h = refl
  total_zero f (x ∷ xs) h = let here = h 0 x refl in let more = total_zero f xs (λ i v e. h (suc i) v e) in omega arith

module _ {A : Type 0} where
  -- what a pop takes off
  pub popped : (P : A → Type 0) (xs ys : List A) (r : Option A) (x : A) → xs ≡ ys ++ option_to_list r → r ≡ Some x → All P xs → All P ys × P x
  popped P xs ys r x e is h =
      let both = All-pop P xs ys r e h in
      (both.0, subst (λ (o : Option A). IfSome o P) is both.1)

  pub total_popped : (f : A → ℕ) (xs ys : List A) (r : Option A) (x : A) → xs ≡ ys ++ option_to_list r → r ≡ Some x → total f xs ≡ total f ys + f x
  total_popped f xs ys r x e is = ap (total f) (e ∙ ap (λ (o : Option A). ys ++ option_to_list o) is) ∙ total_push f ys x

module _ {E : Type 0} where
  pub owned_glued : (k : ℕ) (v w : View E) → owned k (glued v w) ≡ owned k v + owned k w
  owned_glued k v w = let more = total_append (times k) v.gathered (w.own ∷ w.gathered) in omega arith
