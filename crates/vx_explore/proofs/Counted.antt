-- Different things that all stand in a list are at most as many as its length.
use Rattle.std.proofs.Common.{◌≡◌, ◌≢◌, ℕ, zero, suc, ◌<◌, ◌≤◌, List, [], ◌∷◌, length, get_or, true, refl, sym, ap, ◌∙◌, arith, eqb, eqb-true, inl, inr}
use Rattle.std.specs.Prelude.{AllPairs, All, Contains}
use Rattle.std.specs.List.{list_any, IsDistinct}
use Rattle.std.proofs.lemmas.Bool.{or_cases, ne_eqb}
use Rattle.std.proofs.lemmas.List.{get_or_default}
use Rattle.std.proofs.lemmas.Map.Keys.{IsDistinct-from_apart}
use Rattle.std.proofs.lemmas.Map.Steps.{length-le_from_distinct_below}

module _ {S : Type 0} (level : List S) where
  -- where each of these stands in the level
  record Places (ss : List S) (ns : List ℕ) : Type 0 where
    pub len : length ns ≡ length ss
    pub within : (i d : ℕ) → i < length ns → get_or ns i d < length level
    pub at : (i d : ℕ) (s : S) → i < length ns → get_or level (get_or ns i d) (get_or ss i s) ≡ get_or ss i s

  places : (ss : List S) → All (Contains level) ss → (ns : List ℕ) × Places ss ns
  places [] all = ([], record { len = refl; within = λ i d h. absurd (omega arith); at = λ i d s h. absurd (omega arith) })
  places (s ∷ ss) all =
      let here = all 0 s (omega arith) in
      let rest = places ss (λ i d h. all (suc i) d (omega arith)) in (
        here.0 ∷ rest.0,
        record {
          len = ap suc rest.1.len;
          within = within here rest.1;
          at = at here rest.1;
        },
      )
    where
      within : (here : Contains level s) {ns : List ℕ} → Places ss ns → (i d : ℕ) → i < suc (length ns) → get_or (here.0 ∷ ns) i d < length level
      within here p zero d h = here.1
      within here p (suc i) d h = p.within i d (omega arith)

      at : (here : Contains level s) {ns : List ℕ} → Places ss ns → (i d : ℕ) (t : S) → i < suc (length ns) → get_or level (get_or (here.0 ∷ ns) i d) (get_or (s ∷ ss) i t) ≡ get_or (s ∷ ss) i t
      at here p zero d t h = here.2
      at here p (suc i) d t h = p.at i d t (omega arith)

  apart : (ss : List S) (ns : List ℕ) → Places ss ns → AllPairs (λ a b. a ≢ b) ss → IsDistinct eqb ns
  apart ss ns p different = IsDistinct-from_apart eqb ns (λ i j d below h. ne_eqb (get_or ns i d) (get_or ns j d) (λ same.
      let inside : i < length ns = omega arith in
      elim_at i j d below h inside same))
    where
      elim_at : (i j d : ℕ) → i < j → j < length ns → i < length ns → get_or ns i d ≡ get_or ns j d → ⊥
      elim_at i j d below h inside same = at_some ss different refl
        where
          at_some : (ts : List S) → AllPairs (λ a b. a ≢ b) ts → ts ≡ ss → ⊥
          at_some [] a e = absurd (let none : length ss ≡ 0 = ap length (sym e) in let len = p.len in omega arith)
          at_some (t ∷ ts) a e =
              different i j t below (rw (sym p.len) h)
              (sym (p.at i d t inside)
              ∙ get_or_default level (get_or ns i d) (get_or ss i t) (get_or ss j t) (p.within i d inside)
              ∙ ap (λ n. get_or level n (get_or ss j t)) same
              ∙ p.at j d t h)

  below : (n q : ℕ) (ns : List ℕ) → ((i d : ℕ) → i < length ns → get_or ns i d < n) → list_any (eqb q) ns ≡ true → q < n
  below n q [] within any = absurd (cc)
  below n q (k ∷ ns) within any =
      elim (or_cases (eqb q k) (list_any (eqb q) ns) any) [
        | inl here ↦ let same : q ≡ k = eqb-true q k here in let less : k < n = within 0 0 (omega arith) in omega arith
        | inr there ↦ below n q ns (λ i d h. within (suc i) d (omega arith)) there
      ]

  pub length-le_from_among : (ss : List S) → AllPairs (λ a b. a ≢ b) ss → All (Contains level) ss → length ss ≤ length level
  length-le_from_among ss different all =
      let p = places ss all in
      let few : length p.0 ≤ length level = length-le_from_distinct_below p.0 (length level) (apart ss p.0 p.1 different) (λ q any. below (length level) q p.0 p.1.within any) in
      let len = p.1.len in
      omega arith
