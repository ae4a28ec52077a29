-- What a seat left is kept by the seat that took it in.
use Rattle.std.proofs.Common.{◌≡◌, ◌⊎◌, ℕ, List, [], ◌∷◌, ◌++◌, length, Option, Some, refl, sym, ap, ◌∙◌, subst, inl, inr, ⊎_elim}
use Rattle.std.specs.Prelude.{option_to_list}
use mathlib.Core.Option.{some}
use lib.ListN.{get_elem?}
use Rattle.atomic_table.proofs.Lists.{at_snoc, at_longer}
use Rattle.vx_turn.specs.declared.view.View.{View}
use Rattle.vx_turn.specs.Rule.{glued, Stands, Shared}
use Rattle.vx_turn.specs.Seats.{IsTaken}

module _ {A : Type 0} where
  pub at_popped : (xs ys : List A) (r : Option A) (x : A) → xs ≡ ys ++ option_to_list r → r ≡ Some x → (i : ℕ) (s : A) → get_elem? xs i ≡ some s → (get_elem? ys i ≡ some s) ⊎ (x ≡ s)
  at_popped xs ys r x e is i s at =
      let whole : xs ≡ ys ++ x ∷ [] = e ∙ ap (λ (o : Option A). ys ++ option_to_list o) is in
      at_snoc ys x s i (subst (λ (l : List A). get_elem? l i ≡ some s) whole at)

  at_mid : (xs ys : List A) (y : A) → get_elem? (xs ++ y ∷ ys) (length xs) ≡ some y
  at_mid [] ys y = refl
  at_mid (x ∷ xs) ys y = at_mid xs ys y

module _ {E : Type 0} where
  pub taken_glued : (ps : List (ℕ × E)) (v w : View E) → IsTaken ps v → IsTaken ps (glued v w)
  taken_glued ps v w h = ⊎_elim (λ (x : ps ≡ v.own). inl x) (λ (x : (j : ℕ) × (get_elem? v.gathered j ≡ some ps)). inr (x.0, at_longer v.gathered (w.own ∷ w.gathered) x.0 ps x.1)) h

  pub taken_new : (v w : View E) → IsTaken w.own (glued v w)
  taken_new v w = inr (length v.gathered, at_mid v.gathered w.gathered w.own)

  pub taken_stands : (log : List E) (ps : List (ℕ × E)) (v : View E) → Shared log v → IsTaken ps v → Stands log ps
  taken_stands log ps v h t = ⊎_elim (λ (x : ps ≡ v.own). subst (Stands log) (sym x) h.own) (λ (x : (j : ℕ) × (get_elem? v.gathered j ≡ some ps)). h.gathered x.0 ps x.1) t

  -- a list that is kept, once the view became w
  pub taken_along : (ps : List (ℕ × E)) (v w : View E) → v ≡ w → IsTaken ps v → IsTaken ps w
  taken_along ps v w e h = subst (IsTaken ps) e h
