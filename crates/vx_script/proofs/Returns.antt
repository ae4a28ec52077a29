-- A return at the end of a line.
use Rattle.std.proofs.Common.{◌≡◌, ℕ, ◌==◌, Bool, true, false, ◌∙◌, List, [], ◌∷◌, ◌++◌, refl, ap, if◌then◌else◌}
use Rattle.vx_script.specs.Steps.{without_return}

onto : (b : ℕ) (front : List ℕ) (last : ℕ) → without_return (b ∷ (front ++ last ∷ [])) ≡ b ∷ without_return (front ++ last ∷ [])
onto b [] last = refl
onto b (c ∷ front) last = refl

both : (t : Bool) (b : ℕ) (front back : List ℕ) → b ∷ (if t then front else back) ≡ (if t then b ∷ front else b ∷ back)
both true b front back = refl
both false b front back = refl

pub without_last : (front : List ℕ) (last : ℕ) → without_return (front ++ last ∷ []) ≡ (if last == 13 then front else front ++ last ∷ [])
without_last [] last = refl
without_last (b ∷ front) last = onto b front last ∙ ap (λ z. b ∷ z) (without_last front last) ∙ both (last == 13) b front (front ++ last ∷ [])
