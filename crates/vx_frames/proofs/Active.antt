-- The first AST from the top is the innermost.
use Rattle.std.proofs.Common.{◌≡◌, List, [], ◌∷◌, true, false, if◌then◌else◌, IsTrue, Some, option_map, inl, inr, subst, refl, arith}
use Rattle.std.specs.List.{find}
use Rattle.std.proofs.lemmas.Bool.{and_parts, and_from, or_right, or_left, leb-true, le-leb, cases_Bool, not_from_false}
use Rattle.vx_base.specs.Modes.{reaches, rank}
use Rattle.vx_base.specs.declared.frame.Frame.{Frame}
use Rattle.vx_base.specs.declared.mode.Mode.{Mode}
use Rattle.vx_base.specs.Frames.{active_mode, is_ast}
use Rattle.vx_frames.specs.Frames.{is_inmost, may_stand_on, goes_inward}

-- the mode of the first frame that is an AST's
pub active_find : (fs : List Frame) → active_mode fs ≡ option_map (λ f. f.mode) (find (λ f. is_ast f.kind) fs)
active_find [] = refl
active_find (f ∷ fs) = elim (is_ast f.kind) as (λ b. (if b then Some f.mode else active_mode fs) ≡ option_map (λ f. f.mode) (if b then Some f else find (λ f. is_ast f.kind) fs)) [ true ↦ refl | false ↦ active_find fs ]

-- what a frame may stand on, a frame that is not further out may stand on
further_in : (f g : Frame) (fs : List Frame) → IsTrue (reaches g.mode f.mode) → IsTrue (may_stand_on g fs) → IsTrue (may_stand_on f fs)
further_in f g [] inner stands = stands
further_in f g (h ∷ fs) inner stands = le-leb _ _ (omega (arith, leb-true _ _ inner, leb-true _ _ stands))

-- all below a frame is of its mode or further out
below_inmost : (f : Frame) (fs : List Frame) → IsTrue (may_stand_on f fs) → IsTrue (goes_inward fs) → IsTrue (is_inmost f.mode fs)
below_inmost f [] stands inward = refl
below_inmost f (g ∷ fs) stands inward =
    let parts = and_parts (may_stand_on g fs) (goes_inward fs) inward in
    and_from _ _ (or_right _ _ stands) (below_inmost f fs (further_in f g fs stands parts.0) parts.1)

pub inmost_active : (fs : List Frame) (m : Mode) → IsTrue (goes_inward fs) → active_mode fs ≡ Some m → IsTrue (is_inmost m fs)
inmost_active [] m inward active = refl
inmost_active (f ∷ fs) m inward active =
    let parts = and_parts (may_stand_on f fs) (goes_inward fs) inward in
    elim (cases_Bool (is_ast f.kind)) [
      | inl ast ↦
          let here : Some f.mode ≡ Some m = rw ast at active in
          let same : f.mode ≡ m = cc in
          let P : Mode → Type 0 = λ k. IsTrue (is_inmost k (f ∷ fs)) in
          subst P same (and_from _ _ (or_right _ _ (le-leb (rank f.mode) (rank f.mode) (omega arith))) (below_inmost f fs parts.0 parts.1))
      | inr other ↦
          let further : active_mode fs ≡ Some m = rw other at active in
          and_from _ _ (or_left _ _ (not_from_false _ other)) (inmost_active fs m parts.1 further)
    ]
