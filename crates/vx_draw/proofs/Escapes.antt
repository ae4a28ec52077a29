-- No byte of an escaped text leaves the element or the attribute that it stands in.
use Rattle.std.proofs.Common.{ℕ, List, [], ◌∷◌, ◌==◌, IsTrue, refl, inl, inr}
use Rattle.std.specs.List.{list_all}
use Rattle.std.proofs.lemmas.Bool.{cases_Bool, and_from, not_from_false}
use Rattle.std.proofs.lemmas.List.Folds.{list_all-append}
use Rattle.vx_draw.specs.Shapes.{is_printed, is_inert, escaped_byte, escaped}

byte_inert : (b : ℕ) → IsTrue (list_all is_inert (escaped_byte b))
unfolding escaped_byte
byte_inert b = elim (cases_Bool (b == 38)) [
  | inl here ↦ rw here refl
  | inr amp ↦ rw amp (elim (cases_Bool (b == 60)) [
    | inl here ↦ rw here refl
    | inr less ↦ rw less (elim (cases_Bool (b == 62)) [
      | inl here ↦ rw here refl
      | inr more ↦ rw more (elim (cases_Bool (b == 34)) [
        | inl here ↦ rw here refl
        | inr quote ↦ rw quote (elim (cases_Bool (b == 10)) [
          | inl here ↦ rw here refl
          | inr feed ↦ rw feed (elim (cases_Bool (is_printed b)) [
            | inl here ↦ rw here (and_from _ _ (and_from _ _ here (and_from _ _ (not_from_false _ less) (and_from _ _ (not_from_false _ more) (not_from_false _ quote)))) refl)
            | inr other ↦ rw other refl
          ])
        ])
      ])
    ])
  ])
]

pub text_inert : (text : List ℕ) → IsTrue (list_all is_inert (escaped text))
text_inert [] = refl
text_inert (b ∷ bs) = rw list_all-append (and_from _ _ (byte_inert b) (text_inert bs))
