-- Seats that have taken in no other.
use Rattle.std.proofs.Common.{◌≡◌, suc, List, [], ◌∷◌, length, Option, refl, arith}
use Rattle.std.specs.Prelude.{All}
use Rattle.atomic_table.specs.Seated.{TableId}
use Rattle.atomic_table.specs.declared.shared.Seat.{Seat}
use Rattle.vx_turn.specs.declared.view.View.{View}
use Rattle.vx_turn.specs.Seats.{IsFree, IsOne, parts_of}

module _ {T E : Type 0} (z : TableId) where
  -- they stand for as many seats as they are
  pub ones : (xs : List (Seat (Option T) (View E))) → All (IsOne z) xs → parts_of xs ≡ length xs
  ones [] h = refl
  ones (x ∷ xs) h =
      let here = (h 0 x (omega arith)).one in
      let rest : All (IsOne z) xs = λ k d below. h (suc k) d (omega arith) in
      let more = ones xs rest in
      omega arith

  pub all_free : (xs : List (Seat (Option T) (View E))) → All (IsOne z) xs → All (IsFree z) xs
  all_free xs h = λ k d below. (h k d below).free
