-- A seat that has entered nothing is one seat.
use Rattle.std.proofs.Common.{◌≡◌, ap, arith}
use Rattle.std.specs.Prelude.{Option}
use Rattle.atomic_table.specs.Seated.{TableId}
use Rattle.atomic_table.specs.Table.{Me}
use Rattle.atomic_table.specs.declared.shared.Seat.{Seat}
use Rattle.vx_turn.specs.Seats.{IsNew, IsOne}
use Rattle.vx_turn.specs.declared.view.View.{View}

module _ {T E : Type 0} where
  pub new_one : (z : TableId) (s x : Seat (Option T) (View E)) → x ≡ s → IsNew z s → IsOne z x
  new_one z s x e h = rw e (record {
    free = record {
      table = h.0;
      outside = record {
        holds = ap (λ (m : Me (Option T) (View E)). m.1) h.1;
        stage = ap (λ (m : Me (Option T) (View E)). m.0.stage) h.1;
        part = (let one = ap (λ (m : Me (Option T) (View E)). m.0.parts) h.1 in omega (arith, one));
      };
    };
    one = ap (λ (m : Me (Option T) (View E)). m.0.parts) h.1;
  })
