use Rattle.std.proofs.Common.{◌≡◌, ◌⊎◌, ◌+◌, ℕ, Option, vec_len}
use mathlib.Core.Option.{some}
use lib.ListN.{get_elem?}
use Rattle.atomic_table.specs.declared.shared.Seat.{Seat}
use Rattle.vx_turn.specs.declared.view.View.{View}
use Rattle.std.specs.Prelude.{All}
use Rattle.vx_turn.specs.Rule.{owned}
use Rattle.vx_turn.specs.Seats.{IsFree, IsTaken, left_by, parts_of}
use Rattle.vx_turn.proofs.lock.Turnstile.close.Given as goal

abbrev pub invariant-seats : goal.invariant-seats
invariant-seats g l = record {
  free : All (IsFree l.self.table) l.seats.items;
  mine : IsFree l.self.table l.all;
  parts : parts_of l.seats.items + l.all.me.0.parts ≡ parts_of l.fn.seats.items;
  taken : (i : ℕ) (s : Seat (Option g.row.T.Denot) (View g.row.E.Denot)) → get_elem? l.fn.seats.items i ≡ some s → (get_elem? l.seats.items i ≡ some s) ⊎ IsTaken s.me.0.own l.all.me.0;
  left : (k : ℕ) → left_by k l.seats.items + owned k l.all.me.0 ≡ left_by k l.fn.seats.items;
}

abbrev pub decreases-seats : goal.decreases-seats
decreases-seats g l = vec_len l.seats
