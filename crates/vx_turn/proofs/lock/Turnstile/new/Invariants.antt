use Rattle.std.proofs.Common.{◌≡◌, ◌+◌, ◌≤◌, [], vec_len, vec_capacity}
use Rattle.std.specs.Prelude.{All}
use Rattle.vx_turn.specs.Rule.{first_view}
use Rattle.vx_turn.specs.Seats.{IsNew}
use Rattle.vx_turn.proofs.lock.Turnstile.new.Given as goal

abbrev pub invariant-seats : goal.invariant-seats
invariant-seats g l = record {
  table : l.first.table_id ≡ l.initial.first.table_id;
  me : l.first.me ≡ (first_view l.first.me.0.parts, []);
  parts : l.first.me.0.parts + vec_len l.made ≡ l.seats;
  count : vec_len l.made + 1 ≡ l._i;
  room : l.seats ≤ vec_capacity l.made;
  made : All (IsNew l.initial.first.table_id) l.made.items;
}
