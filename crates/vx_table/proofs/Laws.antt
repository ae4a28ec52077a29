-- The laws of a table of services, from the test of its rows.
use Rattle.std.proofs.Common.{◌≢◌, ◌≤◌, IsTrue, List, [], ◌∷◌, length, arith}
use Rattle.std.specs.List.{list_all}
use Rattle.std.proofs.lemmas.Bool.{and_parts, not-true, both_ways, leb-true}
use Rattle.std.proofs.lemmas.List.Elements.{All-nil, All-cons, All-weaker}
use Rattle.std.proofs.lemmas.List.Kept.{AllPairs-cons}
use Rattle.std.proofs.lemmas.List.Sums.{AllPass-from_list_all}
use Rattle.std.proofs.lemmas.Slice.Eq.{bytes_eq-Decides}
use Rattle.vx_base.specs.Services.{ServiceRow, service_name, has_right_default}
use Rattle.vx_table.specs.Rows.{is_row, are_apart, is_table, HasLaws}

names_apart : (r s : ServiceRow) → IsTrue (are_apart r s) → service_name r.service ≢ service_name s.service
names_apart r s apart same = both_ways _ (not-true _ apart) ((bytes_eq-Decides _ _).1 same)

-- rows that pass the test have the laws
pub laws_of : (rows : List ServiceRow) → IsTrue (is_table rows) → HasLaws rows
laws_of [] passes = record {
  names = λ i j d before within. absurd (omega arith);
  defaults = All-nil _;
  lengths = All-nil _;
}
laws_of (r ∷ rows) passes =
    let parts = and_parts (is_row r) _ passes in
    let row = and_parts _ (list_all has_right_default r.params) parts.0 in
    let below = and_parts (list_all (are_apart r) rows) (is_table rows) parts.1 in
    let apart = AllPass-from_list_all (are_apart r) rows below.0 in
    let rest = laws_of rows below.1 in
    record {
      names = AllPairs-cons (λ p q. service_name p.service ≢ service_name q.service) r rows (All-weaker _ _ (names_apart r) rows apart) rest.names;
      defaults = All-cons (λ p. IsTrue (list_all has_right_default p.params)) r rows row.1 rest.defaults;
      lengths = All-cons (λ p. length p.params ≤ 9) r rows (leb-true _ _ row.0) rest.lengths;
    }
