use Rattle.std.proofs.Common.{◌≡◌, ◌≤◌, drop}
use Rattle.std.specs.List.{list_all, fold}
use Rattle.vx_base.specs.Name.{is_digit}
use Rattle.vx_lines.specs.Numbers.{with_digit, digits_value}
use Rattle.vx_lines.proofs.number.value_up_to.Given as goal

abbrev pub invariant-loop-digit : goal.invariant-loop-digit
invariant-loop-digit l = record {
  small : l.number ≤ l.most;
  value : digits_value l.digits ≡ fold with_digit l.number (drop l.digit-index l.digits);
  digits : list_all is_digit l.digits ≡ list_all is_digit (drop l.digit-index l.digits);
}
