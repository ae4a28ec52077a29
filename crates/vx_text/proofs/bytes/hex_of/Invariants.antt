use Rattle.std.proofs.Common.{◌≡◌, ◌≤◌, drop}
use Rattle.std.specs.List.{list_all, fold}
use Rattle.vx_text.specs.Bytes.{is_hex_digit, with_hex_digit, hex_digits_value}
use Rattle.vx_text.proofs.bytes.hex_of.Given as goal

abbrev pub invariant-loop-digit : goal.invariant-loop-digit
invariant-loop-digit l = record {
  small : l.number ≤ 4294967295;
  value : hex_digits_value l.run ≡ fold with_hex_digit l.number (drop l.digit-index l.run);
  digits : list_all is_hex_digit l.run ≡ list_all is_hex_digit (drop l.digit-index l.run);
}
