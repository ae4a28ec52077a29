-- Digits and their numbers.
use mathlib.Core.Bool.{and-false}
use Rattle.std.proofs.Common.{◌≡◌, ℕ, ◌<◌, List, false, nat_le, None, arith, refl, rules}
use Rattle.std.specs.List.{fold}
use Rattle.vx_lines.specs.Numbers.{with_digit, digits_value, value_up_to}
use Rattle.vx_text.proofs.Digits.{fold-grows}

-- a number that is too large stays so
pub value_up_to-large : (most : ℕ) (run ds : List ℕ) (n : ℕ) → digits_value run ≡ fold with_digit n ds → most < n → None ≡ value_up_to most run
value_up_to-large most run ds n e h =
    let large : most < digits_value run = omega (arith, e, h, fold-grows n ds) in
    let test : nat_le (digits_value run) most ≡ false = search (rules, arith) in
    rw (test, and-false) refl
