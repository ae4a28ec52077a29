-- A number that is too large stays so.
use mathlib.Core.Bool.{and-false}
use Rattle.std.proofs.Common.{◌≡◌, ℕ, ◌<◌, ◌≤◌, List, [], ◌∷◌, false, nat_le, None, arith, refl, rules}
use Rattle.std.specs.List.{fold}
use Rattle.vx_text.specs.Bytes.{with_digit, digits_value, decimal_of, with_hex_digit, hex_digits_value, hex_of}

pub fold-grows : (n : ℕ) (ds : List ℕ) → n ≤ fold with_digit n ds
fold-grows n [] = omega arith
fold-grows n (d ∷ ds) = omega (arith, fold-grows (with_digit n d) ds)

pub decimal_of-large : (run ds : List ℕ) (n : ℕ) → digits_value run ≡ fold with_digit n ds → 4294967295 < n → None ≡ decimal_of run
decimal_of-large run ds n e h =
    let large : 4294967295 < digits_value run = omega (arith, e, fold-grows n ds) in
    let test : nat_le (digits_value run) 4294967295 ≡ false = search (rules, arith) in
    rw (test, and-false) refl

pub hex-grows : (n : ℕ) (ds : List ℕ) → n ≤ fold with_hex_digit n ds
hex-grows n [] = omega arith
hex-grows n (d ∷ ds) = omega (arith, hex-grows (with_hex_digit n d) ds)

pub hex_of-large : (run ds : List ℕ) (n : ℕ) → hex_digits_value run ≡ fold with_hex_digit n ds → 4294967295 < n → None ≡ hex_of run
hex_of-large run ds n e h =
    let large : 4294967295 < hex_digits_value run = omega (arith, e, hex-grows n ds) in
    let test : nat_le (hex_digits_value run) 4294967295 ≡ false = search (rules, arith) in
    rw (test, and-false, and-false) refl
