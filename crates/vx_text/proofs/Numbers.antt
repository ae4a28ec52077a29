-- Decimal spellings are read back.
use Rattle.std.proofs.Common.{◌≡◌, ℕ, ◌+◌, ◌/◌, ◌%◌, ◌<◌, ◌≤◌, ◌^◌, true, List, [], ◌∷◌, ◌++◌, length, nat_le, refl, ◌∙◌, arith, Some, length-append}
use Rattle.std.specs.List.{list_all}
use Rattle.std.specs.Prelude.{decimal}
use Rattle.std.proofs.lemmas.Fmt.{decimal_by_steps}
use Rattle.std.proofs.lemmas.Bool.{le-leb, and_parts}
use Rattle.std.proofs.lemmas.Bool.Decides.{nat_tests}
use Rattle.std.proofs.lemmas.List.Sums.{fold_push}
use Rattle.vx_base.proofs.Any.{all_push, all_weaker}
use Rattle.vx_text.specs.declared.token.Tok.TheVariants as tok
use Rattle.vx_text.specs.declared.first.First.TheVariants.{Found}
use Rattle.vx_text.specs.Bytes.{with_digit, digits_value, is_digit, is_alphanumeric, decimal_of}
use Rattle.vx_text.specs.First.{first, number}
use Rattle.vx_text.proofs.Runs.{stops, run_of}
use Rattle.vx_text.proofs.Leading.{first-cons, digit_leads}

pub record Spells (n : ℕ) (ds : List ℕ) : Type 0 where
  pub some : 0 < length ds
  pub digits : list_all is_digit ds ≡ true
  pub value : digits_value ds ≡ n

a_digit : (m : ℕ) → m < 10 → is_digit (48 + m) ≡ true
a_digit m h = grind (arith, nat_tests, h)

one : (n : ℕ) → n < 10 → Spells n ((48 + n) ∷ [])
one n h = record { some = omega arith; digits = rw (a_digit n h) refl; value = omega arith }

more : (n : ℕ) (ds : List ℕ) → 10 ≤ n → Spells (n / 10) ds → Spells n (ds ++ (48 + n % 10) ∷ [])
more n ds h s = record {
  some = omega (arith, length-append ds ((48 + n % 10) ∷ []));
  digits = all_push is_digit ds (48 + n % 10) s.digits (a_digit (n % 10) (omega arith));
  value = rw (fold_push with_digit 0 ds (48 + n % 10), s.value) (omega arith);
}

pub spells : (n : ℕ) → n < 2 ^ 64 → Spells n (decimal n)
spells n h = decimal_by_steps Spells one more n h

decimal_of-digits : (n : ℕ) (ds : List ℕ) → n < 2 ^ 32 → Spells n ds → decimal_of ds ≡ Some n
decimal_of-digits n ds h s =
    let small : nat_le n 4294967295 ≡ true = le-leb n 4294967295 (omega arith) in
    rw (s.digits, s.value, small) refl

number-digits : (n : ℕ) (ds rest : List ℕ) → n < 2 ^ 32 → Spells n ds → stops is_alphanumeric rest → number (ds ++ rest) ≡ Found (tok.Num n) (length ds)
number-digits n ds rest h s k = rw (run_of is_alphanumeric ds rest (all_weaker is_digit is_alphanumeric (λ d k. grind (arith, nat_tests, k)) ds s.digits) k, decimal_of-digits n ds h s) refl

first-digits : (n : ℕ) (ds rest : List ℕ) → n < 2 ^ 32 → Spells n ds → stops is_alphanumeric rest → first (ds ++ rest) ≡ Found (tok.Num n) (length ds)
first-digits n [] rest h s k = absurd (omega (arith, s.some))
first-digits n (b ∷ bs) rest h s k =
    let p = and_parts (is_digit b) (list_all is_digit bs) s.digits in
    first-cons b (bs ++ rest) ∙ digit_leads b (b ∷ (bs ++ rest)) p.0 ∙ number-digits n (b ∷ bs) rest h s k

pub decimal_some : (n : ℕ) → n < 2 ^ 32 → 0 < length (decimal n)
decimal_some n h = (spells n (omega arith)).some

-- a number stands first if its spelling does
pub first-number : (n : ℕ) (rest : List ℕ) → n < 2 ^ 32 → stops is_alphanumeric rest → first (decimal n ++ rest) ≡ Found (tok.Num n) (length (decimal n))
first-number n rest h k = first-digits n (decimal n) rest h (spells n (omega arith)) k

pub decimal_digits : (n : ℕ) → n < 2 ^ 32 → list_all is_digit (decimal n) ≡ true
decimal_digits n h = (spells n (omega arith)).digits
