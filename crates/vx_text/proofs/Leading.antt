-- What a line begins with, by its first byte.
use Rattle.std.proofs.Common.{◌≡◌, ℕ, ◌==◌, true, false, List, ◌∷◌, length, refl, arith, rules}
use Rattle.std.proofs.lemmas.Bool.Decides.{nat_tests}
use Rattle.vx_text.specs.Bytes.{is_letter, is_digit, is_gap}
use Rattle.vx_text.specs.First.{first, first_by, word, number}

pub first-cons : (b : ℕ) (bs : List ℕ) → first (b ∷ bs) ≡ first_by b (b ∷ bs)
first-cons b bs =
    let e : (length (b ∷ bs) == 0) ≡ false = search (rules, arith) in
    rw e refl

letter_no_gap : (b : ℕ) → is_letter b ≡ true → is_gap b ≡ false
letter_no_gap b h = grind (arith, nat_tests, h)

letter_none : (k b : ℕ) → is_letter k ≡ false → is_letter b ≡ true → (b == k) ≡ false
letter_none k b other h = grind (arith, nat_tests, other, h)

pub letter_leads : (b : ℕ) (bytes : List ℕ) → is_letter b ≡ true → first_by b bytes ≡ word bytes
letter_leads b bytes h = rw (letter_none 34 b refl h, letter_no_gap b h, letter_none 33 b refl h, letter_none 37 b refl h, letter_none 36 b refl h, h) refl

digit_no_gap : (b : ℕ) → is_digit b ≡ true → is_gap b ≡ false
digit_no_gap b h = grind (arith, nat_tests, h)

digit_none : (k b : ℕ) → is_digit k ≡ false → is_digit b ≡ true → (b == k) ≡ false
digit_none k b other h = grind (arith, nat_tests, other, h)

digit_no_letter : (b : ℕ) → is_digit b ≡ true → is_letter b ≡ false
digit_no_letter b h = grind (arith, nat_tests, h)

pub digit_leads : (b : ℕ) (bytes : List ℕ) → is_digit b ≡ true → first_by b bytes ≡ number bytes
digit_leads b bytes h = rw (digit_none 34 b refl h, digit_no_gap b h, digit_none 33 b refl h, digit_none 37 b refl h, digit_none 36 b refl h, digit_no_letter b h, h) refl
