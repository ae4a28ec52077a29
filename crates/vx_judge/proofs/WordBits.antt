-- What a word tells of a number: the lowest 32 bits, and whether there are higher ones.
use Rattle.std.proofs.Common.{◌≡◌, ℕ, ◌-◌, ◌*◌, ◌%◌, ◌^◌, ◌<◌, ◌≤◌, min, max, Bool, true, false, ◌==◌, nat_lt, bit_and, bit_or, refl, ap, sym, ◌∙◌, arith, ⊎_elim, pow_mono}
use Rattle.std.proofs.lemmas.Bool.{cases_lt, lt-ltb, ltb-true}
use Rattle.std.proofs.lemmas.Nat.{or_of_32, le_or_l, le_or_r, and_le_r, pow_below, one_shl}
use Rattle.std.proofs.lemmas.Nat.Bits.{bit_at_and, bit_at_or, bit_at-pow_other, same_from_bits_below}
use Rattle.std.specs.Int.{bit_at}
use Rattle.vx_judge.specs.Words.{AreBits}

pub bits_set : (b f n : ℕ) → AreBits b f → AreBits (bit_or b (2 ^ n)) (bit_or f (2 ^ n))
bits_set b f n h = λ i k. bit_at_or b (2 ^ n) i ∙ (ap (λ x. max x (bit_at (2 ^ n) i)) (h i k) ∙ sym (bit_at_or f (2 ^ n) i))

pub bits_set_above : (b f n : ℕ) → 32 ≤ n → AreBits b f → AreBits b (bit_or f (2 ^ n))
bits_set_above b f n above h = λ i k.
    let none : bit_at (2 ^ n) i ≡ 0 = bit_at-pow_other n i (λ e. let never : ⊥ = omega (arith, above, k, e) in never) in
    let same = h i k in
    let both = bit_at_or f (2 ^ n) i in
    omega (arith, none, same, both)

pub bits_cleared : (b f k : ℕ) → AreBits b f → AreBits (bit_and b k) (bit_and f k)
bits_cleared b f k h = λ i l. bit_at_and b k i ∙ (ap (λ x. min x (bit_at k i)) (h i l) ∙ sym (bit_at_and f k i))

-- a mask of 32 bits sees the same of both
pub masked : (b f m : ℕ) → m < 4294967296 → AreBits b f → bit_and b m ≡ bit_and f m
masked b f m within h =
    same_from_bits_below 32 (bit_and b m) (bit_and f m) (omega (arith, and_le_r b m, within)) (omega (arith, and_le_r f m, within)) (bits_cleared b f m h)

same_lt : (a b c : ℕ) → (c < a → c < b) → (c < b → c < a) → nat_lt c a ≡ nat_lt c b
same_lt a b c f g = ⊎_elim
    (λ l. lt-ltb c a l ∙ sym (lt-ltb c b (f l)))
    (λ l. by_false (nat_lt c a) (nat_lt c b) (λ t. let k = g (ltb-true c b t) in let m : ⊥ = omega (arith, k, l) in m) (λ t. let k = ltb-true c a t in let m : ⊥ = omega (arith, k, l) in m))
    (cases_lt c a)
  where
    by_false : (x y : Bool) → (y ≡ true → ⊥) → (x ≡ true → ⊥) → x ≡ y
    by_false true y p q = absurd (q refl)
    by_false false true p q = absurd (p refl)
    by_false false false p q = refl

pub beyond_set : (f n : ℕ) → n < 32 → nat_lt 4294967295 f ≡ nat_lt 4294967295 (bit_or f (2 ^ n))
beyond_set f n within = same_lt f (bit_or f (2 ^ n)) 4294967295
    (λ l. omega (arith, l, le_or_l f (2 ^ n)))
    (λ l. ⊎_elim (λ k. k) (λ k. absurd (let below : bit_or f (2 ^ n) < 4294967296 = or_of_32 f (2 ^ n) (omega (arith, k)) (pow_below n 32 within) in omega (arith, below, l))) (cases_lt 4294967295 f))

pub beyond_above : (f n : ℕ) → 32 ≤ n → true ≡ nat_lt 4294967295 (bit_or f (2 ^ n))
beyond_above f n above = sym (lt-ltb 4294967295 (bit_or f (2 ^ n)) (omega (arith, le_or_r f (2 ^ n), big)))
  where
    big : 4294967296 ≤ 2 ^ n
    big = pow_mono above

pub beyond_cleared : (f k : ℕ) → k < 4294967296 → false ≡ nat_lt 4294967295 (bit_and f k)
beyond_cleared f k within = by (nat_lt 4294967295 (bit_and f k)) refl
  where
    by : (x : Bool) → nat_lt 4294967295 (bit_and f k) ≡ x → false ≡ x
    by false e = refl
    by true e = absurd (let l = ltb-true 4294967295 (bit_and f k) e in omega (arith, l, and_le_r f k, within))

pub shifted : (n : ℕ) → n < 32 → 1 * 2 ^ n % 4294967296 ≡ 2 ^ n
shifted n k = one_shl n 32 k

pub all_cleared : (f n : ℕ) → 32 ≤ n → bit_and f (4294967295 - 2 ^ n) ≡ 0
all_cleared f n above =
    let big : 2 ^ 32 ≤ 2 ^ n = pow_mono above in
    omega (arith, and_le_r f (4294967295 - 2 ^ n), big)

pub number_is : (b f m : ℕ) → b < 4294967296 → f < 4294967296 → AreBits b f → (m == b) ≡ (m == f)
number_is b f m k l h = ap (λ x. m == x) (same_from_bits_below 32 b f k l h)
