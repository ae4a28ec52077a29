-- The names of the generated processes: each is a name, and no two are the same.
use Rattle.std.proofs.Common.{◌≡◌, ℕ, ◌+◌, ◌/◌, ◌%◌, ◌<◌, ◌≤◌, ◌^◌, ◌&&◌, not, true, false, zero, suc, List, [], ◌∷◌, ◌++◌, length, drop, map, codes, bytes_eq, nat_le, nat_lt, slice_index, refl, ap, arith, length-append}
use Rattle.std.specs.List.{list_all, range_with_len}
use Rattle.std.specs.Prelude.{IsTrue, decimal}
use Rattle.std.proofs.lemmas.Fmt.{decimal_by_steps, decimal_injective}
use Rattle.std.proofs.lemmas.Bool.{le-leb, lt-ltb, and_from, or_from, not_from_false, false_from_ne_true}
use Rattle.std.proofs.lemmas.Bool.Decides.{nat_tests}
use Rattle.std.proofs.lemmas.List.FromFn.{map-range_with_len_more}
use Rattle.std.proofs.lemmas.Slice.Eq.{bytes_eq-Decides}
use Rattle.vx_base.proofs.Any.{all_push}
use Rattle.vx_base.specs.Name.{is_capital, is_name, is_name_byte}
use Rattle.vx_image.specs.declared.decl.ProcDecl.{ProcDecl}
use Rattle.vx_image.specs.WellFormed.{are_distinct, is_among}
use Rattle.vx_gen.specs.Generated.{sender, senders}

-- Each is a name.

record IsShort (n : ℕ) (ds : List ℕ) : Type 0 where
  one : n < 10 → length ds ≤ 1
  two : n < 100 → length ds ≤ 2
  three : n < 1000 → length ds ≤ 3
  bytes : list_all is_name_byte ds ≡ true

a_digit : (m : ℕ) → m < 10 → is_name_byte (48 + m) ≡ true
a_digit m h = grind (arith, nat_tests, h)

one_digit : (n : ℕ) → n < 10 → IsShort n ((48 + n) ∷ [])
one_digit n h = record { one = λ k. omega arith; two = λ k. omega arith; three = λ k. omega arith; bytes = rw (a_digit n h) refl }

more_digits : (n : ℕ) (ds : List ℕ) → 10 ≤ n → IsShort (n / 10) ds → IsShort n (ds ++ (48 + n % 10) ∷ [])
more_digits n ds h s =
    let len = length-append ds ((48 + n % 10) ∷ []) in
    record {
      one = λ k. absurd (omega (arith, h, k));
      two = λ k. let few = s.one (omega (arith, k)) in omega (arith, len, few);
      three = λ k. let few = s.two (omega (arith, k)) in omega (arith, len, few);
      bytes = all_push is_name_byte ds (48 + n % 10) s.bytes (a_digit (n % 10) (omega arith));
    }

short : (n : ℕ) → n < 2 ^ 64 → IsShort n (decimal n)
short n h = decimal_by_steps IsShort one_digit more_digits n h

pub is_sender : (n : ℕ) → n ≤ 200 → IsTrue (is_name (codes "P" ++ decimal n))
is_sender n h =
    let s = short n (omega (arith, h)) in
    let few = s.three (omega (arith, h)) in
    let text : List ℕ = codes "P" ++ decimal n in
    let some : nat_lt 0 (length text) ≡ true = lt-ltb 0 (length text) (omega arith) in
    let fits : nat_le (length text) 31 ≡ true = le-leb (length text) 31 (omega (arith, few)) in
    and_from (nat_lt 0 (length text)) (nat_le (length text) 31 && (is_capital (slice_index text 0) && list_all is_name_byte text)) some (and_from (nat_le (length text) 31) (is_capital (slice_index text 0) && list_all is_name_byte text) fits s.bytes)

-- one process more
pub senders_more : (n : ℕ) → senders (n + 1) ≡ senders n ++ sender (1 + n) ∷ []
senders_more n = map-range_with_len_more sender 1 n (1 + n) refl

-- No two are the same.

apart : (i j : ℕ) → i < j → j < 2 ^ 64 → bytes_eq (sender i).name (sender j).name ≡ false
apart i j below h = false_from_ne_true (bytes_eq (sender i).name (sender j).name) (λ same.
    let digits : decimal i ≡ decimal j = ap (drop 1) ((bytes_eq-Decides (sender i).name (sender j).name).0 same) in
    let equal = decimal_injective i j (omega (arith, below, h)) h digits in
    omega (arith, below, equal))

abbrev names_from : ℕ → ℕ → List (List ℕ)
names_from a n = map (λ (d : ProcDecl). d.name) (map sender (range_with_len a n))

not_among : (i a n : ℕ) → i < a → a + n < 2 ^ 64 → is_among (sender i).name (names_from a n) ≡ false
not_among i a zero below h = refl
not_among i a (suc n) below h =
    or_from (bytes_eq (sender i).name (sender a).name) (is_among (sender i).name (names_from (a + 1) n)) (apart i a below (omega (arith, h))) (not_among i (a + 1) n (omega (arith, below)) (omega (arith, h)))

distinct : (a n : ℕ) → a + n < 2 ^ 64 → are_distinct (names_from a n) ≡ true
distinct a zero h = refl
distinct a (suc n) h =
    let rest = names_from (a + 1) n in
    and_from (not (is_among (sender a).name rest)) (are_distinct rest) (not_from_false (is_among (sender a).name rest) (not_among a (a + 1) n (omega arith) (omega (arith, h)))) (distinct (a + 1) n (omega (arith, h)))

consumer_apart : (a n : ℕ) → is_among (codes "C") (names_from a n) ≡ false
consumer_apart a zero = refl
consumer_apart a (suc n) = consumer_apart (a + 1) n

pub names_distinct : (n : ℕ) → n ≤ 200 → are_distinct (codes "C" ∷ names_from 1 n) ≡ true
names_distinct n h = rw (consumer_apart 1 n) (distinct 1 n (omega (arith, h)))
