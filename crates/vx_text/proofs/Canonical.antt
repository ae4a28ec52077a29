-- The canonical spelling of a text is read as the text.
use Rattle.std.proofs.Common.{◌≡◌, ℕ, ◌+◌, ◌-◌, ◌*◌, ◌/◌, ◌%◌, ◌<◌, ◌≤◌, ◌==◌, Bool, true, false, cond, List, [], ◌∷◌, ◌++◌, length, Option, None, Some, refl, ap, ◌∙◌, arith, append_assoc, length-append, nat_lt, nat_eq, ◌≢◌, take, drop}
use Rattle.std.specs.Cmp.Lexicographic.{pointwise}
use Rattle.std.proofs.lemmas.Bool.Decides.{Decides-eqb, not_from_Decides}
use Rattle.std.proofs.lemmas.Slice.Eq.{slice_eq-Decides}
use borrow.Author.Tests.{ltb-true, ltb-false}
use Rattle.std.proofs.lemmas.Bool.Decides.{nat_tests}
use Rattle.std.proofs.lemmas.List.{take_rest}
use Rattle.vx_text.specs.declared.quoted.Place.TheVariants.{Plain}
use Rattle.vx_text.specs.declared.quoted.Step.TheVariants.{Byte}
use Rattle.vx_text.specs.declared.quoted.Text.{Text}
use Rattle.vx_text.specs.declared.token.Tok.TheVariants as tok
use Rattle.vx_text.specs.declared.first.First.TheVariants.{Found}
use Rattle.vx_text.specs.Bytes.{is_plain, is_hex_digit, hex_value}
use Rattle.vx_text.specs.Quote.{hex_digit, byte_text, inside_text, quote_text, AreBytes}
use Rattle.vx_text.specs.Quoted.{step_of, behind, by_step, quoted, quoted_text}
use Rattle.vx_text.specs.First.{first, text_found}
use Rattle.vx_text.proofs.Leading.{first-cons}

digit_low : (n : ℕ) → n < 10 → is_hex_digit (48 + n) ≡ true
digit_low n h = grind (arith, nat_tests, h)

digit_high : (n : ℕ) → 10 ≤ n → n < 16 → is_hex_digit (55 + n) ≡ true
digit_high n l h = grind (arith, nat_tests, l, h)

value_low : (n : ℕ) → n < 10 → hex_value (48 + n) ≡ n
value_low n h = grind (arith, nat_tests, h)

value_high : (n : ℕ) → 10 ≤ n → n < 16 → hex_value (55 + n) ≡ n
value_high n l h = grind (arith, nat_tests, l, h)

plain_step : (b : ℕ) → is_plain b ≡ true → step_of Plain b ≡ Byte b
plain_step b h =
    let quote : (b == 34) ≡ false = grind (arith, nat_tests, h) in
    let escape : (b == 92) ≡ false = grind (arith, nat_tests, h) in
    rw (h, quote, escape) refl

digit_by : (n : ℕ) (t : Bool) → nat_lt n 10 ≡ t → n < 16 → (is_hex_digit (cond t (48 + n) (55 + n)) ≡ true) × (hex_value (cond t (48 + n) (55 + n)) ≡ n)
digit_by n true e h = (digit_low n (ltb-true _ _ e), value_low n (ltb-true _ _ e))
digit_by n false e h = let l : 10 ≤ n = ltb-false _ _ e in (digit_high n l h, value_high n l h)

-- a hexadecimal digit is read as its value
digit_read : (n : ℕ) → n < 16 → (is_hex_digit (hex_digit n) ≡ true) × (hex_value (hex_digit n) ≡ n)
digit_read n h = digit_by n (nat_lt n 10) refl h

escaped_read : (high low : ℕ) (rest : List ℕ) → high < 16 → low < 16 → quoted Plain (92 ∷ hex_digit high ∷ hex_digit low ∷ rest) ≡ behind [] 1 (behind [] 1 (behind ((16 * high + low) ∷ []) 1 (quoted Plain rest)))
escaped_read high low rest h l =
    let high_read = digit_read high h in
    let low_read = digit_read low l in
    rw (high_read.0, low_read.0, high_read.1, low_read.1) refl

behind_three : (b : ℕ) (text : Option Text) → behind [] 1 (behind [] 1 (behind (b ∷ []) 1 text)) ≡ behind (b ∷ []) 3 text
behind_three b None = refl
behind_three b (Some t) = ap (λ n. Some (record { bytes = b ∷ t.bytes; len = n })) (omega arith)

-- a byte that is spelled is read as itself
byte_by : (b : ℕ) (rest : List ℕ) (t : Bool) → is_plain b ≡ t → b < 256 → quoted Plain (cond t (b ∷ []) (92 ∷ hex_digit (b / 16) ∷ hex_digit (b % 16) ∷ []) ++ rest) ≡ behind (b ∷ []) (length (cond t (b ∷ []) (92 ∷ hex_digit (b / 16) ∷ hex_digit (b % 16) ∷ []))) (quoted Plain rest)
byte_by b rest true e h = ap (λ step. by_step step (λ next. quoted next rest)) (plain_step b e)
byte_by b rest false e h =
    let whole : 16 * (b / 16) + b % 16 ≡ b = omega arith in
    escaped_read (b / 16) (b % 16) rest (omega arith) (omega arith) ∙ ap (λ (v : ℕ). behind [] 1 (behind [] 1 (behind (v ∷ []) 1 (quoted Plain rest)))) whole ∙ behind_three b (quoted Plain rest)

byte_read : (b : ℕ) (rest : List ℕ) → b < 256 → quoted Plain (byte_text b ++ rest) ≡ behind (b ∷ []) (length (byte_text b)) (quoted Plain rest)
byte_read b rest h = byte_by b rest (is_plain b) refl h

-- the inside of a spelling is read as the text, to its closing quote
pub inside_read : (bytes rest : List ℕ) → AreBytes bytes → quoted Plain (inside_text bytes ++ 34 ∷ rest) ≡ Some (record { bytes = bytes; len = length (inside_text bytes) + 1 })
inside_read [] rest h = refl
inside_read (b ∷ bytes) rest h =
    let inside = inside_text bytes in
    let len : length (byte_text b) + (length inside + 1) ≡ length (byte_text b ++ inside) + 1 = omega (arith, length-append (byte_text b) inside) in
    ap (quoted Plain) (append_assoc (byte_text b) inside (34 ∷ rest)) ∙ byte_read b (inside ++ 34 ∷ rest) h.0 ∙ ap (behind (b ∷ []) (length (byte_text b))) (inside_read bytes rest h.1) ∙ ap (λ (n : ℕ). Some (record { bytes = b ∷ bytes; len = n })) len

pub text_read : (bytes : List ℕ) → AreBytes bytes → quoted_text (inside_text bytes ++ 34 ∷ []) ≡ Some (record { bytes = bytes; len = length (inside_text bytes) + 1 })
text_read bytes h = inside_read bytes [] h

-- a text stands first if its spelling does
pub first-quote : (bytes rest : List ℕ) → AreBytes bytes → first (quote_text bytes ++ rest) ≡ Found (tok.Quote bytes) (length (quote_text bytes))
first-quote bytes rest h =
    let inside = inside_text bytes in
    let len : 1 + (length inside + 1) ≡ length (34 ∷ (inside ++ 34 ∷ [])) = omega (arith, length-append inside (34 ∷ [])) in
    first-cons 34 ((inside ++ 34 ∷ []) ++ rest) ∙ ap (λ (xs : List ℕ). text_found (quoted Plain xs)) (append_assoc inside (34 ∷ []) rest) ∙ ap text_found (inside_read bytes rest h) ∙ ap (λ (n : ℕ). Found (tok.Quote bytes) n) len

-- a spelling whose text was read, so what was read is the text
pub spelled_read : (text bytes : List ℕ) (read : Option Text) → AreBytes bytes → text ≡ quote_text bytes → read ≡ quoted_text (take (length text - 1) (drop 1 text)) → read ≡ Some (record { bytes = bytes; len = length (inside_text bytes) + 1 })
spelled_read text bytes read h e is =
    let inside = inside_text bytes in
    let cut : take (length text - 1) (drop 1 text) ≡ inside ++ 34 ∷ [] = take_rest text 1 ∙ ap (drop 1) e in
    is ∙ ap quoted_text cut ∙ text_read bytes h

-- texts that `==` tells apart are two
pub told_apart : (xs ys : List ℕ) (same : Bool) → same ≡ pointwise nat_eq xs ys → same ≡ false → xs ≢ ys
told_apart xs ys same is differ = λ e. not_from_Decides same (slice_eq-Decides Decides-eqb xs ys same is) differ e

abbrev bytes_or : Option Text → List ℕ → List ℕ
bytes_or None other = other
bytes_or (Some t) other = t.bytes

pub bytes_of : {t : Text} {bytes : List ℕ} {len : ℕ} → Some t ≡ Some (record { bytes = bytes; len = len }) → t.bytes ≡ bytes
bytes_of {t} {bytes} e = ap (λ (o : Option Text). bytes_or o bytes) e
