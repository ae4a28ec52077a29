-- What stands first is read from its own bytes alone.
use Rattle.std.proofs.Common.{◌≡◌, ℕ, suc, ◌+◌, ◌<◌, ◌≤◌, ◌==◌, Bool, true, List, [], ◌∷◌, length, take, Option, None, Some, refl, subst, sym, ap, ◌∙◌, arith, map, option_map, Result, Ok, Err}
use Rattle.std.specs.Prelude.{IfOk}
use Rattle.vx_base.specs.declared.bytes.NoMemory.{NoMemory}
use Rattle.std.specs.List.{take_while}
use Rattle.std.proofs.lemmas.List.Folds.{length-prefix_len}
use Rattle.std.proofs.lemmas.List.Sums.{prefix_len-le-length}
use Rattle.std.proofs.lemmas.Bool.{eqb-true, or_right}
use Rattle.vx_text.specs.declared.token.Tok.{Tok}
use Rattle.vx_text.specs.declared.token.Tok.TheVariants as tok
use Rattle.vx_text.specs.declared.token.LexFail.{LexFail}
use Rattle.vx_text.specs.declared.token.LexFail.TheVariants as fail
use Rattle.vx_text.specs.declared.first.First.{First}
use Rattle.vx_text.specs.declared.quoted.Place.{Place}
use Rattle.vx_text.specs.declared.quoted.Place.TheVariants.{Plain}
use Rattle.vx_text.specs.declared.quoted.Step.{Step}
use Rattle.vx_text.specs.declared.quoted.Step.TheVariants.{Close, Byte, Into, Fault}
use Rattle.vx_text.specs.declared.quoted.Text.{Text}
use Rattle.vx_text.specs.Bytes.{to_upper, is_letter, is_digit, is_hex_digit, is_alphanumeric, is_word_byte, is_service_byte, is_gap, is_sign, decimal_of, hex_of}
use Rattle.vx_text.specs.Quoted.{step_of, behind, by_step, quoted, quoted_text}
use Rattle.vx_text.specs.First.{first, first_by, found_or, word_of, word, service_of, service, number, hex_number, quote, text_found}
use Rattle.vx_text.specs.Lex.{IsReading}
use Rattle.vx_text.proofs.Runs.{run_cons, run_twice}
use Rattle.vx_text.proofs.Leading.{first-cons, letter_leads, digit_leads}
use Rattle.vx_base.proofs.Bools.{either_by}

found_or-reading : (bytes : List ℕ) (kind : LexFail) (t : Option Tok) (len : ℕ) → 0 < len → len ≤ length bytes → first (take len bytes) ≡ found_or kind t len → IsReading bytes (found_or kind t len)
found_or-reading bytes kind None len p q e = tt
found_or-reading bytes kind (Some t) len p q e = (p, q, e)

pub take-1 : (n b : ℕ) (bs : List ℕ) → take (1 + n) (b ∷ bs) ≡ b ∷ take n bs
take-1 n b bs =
    let e : 1 + n ≡ suc n = omega arith in
    rw e refl

-- the bytes of a run are cut by its length
own : (p : ℕ → Bool) (xs : List ℕ) → take (length (take_while p xs)) xs ≡ take_while p xs
own p xs = rw (length-prefix_len p xs) refl

within : (p : ℕ → Bool) (xs : List ℕ) → length (take_while p xs) ≤ length xs
within p xs = omega (arith, length-prefix_len p xs, prefix_len-le-length p xs)

-- a reader of a run, on the run alone
alone : (p : ℕ → Bool) (read : List ℕ → Option Tok) (kind : LexFail) (xs : List ℕ) → found_or kind (read (take_while p (take_while p xs))) (length (take_while p (take_while p xs))) ≡ found_or kind (read (take_while p xs)) (length (take_while p xs))
alone p read kind xs = ap (λ run. found_or kind (read run) (length run)) (run_twice p xs)

word_byte : (b : ℕ) → is_letter b ≡ true → is_word_byte b ≡ true
word_byte b h = rw h refl

alphanumeric : (b : ℕ) → is_digit b ≡ true → is_alphanumeric b ≡ true
alphanumeric b h = or_right (is_letter b) (is_digit b) h

-- what leads a run of its own bytes
run_reading : (p : ℕ → Bool) (read : List ℕ → Option Tok) (kind : LexFail) (b : ℕ) (bs : List ℕ) → p b ≡ true → ((bytes : List ℕ) → first_by b bytes ≡ found_or kind (read (take_while p bytes)) (length (take_while p bytes))) → IsReading (b ∷ bs) (found_or kind (read (take_while p (b ∷ bs))) (length (take_while p (b ∷ bs))))
run_reading p read kind b bs h leads =
    let run = run_cons p b bs h in
    let some : 0 < length (take_while p (b ∷ bs)) = rw run (omega arith) in
    let cut : take (length (take_while p (b ∷ bs))) (b ∷ bs) ≡ b ∷ take_while p bs = own p (b ∷ bs) ∙ run in
    let read_again : first (b ∷ take_while p bs) ≡ found_or kind (read (take_while p (b ∷ bs))) (length (take_while p (b ∷ bs))) = first-cons b (take_while p bs) ∙ leads (b ∷ take_while p bs) ∙ ap (λ run. found_or kind (read (take_while p run)) (length (take_while p run))) (sym run) ∙ alone p read kind (b ∷ bs) in
    found_or-reading (b ∷ bs) kind _ _ some (within p (b ∷ bs)) (ap first cut ∙ read_again)

word_reading : (b : ℕ) (bs : List ℕ) → is_letter b ≡ true → IsReading (b ∷ bs) (word (b ∷ bs))
word_reading b bs h = run_reading is_word_byte (λ run. word_of (map to_upper run)) fail.Name b bs (word_byte b h) (λ bytes. letter_leads b bytes h)

number_reading : (b : ℕ) (bs : List ℕ) → is_digit b ≡ true → IsReading (b ∷ bs) (number (b ∷ bs))
number_reading b bs h = run_reading is_alphanumeric (λ run. option_map tok.Num (decimal_of run)) fail.Number b bs (alphanumeric b h) (λ bytes. digit_leads b bytes h)

service_reading : (bs : List ℕ) → IsReading (36 ∷ bs) (service (36 ∷ bs))
service_reading bs =
    let cut : take (1 + length (take_while is_service_byte bs)) (36 ∷ bs) ≡ 36 ∷ take_while is_service_byte bs = take-1 _ 36 bs ∙ ap (λ run. 36 ∷ run) (own is_service_byte bs) in
    let again : first (36 ∷ take_while is_service_byte bs) ≡ service (36 ∷ bs) = first-cons 36 (take_while is_service_byte bs) ∙ ap (λ run. found_or fail.Name (service_of (map to_upper run)) (1 + length run)) (run_twice is_service_byte bs) in
    found_or-reading (36 ∷ bs) fail.Name _ _ (omega arith) (omega (arith, within is_service_byte bs)) (ap first cut ∙ again)

take-2 : (n b x : ℕ) (bs : List ℕ) → take (2 + n) (b ∷ x ∷ bs) ≡ b ∷ x ∷ take n bs
take-2 n b x bs =
    let e : 2 + n ≡ suc (suc n) = omega arith in
    rw e refl

hex_reading : (bs : List ℕ) → IsReading (37 ∷ bs) (hex_number (37 ∷ bs))
hex_reading [] = tt
hex_reading (x ∷ bs) =
    either_by (IsReading (37 ∷ x ∷ bs)) (to_upper x == 88) _ _
    (λ h.
    let cut : take (2 + length (take_while is_hex_digit bs)) (37 ∷ x ∷ bs) ≡ 37 ∷ x ∷ take_while is_hex_digit bs = take-2 _ 37 x bs ∙ ap (λ run. 37 ∷ x ∷ run) (own is_hex_digit bs) in
    let leads : (run : List ℕ) → hex_number (37 ∷ x ∷ run) ≡ found_or fail.Number (option_map tok.Num (hex_of (take_while is_hex_digit run))) (2 + length (take_while is_hex_digit run)) = λ run. rw h refl in
    let again : first (37 ∷ x ∷ take_while is_hex_digit bs) ≡ found_or fail.Number (option_map tok.Num (hex_of (take_while is_hex_digit bs))) (2 + length (take_while is_hex_digit bs)) = first-cons 37 (x ∷ take_while is_hex_digit bs) ∙ leads (take_while is_hex_digit bs) ∙ ap (λ run. found_or fail.Number (option_map tok.Num (hex_of run)) (2 + length run)) (run_twice is_hex_digit bs) in
    found_or-reading (37 ∷ x ∷ bs) fail.Number _ _ (omega arith) (omega (arith, within is_hex_digit bs)) (ap first cut ∙ again))
    (λ _. tt)

-- a text is spelled by its own bytes alone
abbrev pub IsSpelled : Place → List ℕ → Option Text → Type 0
IsSpelled at bytes None = Unit {0}
IsSpelled at bytes (Some t) = (0 < t.len) × (t.len ≤ length bytes) × (quoted at (take t.len bytes) ≡ Some t)

behind_spelled : (at next : Place) (b : ℕ) (bs front : List ℕ) (text : Option Text) → IsSpelled next bs text → ((rest : Place → Option Text) → by_step (step_of at b) rest ≡ behind front 1 (rest next)) → IsSpelled at (b ∷ bs) (behind front 1 text)
behind_spelled at next b bs front None h leads = tt
behind_spelled at next b bs front (Some t) h leads = (omega arith, omega (arith, h.1), rw (take-1 t.len b bs) (leads (λ next. quoted next (take t.len bs)) ∙ ap (behind front 1) h.2))

step_spelled : (at : Place) (b : ℕ) (bs : List ℕ) (step : Step) → step_of at b ≡ step → ((next : Place) → IsSpelled next bs (quoted next bs)) → IsSpelled at (b ∷ bs) (by_step step (λ next. quoted next bs))
step_spelled at b bs Close e rest = (omega arith, omega arith, ap (λ step. by_step step (λ next. quoted next [])) e)
step_spelled at b bs (Byte v) e rest = behind_spelled at Plain b bs (v ∷ []) (quoted Plain bs) (rest Plain) (λ rest. rw e refl)
step_spelled at b bs (Into next) e rest = behind_spelled at next b bs [] (quoted next bs) (rest next) (λ rest. rw e refl)
step_spelled at b bs Fault e rest = tt

pub quoted-spelled : (bytes : List ℕ) (at : Place) → IsSpelled at bytes (quoted at bytes)
quoted-spelled [] at = tt
quoted-spelled (b ∷ bs) at = step_spelled at b bs (step_of at b) refl (λ next. quoted-spelled bs next)

text_reading : (bs : List ℕ) (text : Option Text) → IsSpelled Plain bs text → IsReading (34 ∷ bs) (text_found text)
text_reading bs None h = tt
text_reading bs (Some t) h = (omega arith, omega (arith, h.1), rw (take-1 t.len 34 bs) (first-cons 34 (take t.len bs) ∙ ap text_found h.2))

first_by-reading : (b : ℕ) (bs : List ℕ) → IsReading (b ∷ bs) (first_by b (b ∷ bs))
first_by-reading b bs =
    let P : First → Type 0 = IsReading (b ∷ bs) in
    let at : (k : ℕ) → (b == k) ≡ true → k ≡ b = λ k h. sym (eqb-true b k h) in
    either_by P (b == 34) _ _ (λ h. subst (λ (k : ℕ). IsReading (k ∷ bs) (quote (k ∷ bs))) (at 34 h) (text_reading bs (quoted_text bs) (quoted-spelled bs Plain))) (λ n34.
    either_by P (is_gap b) _ _ (λ _. tt) (λ n32.
    either_by P (b == 33) _ _ (λ _. tt) (λ n33.
    either_by P (b == 37) _ _ (λ h. subst (λ (k : ℕ). IsReading (k ∷ bs) (hex_number (k ∷ bs))) (at 37 h) (hex_reading bs)) (λ n37.
    either_by P (b == 36) _ _ (λ h. subst (λ (k : ℕ). IsReading (k ∷ bs) (service (k ∷ bs))) (at 36 h) (service_reading bs)) (λ n36.
    either_by P (is_letter b) _ _ (λ h. word_reading b bs h) (λ no_letter.
    either_by P (is_digit b) _ _ (λ h. number_reading b bs h) (λ no_digit.
    either_by P (is_sign b) _ _ (λ h. (omega arith, omega arith, first-cons b [] ∙ rw (n34, n32, n33, n37, n36, no_letter, no_digit, h) refl)) (λ _. tt))))))))

pub first-reading : (bytes : List ℕ) → IsReading bytes (first bytes)
first-reading [] = tt
first-reading (b ∷ bs) = subst (IsReading (b ∷ bs)) (sym (first-cons b bs)) (first_by-reading b bs)

pub reading_of : (bytes : List ℕ) (found : First) → found ≡ first bytes → IsReading bytes found
reading_of bytes found e = subst (IsReading bytes) (sym e) (first-reading bytes)

pub if_ok-reading : (bytes : List ℕ) (found : Result First NoMemory) → IfOk found (λ f. f ≡ first bytes) → IfOk found (λ f. IsReading bytes f)
if_ok-reading bytes (Ok f) e = reading_of bytes f e
if_ok-reading bytes (Err e) h = tt
