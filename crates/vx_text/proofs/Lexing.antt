-- The tokens of canonical pieces.
use mathlib.Core.Bool.{and-false}
use Rattle.std.proofs.Common.{◌≡◌, ℕ, ◌+◌, ◌-◌, ◌<◌, ◌≤◌, true, false, List, [], ◌∷◌, ◌++◌, length, map, slice_index, nat_lt, nat_le, nat_eq, codes, refl, sym, ap, ◌∙◌, arith, Some, Ok, append-nil}
use Rattle.std.specs.List.{list_all, take_while, starts_with}
use Rattle.std.proofs.Math.Seq.{drop-append_seam}
use Rattle.std.proofs.lemmas.Bool.Decides.{nat_tests}
use Rattle.std.proofs.lemmas.Bool.{le-ltb, and_parts}
use borrow.Author.Tests.{ltb-true, leb-true}
use Rattle.vx_base.proofs.Any.{all_weaker}
use Rattle.vx_text.proofs.Turns.{lex_from-skip, lex_nothing}
use Rattle.vx_base.specs.declared.cond.Cond.{Cond}
use Rattle.vx_base.specs.declared.cond.Cond.TheVariants.{Normal}
use Rattle.vx_base.specs.Cond.{name_of}
use Rattle.vx_base.specs.Name.{is_name, is_capital, is_name_byte}
use Rattle.vx_text.specs.declared.token.Tok.{Tok}
use Rattle.vx_text.specs.declared.token.Tok.TheVariants as tok
use Rattle.vx_text.specs.declared.first.First.TheVariants.{Found}
use Rattle.vx_text.specs.Bytes.{to_upper, is_letter, is_word_byte, is_service_byte}
use Rattle.vx_text.specs.First.{first, word, word_of, service}
use Rattle.vx_text.specs.Lex.{lex_from, with_front, token_at}
use Rattle.vx_text.proofs.Runs.{stops, run_of}
use Rattle.vx_text.proofs.Leading.{first-cons, letter_leads}

capital_letter : (b : ℕ) → is_capital b ≡ true → is_letter b ≡ true
capital_letter b h = rw h refl

name_byte_upper : (b : ℕ) → is_name_byte b ≡ true → to_upper b ≡ b
name_byte_upper b h = grind (arith, nat_tests, h)

name_byte_word : (b : ℕ) → is_name_byte b ≡ true → is_word_byte b ≡ true
name_byte_word b h = grind (arith, nat_tests, h)

names_upper : (bs : List ℕ) → list_all is_name_byte bs ≡ true → map to_upper bs ≡ bs
names_upper [] h = refl
names_upper (b ∷ bs) h =
    let parts = and_parts (is_name_byte b) (list_all is_name_byte bs) h in
    rw (name_byte_upper b parts.0, names_upper bs parts.1) refl

-- the parts of the test of a name
record Named (name : List ℕ) : Type 0 where
  some : 0 < length name
  short : length name ≤ 31
  front : is_capital (slice_index name 0) ≡ true
  bytes : list_all is_name_byte name ≡ true

named : (name : List ℕ) → is_name name ≡ true → Named name
named name h =
    let one = and_parts (nat_lt 0 (length name)) _ h in
    let two = and_parts (nat_le (length name) 31) _ one.1 in
    let three = and_parts (is_capital (slice_index name 0)) _ two.1 in
    record { some = ltb-true _ _ one.0; short = leb-true _ _ two.0; front = three.0; bytes = three.1 }

-- a name is no condition
no_dollar : (b : ℕ) → is_name_byte b ≡ true → nat_eq 36 b ≡ false
no_dollar b h = grind (arith, nat_tests, h)

no_cond : (name : List ℕ) → list_all is_name_byte name ≡ true → starts_with nat_eq name (codes "SS$_") ≡ false
no_cond [] h = refl
no_cond (a ∷ []) h = and-false (nat_eq 83 a)
no_cond (a ∷ b ∷ []) h = rw (and-false (nat_eq 83 b)) (and-false (nat_eq 83 a))
no_cond (a ∷ b ∷ c ∷ rest) h =
    let one = and_parts (is_name_byte a) _ h in
    let two = and_parts (is_name_byte b) _ one.1 in
    let three = and_parts (is_name_byte c) _ two.1 in
    rw (no_dollar c three.0, and-false (nat_eq 83 b)) (and-false (nat_eq 83 a))

word_of-name : (name : List ℕ) → is_name name ≡ true → word_of name ≡ Some (tok.Word name)
word_of-name name h =
    let n = named name h in
    let short : nat_lt 31 (length name) ≡ false = le-ltb _ _ n.short in
    rw (short, no_cond name n.bytes, h) refl

-- a run of a word's bytes stands first if it does
word-run : (run rest : List ℕ) (t : Tok) → list_all is_word_byte run ≡ true → stops is_word_byte rest → map to_upper run ≡ run → word_of run ≡ Some t → word (run ++ rest) ≡ Found t (length run)
word-run run rest t bytes s capitals is =
    let cut : take_while is_word_byte (run ++ rest) ≡ run = run_of is_word_byte run rest bytes s in
    rw (cut, capitals, is) refl

word-name : (name rest : List ℕ) → is_name name ≡ true → stops is_word_byte rest → word (name ++ rest) ≡ Found (tok.Word name) (length name)
word-name name rest h s =
    let n = named name h in
    word-run name rest (tok.Word name) (all_weaker is_name_byte is_word_byte name_byte_word name n.bytes) s (names_upper name n.bytes) (word_of-name name h)

abbrev cond_text : Cond → List ℕ
cond_text c = codes "SS$_" ++ name_of c

cond_bytes : (c : Cond) → list_all is_word_byte (cond_text c) ≡ true
cond_bytes Normal = refl
cond_bytes _ = refl

cond_capitals : (c : Cond) → map to_upper (cond_text c) ≡ cond_text c
cond_capitals Normal = refl
cond_capitals _ = refl

cond_word : (c : Cond) → word_of (cond_text c) ≡ Some (tok.Cond c)
cond_word Normal = refl
cond_word _ = refl

-- a condition stands first if its spelling does
pub first-cond : (c : Cond) (rest : List ℕ) → stops is_word_byte rest → first ((codes "SS$_" ++ name_of c) ++ rest) ≡ Found (tok.Cond c) (length (codes "SS$_" ++ name_of c))
first-cond c rest s = first-cons 83 ((codes "S$_" ++ name_of c) ++ rest) ∙ letter_leads 83 (cond_text c ++ rest) refl ∙ word-run (cond_text c) rest (tok.Cond c) (cond_bytes c) s (cond_capitals c) (cond_word c)

-- a name stands first if a name does
pub first-name : (name rest : List ℕ) → is_name name ≡ true → stops is_word_byte rest → first (name ++ rest) ≡ Found (tok.Word name) (length name)
first-name [] rest h s = absurd (omega (arith, (named [] h).some))
first-name (b ∷ bs) rest h s =
    let name = b ∷ bs in
    let n = named name h in
    first-cons b (bs ++ rest) ∙ letter_leads b (name ++ rest) (capital_letter b n.front) ∙ word-name name rest h s

-- a token that stands first comes first
pub lex_found : (at len : ℕ) (t : Tok) (bytes rest : List ℕ) → first (bytes ++ rest) ≡ Found t len → len ≡ length bytes → 0 < len → lex_from 0 at (bytes ++ rest) ≡ with_front (token_at at t len ∷ []) (lex_from 0 (at + len) rest)
unfolding lex_from
lex_found at len t [] rest h n pos = absurd (omega arith)
lex_found at len t (b ∷ bs) rest h n pos =
    let back : len - 1 ≡ length bs = omega arith in
    let place : at + 1 + length bs ≡ at + len = omega arith in
    let go : lex_from (len - 1) (at + 1) (bs ++ rest) ≡ lex_from 0 (at + len) rest = rw (back, lex_from-skip (length bs) (at + 1) (bs ++ rest), drop-append_seam bs rest, place) refl in
    rw (h, go) refl

pub lex_gap : (at : ℕ) (rest : List ℕ) → lex_from 0 at (32 ∷ rest) ≡ lex_from 0 (at + 1) rest
unfolding lex_from
lex_gap at rest = rw (first-cons 32 rest) refl

service-name : (name rest : List ℕ) → is_name name ≡ true → length name ≤ 30 → stops is_service_byte rest → service (36 ∷ (name ++ rest)) ≡ Found (tok.Service name) (1 + length name)
service-name name rest h short s =
    let n = named name h in
    let fits : nat_lt 30 (length name) ≡ false = le-ltb _ _ short in
    rw (run_of is_service_byte name rest (all_weaker is_name_byte is_service_byte (λ b k. grind (arith, nat_tests, k)) name n.bytes) s, names_upper name n.bytes, fits, h) refl

-- a service stands first if '$' and its name do
pub first-service : (name rest : List ℕ) → is_name name ≡ true → length name ≤ 30 → stops is_service_byte rest → first (36 ∷ (name ++ rest)) ≡ Found (tok.Service name) (1 + length name)
first-service name rest h short s = first-cons 36 (name ++ rest) ∙ service-name name rest h short s

pub name_some : (name : List ℕ) → is_name name ≡ true → 0 < length name
name_some name h = (named name h).some

-- the last token of a line
pub lex_last : (at len : ℕ) (t : Tok) (bytes : List ℕ) → first (bytes ++ []) ≡ Found t len → len ≡ length bytes → 0 < len → lex_from 0 at bytes ≡ Ok (token_at at t len ∷ [])
lex_last at len t bytes h n pos =
    ap (lex_from 0 at) (sym (append-nil bytes)) ∙ lex_found at len t bytes [] h n pos ∙ ap (with_front (token_at at t len ∷ [])) (lex_nothing (at + len))

pub name_bytes : (name : List ℕ) → is_name name ≡ true → list_all is_name_byte name ≡ true
name_bytes name h = (named name h).bytes
