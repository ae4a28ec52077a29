-- Words of parts, and quoted texts, are read back.
use Rattle.std.proofs.Common.{◌≡◌, ℕ, ◌+◌, ◌/◌, ◌%◌, ◌<◌, ◌≤◌, ◌^◌, ◌==◌, nat_lt, nat_le, Bool, true, false, cond, List, [], ◌∷◌, ◌++◌, length, drop, codes, bytes_eq, Option, Some, None, option_map, Ok, refl, sym, ap, ◌∙◌, arith, append-nil, append_assoc}
use Rattle.std.specs.Prelude.{decimal}
use Rattle.std.specs.List.{list_all}
use Rattle.std.proofs.lemmas.Bool.{le-leb, and_parts}
use Rattle.std.proofs.lemmas.Bool.Decides.{nat_tests}
use Rattle.vx_base.proofs.Any.{both_pass}
use Rattle.vx_base.specs.Name.{is_name, is_digit, is_name_byte}
use Rattle.vx_base.specs.declared.effects.Cell.{Cell}
use Rattle.vx_base.specs.declared.effects.Cell.TheVariants.{Local, Common}
use Rattle.vx_base.specs.declared.number.Pid.{Pid}
use Rattle.vx_base.specs.declared.request.Body.{Body}
use Rattle.vx_base.specs.declared.request.Body.TheVariants as body
use Rattle.vx_text.specs.Bytes.{is_plain}
use Rattle.vx_text.specs.Quote.{hex_digit, byte_text, inside_text, quote_text, AreBytes}
use Rattle.vx_text.specs.Lex.{lex, token_at}
use Rattle.vx_text.specs.declared.token.Tok.TheVariants as tok
use Rattle.vx_text.proofs.Canonical.{first-quote}
use Rattle.vx_text.proofs.Lexing.{lex_gap, lex_last}
use Rattle.vx_text.proofs.Numbers.{decimal_digits, decimal_some}
use Rattle.vx_table.specs.Back.{toks_of}
use Rattle.vx_lines.specs.Fields.{number_of, small_of, name_in, local_of, common_of, cell_by, cell_of, cluster_of, cluster_or_none, common_number, if_common, text_among, text_of}
use Rattle.vx_lines.specs.ReadEffect.{is_no_feed, body_of}
use Rattle.vx_lines.specs.Records.{spaced, cluster_text, cell_text, joined_text, body_text}
use Rattle.vx_lines.specs.Spelled.{IsWord, IsSpelledCell, IsSpelledCluster, IsSpelledBody}
use Rattle.vx_lines.specs.Words.{◌>>=◌, is_no_colon, first_part, from_colon, behind_part}
use Rattle.vx_lines.proofs.WordsBack.{run_first, run_behind, value_back, number_all, name_all}
use Rattle.vx_lines.proofs.EffectsBack.{is_tight, Tight, tight_number, tight_name, number_back, pid_back, name_back}

digit_apart : (b : ℕ) → is_digit b ≡ true → is_no_colon b ≡ true
digit_apart b h = grind (arith, nat_tests, h)

byte_apart : (b : ℕ) → is_name_byte b ≡ true → is_no_colon b ≡ true
byte_apart b h = grind (arith, nat_tests, h)

apart_number : (n : ℕ) → n < 2 ^ 32 → list_all is_no_colon (decimal n) ≡ true
apart_number n h = number_all is_no_colon n digit_apart (omega arith)

apart_name : (name : List ℕ) → is_name name ≡ true → list_all is_no_colon name ≡ true
apart_name name h = name_all is_no_colon name byte_apart h

first_part_back : (part rest : List ℕ) → list_all is_no_colon part ≡ true → first_part (part ++ 58 ∷ rest) ≡ part
first_part_back part rest h = run_first is_no_colon part (58 ∷ rest) h refl

behind_part_back : (part rest : List ℕ) → list_all is_no_colon part ≡ true → behind_part (part ++ 58 ∷ rest) ≡ rest
behind_part_back part rest h = ap (drop 1) (run_behind is_no_colon part (58 ∷ rest) h refl)

no_colon_left : (part : List ℕ) → list_all is_no_colon part ≡ true → from_colon part ≡ []
no_colon_left part h = ap from_colon (sym (append-nil part)) ∙ run_behind is_no_colon part [] h tt

colon_left : (part rest : List ℕ) → list_all is_no_colon part ≡ true → from_colon (part ++ 58 ∷ rest) ≡ 58 ∷ rest
colon_left part rest h = run_behind is_no_colon part (58 ∷ rest) h refl

two_parts : (first rest : List ℕ) → from_colon rest ≡ [] → cell_by first rest ≡ local_of first rest
two_parts first rest e = rw e refl

some_left : (b : ℕ) (bs : List ℕ) → (length (b ∷ bs) == 0) ≡ false
some_left b bs = grind (arith, nat_tests)

three_parts : (first rest : List ℕ) (b : ℕ) (bs : List ℕ) → from_colon rest ≡ b ∷ bs → cell_by first rest ≡ common_of first (first_part rest) (behind_part rest)
three_parts first rest b bs e = by (length (from_colon rest) == 0) (ap (λ (z : List ℕ). length z == 0) e ∙ some_left b bs)
  where
    by : (t : Bool) → t ≡ false → cond t (local_of first rest) (common_of first (first_part rest) (behind_part rest)) ≡ common_of first (first_part rest) (behind_part rest)
    by true h = absurd (cc)
    by false h = refl

local_back : (p : Pid) (efn : ℕ) → IsWord p.0 → IsWord efn → local_of (decimal p.0) (decimal efn) ≡ Some (Local p efn)
local_back p efn h k = rw (pid_back p h, number_back efn k) refl

common_back : (group : ℕ) (name : List ℕ) (n : ℕ) → IsWord group → is_name name ≡ true → n ≤ 31 → common_of (decimal group) name (decimal n) ≡ Some (Common group name n)
common_back group name n h k l =
    let small : small_of (decimal n) ≡ Some n = value_back 31 n l (omega arith) in
    rw (number_back group h, name_back name k, small) refl

pub cell_back : (cell : Cell) → IsSpelledCell cell → cell_of (cell_text cell) ≡ Some cell
cell_back (Local p efn) h =
    let apart = apart_number p.0 h.0 in
    ap (λ (z : List ℕ). cell_by z (behind_part (decimal p.0 ++ 58 ∷ decimal efn))) (first_part_back (decimal p.0) (decimal efn) apart)
    ∙ ap (cell_by (decimal p.0)) (behind_part_back (decimal p.0) (decimal efn) apart)
    ∙ two_parts (decimal p.0) (decimal efn) (no_colon_left (decimal efn) (apart_number efn h.1))
    ∙ local_back p efn h.0 h.1
cell_back (Common group name n) h =
    let rest : List ℕ = name ++ 58 ∷ decimal n in
    let word : List ℕ = decimal group ++ 58 ∷ rest in
    let apart = apart_number group h.0 in
    let named = apart_name name h.1 in
    let same : cell_text (Common group name n) ≡ word = append_assoc (decimal group) (58 ∷ name) (58 ∷ decimal n) in
    ap cell_of same
    ∙ ap (λ (z : List ℕ). cell_by z (behind_part word)) (first_part_back (decimal group) rest apart)
    ∙ ap (cell_by (decimal group)) (behind_part_back (decimal group) rest apart)
    ∙ three_parts (decimal group) rest 58 (decimal n) (colon_left name (decimal n) named)
    ∙ ap (λ (z : List ℕ). common_of (decimal group) z (behind_part rest)) (first_part_back name (decimal n) named)
    ∙ ap (common_of (decimal group) name) (behind_part_back name (decimal n) named)
    ∙ common_back group name n h.0 h.1 h.2

pub tight_cluster : (group : ℕ) (name : List ℕ) → IsWord group → is_name name ≡ true → Tight (cluster_text group name)
tight_cluster group name h k = both_pass is_tight (decimal group) (58 ∷ name) (tight_number group h) (tight_name name k)

pub tight_cell : (cell : Cell) → IsSpelledCell cell → Tight (cell_text cell)
tight_cell (Local p efn) h = both_pass is_tight (decimal p.0) (58 ∷ decimal efn) (tight_number p.0 h.0) (tight_number efn h.1)
tight_cell (Common group name n) h = both_pass is_tight (cluster_text group name) (58 ∷ decimal n) (tight_cluster group name h.0 h.1) (tight_number n (omega (arith, h.2)))

abbrev cluster_parts : List ℕ → List ℕ → Option (ℕ × List ℕ)
cluster_parts first second = number_of first >>= λ group. name_in second >>= λ name. Some (group, name)

named_cluster : (group : ℕ) (name : List ℕ) (first second : List ℕ) → first ≡ decimal group → second ≡ name → IsWord group → is_name name ≡ true → cluster_parts first second ≡ Some (group, name)
named_cluster group name first second e f h k = rw (e, f, number_back group h, name_back name k) refl

pub cluster_back : (group : ℕ) (name : List ℕ) → IsWord group → is_name name ≡ true → cluster_of (cluster_text group name) ≡ Some (group, name)
cluster_back group name h k =
    let apart = apart_number group h in
    named_cluster group name (first_part (cluster_text group name)) (behind_part (cluster_text group name)) (first_part_back (decimal group) name apart) (behind_part_back (decimal group) name apart) h k

-- a number begins with no dash
dash_digit : (b : ℕ) → is_digit b ≡ true → (b == 45) ≡ false
dash_digit b h = grind (arith, nat_tests, h)

no_dash_by : (ds rest : List ℕ) → 0 < length ds → list_all is_digit ds ≡ true → bytes_eq (ds ++ 58 ∷ rest) (codes "-") ≡ false
no_dash_by [] rest l h = absurd (omega (arith, l))
no_dash_by (d ∷ ds) rest l h = rw (dash_digit d (and_parts (is_digit d) (list_all is_digit ds) h).0) refl

no_dash : (group : ℕ) (name : List ℕ) → IsWord group → cluster_or_none (cluster_text group name) ≡ option_map Some (cluster_of (cluster_text group name))
no_dash group name h = rw (no_dash_by (decimal group) name (decimal_some group h) (decimal_digits group h)) refl

pub cluster_or_none_back : (cluster : Option (ℕ × List ℕ)) → IsSpelledCluster cluster → cluster_or_none (joined_text cluster) ≡ Some cluster
cluster_or_none_back None h = refl
cluster_or_none_back (Some (group, name)) h = no_dash group name h.0 ∙ ap (option_map Some) (cluster_back group name h.0 h.1)

pub tight_joined : (cluster : Option (ℕ × List ℕ)) → IsSpelledCluster cluster → Tight (joined_text cluster)
tight_joined None h = refl
tight_joined (Some (group, name)) h = tight_cluster group name h.0 h.1

pub k_back : (k : ℕ) → 2 ≤ k → k ≤ 3 → common_number (decimal k) ≡ Some k
k_back k l m =
    let least : nat_le 2 k ≡ true = le-leb 2 k l in
    ap (λ (z : Option ℕ). z >>= if_common) (value_back 3 k m (omega arith)) ∙ rw least refl

-- Quoted texts.

high_feed : (n : ℕ) → is_no_feed (48 + n) ≡ true
high_feed n = grind (arith, nat_tests)

higher_feed : (n : ℕ) → is_no_feed (55 + n) ≡ true
higher_feed n = grind (arith, nat_tests)

digit_feed : (n : ℕ) (t : Bool) → is_no_feed (cond t (48 + n) (55 + n)) ≡ true
digit_feed n true = high_feed n
digit_feed n false = higher_feed n

plain_feed : (b : ℕ) → is_plain b ≡ true → is_no_feed b ≡ true
plain_feed b h = grind (arith, nat_tests, h)

byte_feed : (b : ℕ) (t : Bool) → is_plain b ≡ t → list_all is_no_feed (cond t (b ∷ []) (92 ∷ hex_digit (b / 16) ∷ hex_digit (b % 16) ∷ [])) ≡ true
byte_feed b true e = rw (plain_feed b e) refl
byte_feed b false e = rw (digit_feed (b / 16) (nat_lt (b / 16) 10), digit_feed (b % 16) (nat_lt (b % 16) 10)) refl

inside_feed : (bytes : List ℕ) → list_all is_no_feed (inside_text bytes) ≡ true
inside_feed [] = refl
inside_feed (b ∷ bytes) = both_pass is_no_feed (byte_text b) (inside_text bytes) (byte_feed b (is_plain b) refl) (inside_feed bytes)

pub text_feed : (bytes : List ℕ) → list_all is_no_feed (quote_text bytes) ≡ true
text_feed bytes = both_pass is_no_feed (inside_text bytes) (34 ∷ []) (inside_feed bytes) refl

pub text_back : (bytes : List ℕ) → AreBytes bytes → text_of (spaced (quote_text bytes ∷ [])) ≡ Some bytes
text_back bytes h =
    let text = quote_text bytes in
    let alone : lex (32 ∷ text) ≡ Ok (token_at (0 + 1) (tok.Quote bytes) (length text) ∷ []) = lex_gap 0 text ∙ lex_last (0 + 1) (length text) (tok.Quote bytes) text (first-quote bytes [] h) refl (omega arith) in
    ap (λ (z : List ℕ). text_of (32 ∷ z)) (append-nil text) ∙ ap (λ z. text_among (toks_of z)) alone

pub body_back : (b : Body) → IsSpelledBody b → body_of (spaced (body_text b ∷ [])) ≡ Some b
body_back (body.Text bytes) h = ap (option_map body.Text) (text_back bytes h)
body_back body.Eof h = refl

pub body_feed : (b : Body) → list_all is_no_feed (body_text b) ≡ true
body_feed (body.Text bytes) = text_feed bytes
body_feed body.Eof = refl
