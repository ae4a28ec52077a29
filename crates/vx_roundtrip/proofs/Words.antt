-- The tokens of a line that is made of words, numbers, texts, conditions and signs.
use Rattle.std.proofs.Common.{◌≡◌, ℕ, zero, suc, ◌+◌, ◌-◌, ◌<◌, ◌^◌, ◌/◌, ◌%◌, ◌==◌, ◌&&◌, not, nat_lt, Bool, true, false, cond, List, [], ◌∷◌, ◌++◌, length, codes, Some, None, Result, Ok, refl, sym, subst, ap, ◌∙◌, arith, lit<}
use Rattle.std.specs.Prelude.{decimal}
use Rattle.std.specs.List.{list_all}
use Rattle.std.proofs.lemmas.Bool.Decides.{nat_tests}
use Rattle.std.proofs.lemmas.List.Folds.{list_all-append}
use Rattle.vx_base.specs.declared.call.Arg.{Arg}
use Rattle.vx_base.specs.declared.call.Arg.TheVariants as arg
use Rattle.vx_base.specs.declared.cond.Cond.TheVariants.{Normal}
use Rattle.vx_base.specs.declared.mode.Mode.{Mode}
use Rattle.vx_base.specs.declared.mode.Mode.TheVariants.{Kernel}
use Rattle.vx_base.specs.declared.request.Func.{Func}
use Rattle.vx_base.specs.declared.request.Func.TheVariants.{Read}
use Rattle.vx_base.specs.declared.service.Kind.{Kind}
use Rattle.vx_base.specs.declared.service.Kind.TheVariants as kind
use Rattle.vx_base.specs.declared.service.Param.{Param}
use Rattle.vx_base.specs.declared.service.Service.{Service}
use Rattle.vx_base.specs.declared.service.Service.TheVariants.{SetEf}
use Rattle.vx_base.specs.declared.call.Call.{Call}
use Rattle.vx_base.specs.declared.cond.Cond.{Cond}
use Rattle.vx_base.specs.declared.call.Operand.{Operand}
use Rattle.vx_base.specs.declared.call.Operand.TheVariants as operand
use Rattle.vx_base.specs.declared.call.Target.{Target}
use Rattle.vx_base.specs.declared.call.Target.TheVariants as target
use Rattle.vx_base.specs.Cond.{name_of}
use Rattle.vx_base.specs.Name.{is_name, is_name_byte}
use Rattle.vx_base.specs.Services.{service_name, params_of, is_of_kind, is_unused, are_args, kind_of, is_call, args_list, is_operand, is_target}
use Rattle.vx_text.specs.declared.token.LexFail.{LexFail}
use Rattle.vx_text.specs.declared.token.Tok.{Tok}
use Rattle.vx_text.specs.declared.token.Tok.TheVariants as tok
use Rattle.vx_text.specs.declared.token.Token.{Token}
use Rattle.vx_text.specs.declared.first.First.{First}
use Rattle.vx_text.specs.declared.first.First.TheVariants.{End, Gap, Found, Bad}
use Rattle.vx_text.specs.Bytes.{is_digit, is_plain, is_word_byte, is_alphanumeric}
use Rattle.vx_text.specs.First.{first}
use Rattle.vx_text.specs.Lex.{lex, lex_from, by_first, token_at}
use Rattle.vx_text.specs.Quote.{hex_digit, byte_text, inside_text, quote_text, AreBytes}
use Rattle.vx_text.proofs.Runs.{stops}
use Rattle.vx_text.proofs.Canonical.{first-quote}
use Rattle.vx_text.proofs.Leading.{first-cons}
use Rattle.vx_text.proofs.Lexing.{first-name, first-cond, lex_found, lex_gap, name_some, name_bytes}
use Rattle.vx_text.proofs.Numbers.{first-number, decimal_some, decimal_digits}
use Rattle.vx_table.specs.Back.{IsHeldOperand, IsHeld, AreHeld, held_unless, toks_of}
use Rattle.vx_table.specs.Spelling.{mode_name, func_name, arg_text, args_text, call_text, call_tokens, operand_text, operand_token, target_text, target_token}
use Rattle.vx_table.proofs.Texts.{call_toks, letter_name, toks_front, and_tok}
use Rattle.vx_script.specs.Script.{spaced}
use Rattle.std.proofs.lemmas.Bool.{and_parts}
use Rattle.vx_text.proofs.Turns.{lex_nothing}

-- Tokens without their places are the same at every place.

wherever_by : (at more : ℕ) (f : First) (r s : ℕ → Result (List Token) LexFail) → ((skip : ℕ) → toks_of (r skip) ≡ toks_of (s skip)) → toks_of (by_first at f r) ≡ toks_of (by_first more f s)
wherever_by at more End r s same = refl
wherever_by at more Gap r s same = same 0
wherever_by at more (Found t len) r s same = toks_front (token_at at t len) (r (len - 1)) ∙ ap (and_tok t) (same (len - 1)) ∙ sym (toks_front (token_at more t len) (s (len - 1)))
wherever_by at more (Bad e) r s same = refl

wherever : (skip at more : ℕ) (text : List ℕ) → toks_of (lex_from skip at text) ≡ toks_of (lex_from skip more text)
unfolding lex_from
wherever skip at more [] = refl
wherever (suc skip) at more (b ∷ text) = wherever skip (at + 1) (more + 1) text
wherever zero at more (b ∷ text) = wherever_by at more (first (b ∷ text)) _ _ (λ skip. wherever skip (at + 1) (more + 1) text)

-- neither a line feed nor a return
abbrev pub is_clean : List ℕ → Bool
is_clean text = list_all (λ b. not (b == 10) && not (b == 13)) text

-- a text has these tokens, and is a line's
pub record Has (text : List ℕ) (toks : List Tok) : Type 0 where
  pub lexed : toks_of (lex text) ≡ Ok toks
  pub clean : is_clean text ≡ true

pub has_same : (text other : List ℕ) (toks : List Tok) → text ≡ other → Has other toks → Has text toks
has_same text other toks e h = subst (λ (t : List ℕ). Has t toks) (sym e) h

-- a piece ends at the next byte, or at the end
pub record Ends (rest : List ℕ) : Type 0 where
  pub word : stops is_word_byte rest
  pub number : stops is_alphanumeric rest

-- a text stands first as this token, whatever follows its end
pub record Spells (text : List ℕ) (t : Tok) : Type 0 where
  pub stands : (rest : List ℕ) → Ends rest → first (text ++ rest) ≡ Found t (length text)
  pub some : 0 < length text
  pub clean : is_clean text ≡ true

pub ends_nothing : Ends []
ends_nothing = record { word = tt; number = tt }

pub ends_gap : (rest : List ℕ) → Ends (32 ∷ rest)
ends_gap rest = record { word = refl; number = refl }

pub ends_spaced : (words : List (List ℕ)) → Ends (spaced words)
ends_spaced [] = ends_nothing
ends_spaced (word ∷ words) = ends_gap _

-- What tokens a text has.

both_clean : (text rest : List ℕ) → is_clean text ≡ true → is_clean rest ≡ true → is_clean (text ++ rest) ≡ true
both_clean text rest h k = list_all-append (λ b. not (b == 10) && not (b == 13)) text rest ∙ rw (h, k) refl

pub has_nothing : Has [] []
has_nothing = record { lexed = ap toks_of (lex_nothing 0); clean = refl }

pub has_gap : (rest : List ℕ) (toks : List Tok) → Has rest toks → Has (32 ∷ rest) toks
has_gap rest toks h = record { lexed = ap toks_of (lex_gap 0 rest) ∙ wherever 0 (0 + 1) 0 rest ∙ h.lexed; clean = h.clean }

pub has_piece : (text : List ℕ) (t : Tok) (rest : List ℕ) (toks : List Tok) → Spells text t → Ends rest → Has rest toks → Has (text ++ rest) (t ∷ toks)
has_piece text t rest toks s e h = record {
  lexed = ap toks_of (lex_found 0 (length text) t text rest (s.stands rest e) refl s.some) ∙ toks_front (token_at 0 t (length text)) _ ∙ ap (and_tok t) (wherever 0 (0 + length text) 0 rest ∙ h.lexed);
  clean = both_clean text rest s.clean h.clean;
}

pub has_sign : (b : ℕ) (rest : List ℕ) (toks : List Tok) → is_clean (b ∷ []) ≡ true → first (b ∷ rest) ≡ Found (tok.Sign b) 1 → Has rest toks → Has (b ∷ rest) (tok.Sign b ∷ toks)
has_sign b rest toks c f h = record {
  lexed = ap toks_of (lex_found 0 1 (tok.Sign b) (b ∷ []) rest f refl (lit< tt)) ∙ toks_front (token_at 0 (tok.Sign b) 1) _ ∙ ap (and_tok (tok.Sign b)) (wherever 0 (0 + 1) 0 rest ∙ h.lexed);
  clean = both_clean (b ∷ []) rest c h.clean;
}

-- each word spells its token
abbrev pub AreSpelled : List (List ℕ) → List Tok → Type 0
AreSpelled [] [] = Unit {0}
AreSpelled (word ∷ words) (t ∷ toks) = Spells word t × AreSpelled words toks
AreSpelled _ _ = ⊥

pub has_spaced : (words : List (List ℕ)) (toks : List Tok) → AreSpelled words toks → Has (spaced words) toks
has_spaced [] [] h = has_nothing
has_spaced [] (t ∷ toks) h = absurd h
has_spaced (word ∷ words) [] h = absurd h
has_spaced (word ∷ words) (t ∷ toks) h = has_gap (word ++ spaced words) (t ∷ toks) (has_piece word t (spaced words) toks h.0 (ends_spaced words) (has_spaced words toks h.1))

-- Which text spells a token.

name_clean : (bs : List ℕ) → list_all is_name_byte bs ≡ true → is_clean bs ≡ true
name_clean [] h = refl
name_clean (b ∷ bs) h =
    let p = and_parts (is_name_byte b) (list_all is_name_byte bs) h in
    let feed : (b == 10) ≡ false = grind (arith, nat_tests, p.0) in
    let return : (b == 13) ≡ false = grind (arith, nat_tests, p.0) in
    rw (feed, return, name_clean bs p.1) refl

digits_clean : (bs : List ℕ) → list_all is_digit bs ≡ true → is_clean bs ≡ true
digits_clean [] h = refl
digits_clean (b ∷ bs) h =
    let p = and_parts (is_digit b) (list_all is_digit bs) h in
    let feed : (b == 10) ≡ false = grind (arith, nat_tests, p.0) in
    let return : (b == 13) ≡ false = grind (arith, nat_tests, p.0) in
    rw (feed, return, digits_clean bs p.1) refl

high_clean : (n : ℕ) → is_clean ((48 + n) ∷ []) ≡ true
high_clean n =
    let feed : (48 + n == 10) ≡ false = grind (arith, nat_tests) in
    let return : (48 + n == 13) ≡ false = grind (arith, nat_tests) in
    rw (feed, return) refl

higher_clean : (n : ℕ) → is_clean ((55 + n) ∷ []) ≡ true
higher_clean n =
    let feed : (55 + n == 10) ≡ false = grind (arith, nat_tests) in
    let return : (55 + n == 13) ≡ false = grind (arith, nat_tests) in
    rw (feed, return) refl

digit_clean : (n : ℕ) (t : Bool) → is_clean (cond t (48 + n) (55 + n) ∷ []) ≡ true
digit_clean n true = high_clean n
digit_clean n false = higher_clean n

byte_clean : (b : ℕ) (t : Bool) → is_plain b ≡ t → is_clean (cond t (b ∷ []) (92 ∷ hex_digit (b / 16) ∷ hex_digit (b % 16) ∷ [])) ≡ true
byte_clean b true e =
    let feed : (b == 10) ≡ false = grind (arith, nat_tests, e) in
    let return : (b == 13) ≡ false = grind (arith, nat_tests, e) in
    rw (feed, return) refl
byte_clean b false e = both_clean (hex_digit (b / 16) ∷ []) (hex_digit (b % 16) ∷ []) (digit_clean (b / 16) (nat_lt (b / 16) 10)) (digit_clean (b % 16) (nat_lt (b % 16) 10))

inside_clean : (bytes : List ℕ) → is_clean (inside_text bytes) ≡ true
inside_clean [] = refl
inside_clean (b ∷ bytes) = both_clean (byte_text b) (inside_text bytes) (byte_clean b (is_plain b) refl) (inside_clean bytes)

cond_clean : (c : Cond) → is_clean (codes "SS$_" ++ name_of c) ≡ true
cond_clean Normal = refl
cond_clean _ = refl

pub spells_word : (name : List ℕ) → is_name name ≡ true → Spells name (tok.Word name)
spells_word name h = record { stands = λ rest e. first-name name rest h e.word; some = name_some name h; clean = name_clean name (name_bytes name h) }

pub spells_number : (n : ℕ) → n < 2 ^ 32 → Spells (decimal n) (tok.Num n)
spells_number n h = record { stands = λ rest e. first-number n rest h e.number; some = decimal_some n h; clean = digits_clean (decimal n) (decimal_digits n h) }

pub spells_text : (bytes : List ℕ) → AreBytes bytes → Spells (quote_text bytes) (tok.Quote bytes)
spells_text bytes h = record { stands = λ rest e. first-quote bytes rest h; some = omega arith; clean = both_clean (inside_text bytes) (34 ∷ []) (inside_clean bytes) refl }

pub spells_cond : (c : Cond) → Spells (codes "SS$_" ++ name_of c) (tok.Cond c)
spells_cond c = record { stands = λ rest e. first-cond c rest e.word; some = omega arith; clean = cond_clean c }

pub spells_equals : Spells (codes "=") (tok.Sign 61)
spells_equals = record { stands = λ rest e. first-cons 61 rest; some = lit< tt; clean = refl }

pub spells_plus : Spells (codes "+") (tok.Sign 43)
spells_plus = record { stands = λ rest e. first-cons 43 rest; some = lit< tt; clean = refl }

pub spells_minus : Spells (codes "-") (tok.Sign 45)
spells_minus = record { stands = λ rest e. first-cons 45 rest; some = lit< tt; clean = refl }

pub spells_operand : (x : Operand) → is_operand x ≡ true → IsHeldOperand x → Spells (operand_text x) (operand_token x)
spells_operand (operand.Num n) h held = spells_number n held
spells_operand (operand.Cond c) h held = spells_cond c
spells_operand (operand.Var v) h held = spells_word (v ∷ []) (letter_name v h)
spells_operand operand.R0 h held = spells_word (codes "R0") refl
spells_operand operand.Pid h held = spells_word (codes "PID") refl
spells_operand operand.Prm h held = spells_word (codes "PRM") refl

pub spells_target : (t : Target) → is_target t ≡ true → Spells (target_text t) (target_token t)
spells_target (target.Var v) h = spells_word (v ∷ []) (letter_name v h)
spells_target target.R0 h = spells_word (codes "R0") refl

-- Calls.

mode_clean : (m : Mode) → is_clean (mode_name m) ≡ true
mode_clean Kernel = refl
mode_clean _ = refl

func_clean : (f : Func) → is_clean (func_name f) ≡ true
func_clean Read = refl
func_clean _ = refl

service_clean : (s : Service) → is_clean (service_name s) ≡ true
service_clean SetEf = refl
service_clean _ = refl

arg_clean : (k : Kind) (a : Arg) → is_of_kind k a ≡ true → IsHeld a → is_clean (arg_text a) ≡ true
arg_clean kind.Value (arg.Value x) h held = (spells_operand x h held).clean
arg_clean kind.Target (arg.Target t) h held = (spells_target t h).clean
arg_clean kind.Mode (arg.Mode m) h held = mode_clean m
arg_clean kind.Name (arg.Name name) h held = name_clean name (name_bytes name held)
arg_clean kind.Label (arg.Label (Some label)) h held = name_clean label (name_bytes label held)
arg_clean kind.LabelOrNone (arg.Label (Some label)) h held = name_clean label (name_bytes label held)
arg_clean kind.LabelOrNone (arg.Label None) h held = refl
arg_clean kind.Func (arg.Func f) h held = func_clean f
arg_clean _ _ h held = absurd (cc)

args_by : (before : ℕ) (k : Kind) (a : Arg) (args : List Arg) (u : Bool) → is_clean (before ∷ []) ≡ true → is_of_kind k a ≡ true → held_unless u a (AreHeld args) → (AreHeld args → is_clean (args_text 44 args) ≡ true) → is_clean (cond u [] (before ∷ (arg_text a ++ args_text 44 args))) ≡ true
args_by before k a args true c h held more = refl
args_by before k a args false c h held more = both_clean (before ∷ []) (arg_text a ++ args_text 44 args) c (both_clean (arg_text a) (args_text 44 args) (arg_clean k a h held.0) (more held.1))

none_by : (u : Bool) (text : List ℕ) → u ≡ true → is_clean (cond u [] text) ≡ true
none_by true text h = refl
none_by false text h = absurd (cc)

args_clean : (before : ℕ) (params : List Param) (args : List Arg) → is_clean (before ∷ []) ≡ true → are_args params args ≡ true → AreHeld args → is_clean (args_text before args) ≡ true
args_clean before [] [] c h held = refl
args_clean before [] (a ∷ args) c h held = none_by (is_unused a) _ (and_parts (is_unused a) _ h).0
args_clean before (p ∷ params) [] c h held = absurd (cc)
args_clean before (p ∷ params) (a ∷ args) c h held =
    let parts = and_parts (is_of_kind (kind_of p) a) (are_args params args) h in
    args_by before (kind_of p) a args (is_unused a) c parts.0 held (λ more. args_clean 44 params args refl parts.1 more)

pub has_call : (c : Call) → is_call c ≡ true → AreHeld (args_list c.args) → Has (call_text c) (call_tokens c)
has_call c h held = record {
  lexed = call_toks 0 c h held;
  clean = both_clean (service_name c.service) (args_text 32 (args_list c.args)) (service_clean c.service) (args_clean 32 (params_of c.service) (args_list c.args) refl h held);
}
