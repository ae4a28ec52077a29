-- What a field that was read says of the tokens.
use Rattle.std.proofs.Common.{◌≡◌, ℕ, ◌+◌, ◌≤◌, ◌==◌, ◌&&◌, Bool, true, false, nat_le, List, [], ◌∷◌, length, drop, find, codes, Option, Some, None, Result, Ok, Err, option_map, slice_index, bytes_eq, refl, sym, subst, ap, ◌∙◌, arith}
use Rattle.std.proofs.lemmas.Bool.{and_parts, leb-true, eqb-true}
use Rattle.std.proofs.lemmas.List.{drop-drop}
use Rattle.vx_base.specs.declared.call.Operand.{Operand}
use Rattle.vx_base.specs.declared.call.Target.{Target}
use Rattle.vx_base.specs.declared.call.Operand.TheVariants as operand
use Rattle.vx_base.specs.declared.call.Target.TheVariants as target
use Rattle.vx_base.specs.Name.{is_capital}
use Rattle.vx_text.specs.declared.token.Tok.{Tok}
use Rattle.vx_text.specs.declared.token.Tok.TheVariants as tok
use Rattle.vx_table.specs.Reading.{letter, long_operand, operand_word, operand_of, target_word}
use Rattle.vx_table.specs.Spelling.{operand_token, target_token}
use Rattle.vx_script.specs.Results.{◌>>=◌, given}
use Rattle.vx_script.specs.Fields.{first_of, end_at, is_word, is_sign, when, sign_at, word_at, name_in, name_at, number_in, within, number_at, text_in, text_at, operand_at, target_in, target_at}
use Rattle.vx_script.specs.declared.fault.FaultKind.{FaultKind}
use Rattle.vx_script.specs.declared.fault.FaultKind.TheVariants as kind
use Rattle.vx_base.proofs.First.{found_passes}
use Rattle.vx_base.proofs.Texts.{bytes_are}
use Rattle.vx_base.proofs.Bools.{either_by}
use Rattle.std.specs.Int.{IsInRange}

-- Chains and tests.

-- what a chain gave, the first reading gave a part of
pub bind_ok : {A B E : Type 0} (r : Result A E) (f : A → Result B E) (y : B) → (r >>= f) ≡ Ok y → (x : A) × (r ≡ Ok x) × (f x ≡ Ok y)
bind_ok (Ok x) f y h = (x, refl, h)
bind_ok (Err e) f y h = absurd (cc)

-- a result is one thing only
pub one_ok : {A E : Type 0} (r : Result A E) (x y : A) → r ≡ Ok x → r ≡ Ok y → x ≡ y
one_ok r x y h k = cc

pub one_err : {A E : Type 0} (r : Result A E) (d e : E) → r ≡ Err d → r ≡ Err e → d ≡ e
one_err r d e h k = cc

pub given_ok : {A : Type 0} (k : FaultKind) (o : Option A) (x : A) → given k o ≡ Ok x → o ≡ Some x
given_ok k (Some y) x h = cc
given_ok k None x h = absurd (cc)

pub when_ok : (b : Bool) (k : FaultKind) (u : Unit {0}) → when b k ≡ Ok u → b ≡ true
when_ok true k u h = refl
when_ok false k u h = absurd (cc)

pub found_name : {A : Type 0} (name : A → List ℕ) (xs : List A) (word : List ℕ) (x : A) → find (λ a. bytes_eq word (name a)) xs ≡ Some x → word ≡ name x
found_name name xs word x h = bytes_are word (name x) (found_passes (λ a. bytes_eq word (name a)) xs x h)

-- Tokens at a place.

-- a token stands behind so many
abbrev pub At : ℕ → List Tok → Tok → Type 0
At k tokens t = drop k tokens ≡ t ∷ drop (k + 1) tokens

at_place : (k : ℕ) (tokens : List Tok) (t : Tok) (rest : List Tok) → drop k tokens ≡ t ∷ rest → At k tokens t
at_place k tokens t rest e =
    let more : drop (k + 1) tokens ≡ rest = sym (drop-drop 1 k tokens) ∙ ap (drop 1) e in
    e ∙ ap (λ ts. t ∷ ts) (sym more)

first_by : (k : ℕ) (tokens : List Tok) (t : Tok) (ts : List Tok) → drop k tokens ≡ ts → first_of ts ≡ Ok t → At k tokens t
first_by k tokens t [] e h = absurd (cc)
first_by k tokens t (u ∷ rest) e h = at_place k tokens t rest (e ∙ ap (λ v. v ∷ rest) (let s : u ≡ t = cc in s))

first_at : (k : ℕ) (tokens : List Tok) (t : Tok) → first_of (drop k tokens) ≡ Ok t → At k tokens t
first_at k tokens t h = first_by k tokens t (drop k tokens) refl h

end_by : (k : ℕ) (tokens ts : List Tok) (u : Unit {0}) → drop k tokens ≡ ts → end_at ts ≡ Ok u → drop k tokens ≡ []
end_by k tokens [] u e h = e
end_by k tokens (t ∷ ts) u e h = absurd (cc)

pub end_is : (k : ℕ) (tokens : List Tok) (u : Unit {0}) → end_at (drop k tokens) ≡ Ok u → drop k tokens ≡ []
end_is k tokens u h = end_by k tokens (drop k tokens) u refl h

-- Which token it is.

pub sign_token : (s : ℕ) (t : Tok) → is_sign s t ≡ true → t ≡ tok.Sign s
sign_token s (tok.Sign r) h = ap tok.Sign (eqb-true r s h)
sign_token s (tok.Word w) h = absurd (cc)
sign_token s (tok.Num n) h = absurd (cc)
sign_token s (tok.Cond c) h = absurd (cc)
sign_token s (tok.Service n) h = absurd (cc)
sign_token s (tok.Quote b) h = absurd (cc)

pub word_token : (text : List ℕ) (t : Tok) → is_word text t ≡ true → t ≡ tok.Word text
word_token text (tok.Word w) h = ap tok.Word (bytes_are w text h)
word_token text (tok.Sign r) h = absurd (cc)
word_token text (tok.Num n) h = absurd (cc)
word_token text (tok.Cond c) h = absurd (cc)
word_token text (tok.Service n) h = absurd (cc)
word_token text (tok.Quote b) h = absurd (cc)

name_token : (t : Tok) (name : List ℕ) → name_in t ≡ Ok name → t ≡ tok.Word name
name_token (tok.Word w) name h = cc
name_token (tok.Sign r) name h = absurd (cc)
name_token (tok.Num n) name h = absurd (cc)
name_token (tok.Cond c) name h = absurd (cc)
name_token (tok.Service n) name h = absurd (cc)
name_token (tok.Quote b) name h = absurd (cc)

number_token : (t : Tok) (n : ℕ) → number_in t ≡ Ok n → t ≡ tok.Num n
number_token (tok.Num m) n h = cc
number_token (tok.Word w) n h = absurd (cc)
number_token (tok.Sign r) n h = absurd (cc)
number_token (tok.Cond c) n h = absurd (cc)
number_token (tok.Service m) n h = absurd (cc)
number_token (tok.Quote b) n h = absurd (cc)

within_ok : (low high m n : ℕ) → within low high m ≡ Ok n → (m ≡ n) × IsInRange low high n
within_ok low high m n =
    either_by {A = Result ℕ FaultKind} (λ r. r ≡ Ok n → (m ≡ n) × IsInRange low high n) (nat_le low m && nat_le m high) (Ok m) (Err kind.Range)
    (λ e h. let same : m ≡ n = cc in let p = and_parts (nat_le low m) (nat_le m high) e in subst (λ k. (m ≡ k) × IsInRange low high k) same (refl, (leb-true low m p.0, leb-true m high p.1)))
    (λ _ h. absurd (cc))

text_ok : (bytes text : List ℕ) → text_in (tok.Quote bytes) ≡ Ok text → (bytes ≡ text) × (length text ≤ 2048)
text_ok bytes text =
    either_by {A = Result (List ℕ) FaultKind} (λ r. r ≡ Ok text → (bytes ≡ text) × (length text ≤ 2048)) (nat_le (length bytes) 2048) (Ok bytes) (Err kind.Range)
    (λ e h. let same : bytes ≡ text = cc in subst (λ (t : List ℕ). (bytes ≡ t) × (length t ≤ 2048)) same (refl, leb-true (length bytes) 2048 e))
    (λ _ h. absurd (cc))

text_token : (t : Tok) (text : List ℕ) → text_in t ≡ Ok text → (t ≡ tok.Quote text) × (length text ≤ 2048)
text_token (tok.Quote b) text h = let p = text_ok b text h in (ap tok.Quote p.0, p.1)
text_token (tok.Num m) text h = absurd (cc)
text_token (tok.Word w) text h = absurd (cc)
text_token (tok.Sign r) text h = absurd (cc)
text_token (tok.Cond c) text h = absurd (cc)
text_token (tok.Service m) text h = absurd (cc)

-- Values and targets.

long_is : (word : List ℕ) (x : Operand) → long_operand word ≡ Some x → tok.Word word ≡ operand_token x
long_is word x =
    either_by {A = Option Operand} (λ o. o ≡ Some x → tok.Word word ≡ operand_token x) (bytes_eq word (codes "R0")) _ _
    (λ e h. let k : operand.R0 ≡ x = cc in ap tok.Word (bytes_are word (codes "R0") e) ∙ ap operand_token k) (λ _.
    either_by {A = Option Operand} (λ o. o ≡ Some x → tok.Word word ≡ operand_token x) (bytes_eq word (codes "PID")) _ _
    (λ e h. let k : operand.Pid ≡ x = cc in ap tok.Word (bytes_are word (codes "PID") e) ∙ ap operand_token k) (λ _.
    either_by {A = Option Operand} (λ o. o ≡ Some x → tok.Word word ≡ operand_token x) (bytes_eq word (codes "PRM")) _ _
    (λ e h. let k : operand.Prm ≡ x = cc in ap tok.Word (bytes_are word (codes "PRM") e) ∙ ap operand_token k) (λ _ h. absurd (cc))))

one_letter : (word : List ℕ) → (length word == 1) ≡ true → word ≡ slice_index word 0 ∷ []
one_letter [] h = absurd (cc)
one_letter (b ∷ []) h = refl
one_letter (b ∷ c ∷ word) h = absurd (omega (arith, eqb-true (length (b ∷ c ∷ word)) 1 h))

letter_is : (b v : ℕ) → letter b ≡ Some v → b ≡ v
letter_is b v = either_by {A = Option ℕ} (λ o. o ≡ Some v → b ≡ v) (is_capital b) (Some b) None (λ _ h. cc) (λ _ h. absurd (cc))

var_is : (b : ℕ) (o : Option ℕ) (x : Operand) → ((v : ℕ) → o ≡ Some v → b ≡ v) → option_map operand.Var o ≡ Some x → tok.Word (b ∷ []) ≡ operand_token x
var_is b None x k h = absurd (cc)
var_is b (Some v) x k h = let e : operand.Var v ≡ x = cc in ap (λ c. tok.Word (c ∷ [])) (k v refl) ∙ ap operand_token e

pub operand_name : (word : List ℕ) (x : Operand) → operand_word word ≡ Some x → tok.Word word ≡ operand_token x
operand_name word x =
    either_by {A = Option Operand} (λ o. o ≡ Some x → tok.Word word ≡ operand_token x) (length word == 1) _ _
    (λ e h. ap tok.Word (one_letter word e) ∙ var_is (slice_index word 0) (letter (slice_index word 0)) x (λ v. letter_is (slice_index word 0) v) h)
    (λ _ h. long_is word x h)

pub operand_is : (t : Tok) (x : Operand) → operand_of t ≡ Some x → t ≡ operand_token x
operand_is (tok.Word w) x h = operand_name w x h
operand_is (tok.Num n) x h = let k : operand.Num n ≡ x = cc in ap operand_token k
operand_is (tok.Cond c) x h = let k : operand.Cond c ≡ x = cc in ap operand_token k
operand_is (tok.Sign r) x h = absurd (cc)
operand_is (tok.Service m) x h = absurd (cc)
operand_is (tok.Quote b) x h = absurd (cc)

target_var : (b : ℕ) (o : Option ℕ) (x : Target) → ((v : ℕ) → o ≡ Some v → b ≡ v) → option_map target.Var o ≡ Some x → tok.Word (b ∷ []) ≡ target_token x
target_var b None x k h = absurd (cc)
target_var b (Some v) x k h = let e : target.Var v ≡ x = cc in ap (λ c. tok.Word (c ∷ [])) (k v refl) ∙ ap target_token e

pub target_name : (word : List ℕ) (x : Target) → target_word word ≡ Some x → tok.Word word ≡ target_token x
target_name word x =
    either_by {A = Option Target} (λ o. o ≡ Some x → tok.Word word ≡ target_token x) (length word == 1) _ _
    (λ e h. ap tok.Word (one_letter word e) ∙ target_var (slice_index word 0) (letter (slice_index word 0)) x (λ v. letter_is (slice_index word 0) v) h) (λ _.
    either_by {A = Option Target} (λ o. o ≡ Some x → tok.Word word ≡ target_token x) (bytes_eq word (codes "R0")) _ _
    (λ e h. let k : target.R0 ≡ x = cc in ap tok.Word (bytes_are word (codes "R0") e) ∙ ap target_token k) (λ _ h. absurd (cc)))

target_is : (t : Tok) (x : Target) → target_in t ≡ Ok x → t ≡ target_token x
target_is (tok.Word w) x h = target_name w x (given_ok kind.Name (target_word w) x h)
target_is (tok.Num n) x h = absurd (cc)
target_is (tok.Cond c) x h = absurd (cc)
target_is (tok.Sign r) x h = absurd (cc)
target_is (tok.Service m) x h = absurd (cc)
target_is (tok.Quote b) x h = absurd (cc)

-- Fields at a place.

by_token : (k : ℕ) (tokens : List Tok) (t u : Tok) → At k tokens t → t ≡ u → At k tokens u
by_token k tokens t u a e = a ∙ ap (λ v. v ∷ drop (k + 1) tokens) e

pub sign_found : (k s : ℕ) (tokens : List Tok) (u : Unit {0}) → sign_at s (drop k tokens) ≡ Ok u → At k tokens (tok.Sign s)
sign_found k s tokens u h =
    let b = bind_ok (first_of (drop k tokens)) _ u h in
    by_token k tokens b.0 (tok.Sign s) (first_at k tokens b.0 b.1) (sign_token s b.0 (when_ok _ _ u b.2))

pub word_found : (k : ℕ) (text : List ℕ) (tokens : List Tok) (u : Unit {0}) → word_at text (drop k tokens) ≡ Ok u → At k tokens (tok.Word text)
word_found k text tokens u h =
    let b = bind_ok (first_of (drop k tokens)) _ u h in
    by_token k tokens b.0 (tok.Word text) (first_at k tokens b.0 b.1) (word_token text b.0 (when_ok _ _ u b.2))

pub name_found : (k : ℕ) (tokens : List Tok) (name : List ℕ) → name_at (drop k tokens) ≡ Ok name → At k tokens (tok.Word name)
name_found k tokens name h =
    let b = bind_ok (first_of (drop k tokens)) _ name h in
    by_token k tokens b.0 (tok.Word name) (first_at k tokens b.0 b.1) (name_token b.0 name b.2)

pub number_found : (k low high : ℕ) (tokens : List Tok) (n : ℕ) → number_at low high (drop k tokens) ≡ Ok n → At k tokens (tok.Num n) × IsInRange low high n
number_found k low high tokens n h =
    let b = bind_ok (first_of (drop k tokens)) _ n h in
    let c = bind_ok (number_in b.0) (within low high) n b.2 in
    let w = within_ok low high c.0 n c.2 in
    (by_token k tokens b.0 (tok.Num n) (first_at k tokens b.0 b.1) (number_token b.0 c.0 c.1 ∙ ap tok.Num w.0), w.1)

pub text_found : (k : ℕ) (tokens : List Tok) (text : List ℕ) → text_at (drop k tokens) ≡ Ok text → At k tokens (tok.Quote text) × (length text ≤ 2048)
text_found k tokens text h =
    let b = bind_ok (first_of (drop k tokens)) _ text h in
    let w = text_token b.0 text b.2 in
    (by_token k tokens b.0 (tok.Quote text) (first_at k tokens b.0 b.1) w.0, w.1)

pub operand_found : (k : ℕ) (tokens : List Tok) (x : Operand) → operand_at (drop k tokens) ≡ Ok x → At k tokens (operand_token x)
operand_found k tokens x h =
    let b = bind_ok (first_of (drop k tokens)) _ x h in
    by_token k tokens b.0 (operand_token x) (first_at k tokens b.0 b.1) (operand_is b.0 x (given_ok _ _ x b.2))

pub target_found : (k : ℕ) (tokens : List Tok) (x : Target) → target_at (drop k tokens) ≡ Ok x → At k tokens (target_token x)
target_found k tokens x h =
    let b = bind_ok (first_of (drop k tokens)) target_in x h in
    by_token k tokens b.0 (target_token x) (first_at k tokens b.0 b.1) (target_is b.0 x b.2)

-- a word from a list of words, at a place
pub choice_found : {A : Type 0} (k : ℕ) (fault : FaultKind) (tokens : List Tok) (name : A → List ℕ) (of : Tok → Option A) (x : A)
    → ((t : Tok) → of t ≡ Some x → t ≡ tok.Word (name x)) → (first_of (drop k tokens) >>= λ t. given fault (of t)) ≡ Ok x → At k tokens (tok.Word (name x))
choice_found k fault tokens name of x token h =
    let b = bind_ok (first_of (drop k tokens)) (λ t. given fault (of t)) x h in
    by_token k tokens b.0 (tok.Word (name x)) (first_at k tokens b.0 b.1) (token b.0 (given_ok fault (of b.0) x b.2))
